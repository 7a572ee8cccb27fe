use Rattle.std.proofs.Common.{◌++◌, ◌∙◌, ap, string_bytes}
use Rattle.vx_json.proofs.OutputLemmas.{argument_unnested, scalar_text}
use Rattle.vx_json.proofs.text.lines.ArgumentTextRows.push_text.Goals as goal

pub returns-clause-ok : goal.returns-clause-ok
returns-clause-ok c =
    let rows = c.args.self.now in
    c.in_ok-push_row.ensures
    ∙ ap (λ text. string_bytes c.args.text.now ++ text)
    (scalar_text rows c.args.index c.in_ok-scalar.field-0 (argument_unnested rows c.requires.0 c.requires.2) c.in_ok-scalar.ensures.row c.in_ok-scalar.ensures.typed)
