use Rattle.std.proofs.Common.{sym, ap, ◌∙◌}
use Rattle.vx_column.specs.Arguments.{bytes_in}
use Rattle.vx_column.specs.Casts.{none_unless}
use Rattle.vx_column.proofs.TextLemmas.{none_text}
use Rattle.vx_column.proofs.functions.cast.text.text_at.Goals as goal

pub returns-then-not-is_valid : goal.returns-then-not-is_valid
returns-then-not-is_valid c =
    (sym (ap (λ b. none_unless b (bytes_in c.args.bytes.now c.args.index)) (sym c.is_valid.ensures ∙ c.if-not-is_valid.true)), none_text)
