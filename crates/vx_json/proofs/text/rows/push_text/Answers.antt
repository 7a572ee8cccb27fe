use Rattle.std.proofs.Common.{◌≡◌, ◌++◌, OnOk, subst, false, rules, string_bytes}
use Rattle.std.specs.List.{list_any}
use Rattle.vx_json.specs.RowText.{has_escape}
use Rattle.vx_json.proofs.RowTextLemmas.{plain_quoted}
use Rattle.vx_json.proofs.text.rows.push_text.Goals as goal

pub returns-then-not-has_escapes : goal.returns-then-not-has_escapes
returns-then-not-has_escapes c =
    let plain : list_any has_escape c.args.utf8.now ≡ false = search rules in
    subst (λ quoted. OnOk c.push_quoted.result (string_bytes c.push_quoted.new.text ≡ string_bytes c.args.text.now ++ quoted))
    (plain_quoted c.args.utf8.now plain) c.push_quoted.ensures
