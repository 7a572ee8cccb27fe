use Rattle.std.proofs.Common.{◌≡◌, None, refl, inr, rules, arith}
use Rattle.std.proofs.lemmas.Grind.{common_steps}
use Rattle.vx_json.specs.SpelledValues.{hex_bytes}
use Rattle.vx_json.proofs.HexDigitsLemmas.{read_back, unread}
use Rattle.vx_json.proofs.SpelledBytesLemmas.{halved}
use Rattle.vx_json.proofs.bytes.decode.Goals as goal

pub returns-then-has_capitals-clause-unwritten : goal.returns-then-has_capitals-clause-unwritten
returns-then-has_capitals-clause-unwritten c =
    let none : hex_bytes c.args.digits.now ≡ None = search (rules, halved) in
    inr (refl, unread c.args.digits.now none)

pub returns-in-Ok-clause-written : goal.returns-in-Ok-clause-written
returns-in-Ok-clause-written c = read_back c.args.digits.now _ (grind (arith, halved, common_steps))

pub returns-in-Err-clause-unwritten : goal.returns-in-Err-clause-unwritten
returns-in-Err-clause-unwritten c =
    let none : hex_bytes c.args.digits.now ≡ None = search (rules, halved) in
    inr (refl, unread c.args.digits.now none)
