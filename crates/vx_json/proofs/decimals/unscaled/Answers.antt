use Rattle.std.proofs.Common.{◌≡◌, None, rules}
use Rattle.vx_json.specs.SpelledValues.{decimal_in}
use Rattle.vx_json.proofs.SpelledDecimalsLemmas.{unparsed, unwritten}
use Rattle.vx_json.proofs.decimals.unscaled.Goals as goal

pub returns-in_err-unscaled-clause-unwritten : goal.returns-in_err-unscaled-clause-unwritten
returns-in_err-unscaled-clause-unwritten c =
    let digits = c.args.digits in
    let none : decimal_in digits.precision c.args.text.now ≡ None = search (rules, unparsed) in
    let other = unwritten digits.precision c.args.text.now digits.is_beyond.0 none in
    search (rules, other)

pub returns-else-contain-clause-unwritten : goal.returns-else-contain-clause-unwritten
returns-else-contain-clause-unwritten c =
    let digits = c.args.digits in
    let none : decimal_in digits.precision c.args.text.now ≡ None = search rules in
    unwritten digits.precision c.args.text.now digits.is_beyond.0 none
