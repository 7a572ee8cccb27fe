use Rattle.std.proofs.Common.{rules}
use Rattle.vx_tree.proofs.DecimalNumbersLemmas.{digits_fit}
use Rattle.vx_json.proofs.decimals.DigitsNumberReader.number.Goals as goal

pub narrowed-requires : goal.narrowed-requires
narrowed-requires g c =
    let digits = c.args.self.now in
    let number = c.in_ok-decimal.field-0 in
    let fits = digits_fit g.T.NativeDecimalType.kind digits.precision number c.requires digits.is_beyond.0 c.in_ok-decimal.ensures.digits in
    search (rules, fits)
