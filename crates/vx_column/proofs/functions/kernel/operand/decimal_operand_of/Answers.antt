use Rattle.std.proofs.Common.{◌≡◌, FitsSigned, true, ap, ◌∙◌, subst, rules}
use Rattle.std.proofs.Math.Facts.{to_z-of_z}
use Rattle.std.specs.Int.{w128}
use Rattle.vx_value.specs.Decimals.{has_digits}
use Rattle.vx_tree.specs.Widths.{fits_width}
use Rattle.vx_tree.proofs.DecimalNumbersLemmas.{digits_fit}
use Rattle.vx_column.specs.Arguments.{HasDecimals}
use Rattle.vx_column.proofs.functions.kernel.operand.decimal_operand_of.Goals as goal

pub narrowed-requires : goal.narrowed-requires
narrowed-requires g c =
    let decimal = c.args.decimals.decimal in
    let wide = c.in-Value.wide in
    let few : has_digits decimal.precision wide ≡ true = subst (λ r. HasDecimals decimal r c.requires.decimals.0) c.in-Value.is c.requires.decimals.1 in
    let fits : FitsSigned w128 wide = search rules in
    ap (fits_width g.T.NativeDecimalType.kind) (to_z-of_z fits)
    ∙ digits_fit g.T.NativeDecimalType.kind decimal.precision wide c.requires.kind decimal.is_decimal.1 few
