use Rattle.std.proofs.Common.{pos, ◌^◌, FitsSigned, sym, ap, subst, ◌∙◌}
use Rattle.std.specs.Int.{w128}
use Rattle.vx_column.proofs.DigitsLemmas.{ten_fits, limits_computed, least_narrow, greatest_narrow}
use Rattle.vx_column.proofs.functions.operator.decimals.DigitLimits.of.Goals as goal

pub pow-beyond-requires : goal.pow-beyond-requires
pow-beyond-requires g c =
    subst (λ p. FitsSigned w128 (pos (10 ^ p))) (sym c.precision.ensures) (ten_fits c.args.decimal.precision c.args.decimal.is_decimal.1)

pub narrowed-requires : goal.narrowed-requires
narrowed-requires g c =
    least_narrow c.args.decimal.precision c.args.decimal.is_decimal.1 c.pow-beyond.result (c.pow-beyond.ensures ∙ ap (λ p. pos (10 ^ p)) c.precision.ensures)
    g.T.NativeDecimalType.kind c.requires

pub narrowed-requires-2 : goal.narrowed-requires-2
narrowed-requires-2 g c =
    greatest_narrow c.args.decimal.precision c.args.decimal.is_decimal.1 c.pow-beyond.result (c.pow-beyond.ensures ∙ ap (λ p. pos (10 ^ p)) c.precision.ensures)
    g.T.NativeDecimalType.kind c.requires

pub returns : goal.returns
returns g c =
    limits_computed c.args.decimal.precision c.args.decimal.is_decimal.1 c.pow-beyond.result (c.pow-beyond.ensures ∙ ap (λ p. pos (10 ^ p)) c.precision.ensures)
    (g.T.Number.value c.narrowed.result) (g.T.Number.value c.narrowed-2.result) c.narrowed.ensures c.narrowed-2.ensures
