use Rattle.std.proofs.Common.{◌≢◌, ◌∙◌, pos, ap, subst, of_z}
use Rattle.std.specs.Int.{w128}
use Rattle.vx_column.proofs.ArithmeticLemmas.{quotient_fitted, own_fits, quotient_checks}
use Rattle.vx_column.proofs.functions.operator.arithmetic.QuotientArithmetic.calculate_row.Goals as goal

pub returns : goal.returns
returns g c =
    let read = g.T.Number.value in
    let y = read c.args.rhs in
    let value = c.widened.ensures.value in
    let other : y ≢ pos 0 = λ e. c.if-widened-eq0.false (ap (of_z w128) (value ∙ e)) in
    let can = (g.T.Number.nonzero_law y g.met.T.Integral.exact_law (subst g.T.Number.fits value c.widened.ensures.fits)).1 other in
    let found = quotient_checks read g.T.Number.fits (g.T.Number.nonzero y) _ c.checked_div.result can
    (g.met.T.CheckedDiv.checked_div_law c.args.lhs c.args.rhs c.checked_div.result c.checked_div.ensures) in
    record {
      calculated = quotient_fitted read g.T.Number.fits (read c.args.lhs) y other c.checked_div.result found;
      fits = own_fits read g.T.Number.fits _ _ found;
    }
