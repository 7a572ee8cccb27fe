use Rattle.vx_column.proofs.ArithmeticLemmas.{fitted, own_fits}
use Rattle.vx_column.proofs.functions.operator.arithmetic.DifferenceArithmetic.calculate_row.Goals as goal

pub returns : goal.returns
returns g c =
    let found = g.met.T.CheckedSub.checked_sub_law c.args.lhs c.args.rhs c.checked_sub.result c.checked_sub.ensures in
    record { calculated = fitted g.T.Number.value g.T.Number.fits _ c.checked_sub.result found; fits = own_fits g.T.Number.value g.T.Number.fits _ _ found }
