use Rattle.vx_column.proofs.ArithmeticLemmas.{fitted, own_fits}
use Rattle.vx_column.proofs.functions.operator.arithmetic.SumArithmetic.calculate_row.Goals as goal

pub returns : goal.returns
returns g c =
    let found = g.met.T.CheckedAdd.checked_add_law c.args.lhs c.args.rhs c.checked_add.result c.checked_add.ensures in
    record { calculated = fitted g.T.Number.value g.T.Number.fits _ c.checked_add.result found; fits = own_fits g.T.Number.value g.T.Number.fits _ _ found }
