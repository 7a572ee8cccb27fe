use Rattle.vx_column.specs.Operands.{number_in}
use Rattle.vx_column.proofs.ArithmeticLemmas.{integer_calculated}
use Rattle.vx_column.proofs.functions.operator.arithmetic.OperationCalculation.calculate_row.Goals as goal

pub returns : goal.returns
returns g c =
    let operation = c.args.self.now in
    integer_calculated g.T.Number.value g.T.Number.fits g.T.NativeInteger.kind g.met.T.NativeInteger.fits_kind g.A.Arithmetic.operator
    (g.T.Number.value c.row.result) (g.T.Number.value c.row-2.result) (number_in g.T.Number.value operation.left c.args.index)
    (number_in g.T.Number.value operation.right c.args.index) c.row.ensures c.row-2.ensures c.calculate_row.result c.calculate_row.ensures.calculated
    c.calculate_row.ensures.fits
