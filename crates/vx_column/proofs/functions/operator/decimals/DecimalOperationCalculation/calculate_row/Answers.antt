use Rattle.std.proofs.Common.{sym, ◌∙◌}
use Rattle.vx_column.specs.Operands.{number_in}
use Rattle.vx_column.proofs.DigitsLemmas.{row_fault, row_value, row_beyond}
use Rattle.vx_column.proofs.functions.operator.decimals.DecimalOperationCalculation.calculate_row.Goals as goal

pub returns-in_default : goal.returns-in_default
returns-in_default g c =
    row_fault g.T.NativeDecimalType.kind g.A.Arithmetic.operator c.args.self.now.decimal (g.T.Number.value c.args.self.now.limits.least)
    (g.T.Number.value c.args.self.now.limits.greatest) c.requires.2 g.T.Number.fits (λ z. (g.met.T.NativeDecimalType.fits_kind z).1)
    (g.T.Number.value c.row.result) (g.T.Number.value c.row-2.result) (number_in g.T.Number.value c.args.self.now.left c.args.index)
    (number_in g.T.Number.value c.args.self.now.right c.args.index) c.row.ensures c.row-2.ensures c.in_default.ensures.calculated

pub returns-then-contains : goal.returns-then-contains
returns-then-contains g c =
    row_value g.T.NativeDecimalType.kind g.A.Arithmetic.operator c.args.self.now.decimal (g.T.Number.value c.args.self.now.limits.least)
    (g.T.Number.value c.args.self.now.limits.greatest) c.requires.2 g.T.Number.fits (λ z. (g.met.T.NativeDecimalType.fits_kind z).1)
    (g.T.Number.value c.row.result) (g.T.Number.value c.row-2.result) (number_in g.T.Number.value c.args.self.now.left c.args.index)
    (number_in g.T.Number.value c.args.self.now.right c.args.index) c.row.ensures c.row-2.ensures (g.T.Number.value c.in-Some.number)
    c.in-Some.ensures.calculated (sym c.contains.ensures ∙ c.if-contains.true)

pub returns-else-contains : goal.returns-else-contains
returns-else-contains g c =
    row_beyond g.T.NativeDecimalType.kind g.A.Arithmetic.operator c.args.self.now.decimal (g.T.Number.value c.args.self.now.limits.least)
    (g.T.Number.value c.args.self.now.limits.greatest) c.requires.2 g.T.Number.fits (λ z. (g.met.T.NativeDecimalType.fits_kind z).1)
    (g.T.Number.value c.row.result) (g.T.Number.value c.row-2.result) (number_in g.T.Number.value c.args.self.now.left c.args.index)
    (number_in g.T.Number.value c.args.self.now.right c.args.index) c.row.ensures c.row-2.ensures (g.T.Number.value c.in-Some.number)
    c.in-Some.ensures.calculated (sym c.contains.ensures ∙ c.if-contains.false)
