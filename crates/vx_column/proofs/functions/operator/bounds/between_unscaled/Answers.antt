use Rattle.std.proofs.Common.{sym}
use Rattle.vx_column.specs.declared.rows.argument.ArgumentRows.TheVariants.{Decimals}
use Rattle.vx_column.specs.Operands.{number_in}
use Rattle.vx_column.proofs.BetweenLemmas.{values_between}
use Rattle.vx_column.proofs.ComparisonLemmas.{integers, decimals_ordered}
use Rattle.vx_column.proofs.functions.operator.bounds.between_unscaled.Goals as goal

pub returns : goal.returns
returns g c =
    let x = number_in g.T.Number.value c.decimal_operand_of-array.result in
    let l = number_in g.T.Number.value c.decimal_operand_of-lower.result in
    let u = number_in g.T.Number.value c.decimal_operand_of-upper.result in
    let here = c.decimal_operand_of-array.ensures.numbers in
    values_between c.args.options c.args.valid.now (Decimals c.args.array) (Decimals c.args.lower) (Decimals c.args.upper)
    (integers x) (integers l) (integers u) c.args.len _
    (decimals_ordered c.args.lower c.args.array l x c.decimal_operand_of-lower.ensures.numbers here (sym c.requires.rows.same_lower))
    (decimals_ordered c.args.array c.args.upper x u here c.decimal_operand_of-upper.ensures.numbers c.requires.rows.same_upper) c.between_ordered.ensures
