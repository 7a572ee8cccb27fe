use Rattle.std.specs.Ordering.{int_cmp}
use Rattle.vx_column.specs.declared.rows.argument.ArgumentRows.TheVariants.{Integers}
use Rattle.vx_column.specs.Operands.{number_in}
use Rattle.vx_column.proofs.BetweenLemmas.{values_between}
use Rattle.vx_column.proofs.ComparisonLemmas.{integers}
use Rattle.vx_column.proofs.functions.operator.bounds.between_natives.Goals as goal

pub returns : goal.returns
returns g c =
    let read = g.T.Number.value in
    let here = c.operand_of-array.ensures.numbers in
    values_between c.args.options c.args.valid.now (Integers c.args.array) (Integers c.args.lower) (Integers c.args.upper)
    (integers (number_in read c.operand_of-array.result)) (integers (number_in read c.operand_of-lower.result))
    (integers (number_in read c.operand_of-upper.result)) c.args.len _
    (λ i j. int_cmp (c.operand_of-lower.ensures.numbers j i) (here j i)) (λ i j. int_cmp (here j i) (c.operand_of-upper.ensures.numbers j i))
    c.between_ordered.ensures
