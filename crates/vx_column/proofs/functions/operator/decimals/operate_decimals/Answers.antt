use Rattle.std.proofs.Common.{refl}
use Rattle.std.proofs.lemmas.Result.{IfOk-weaker}
use Rattle.vx_value.specs.Order.{value_cmp}
use Rattle.vx_value.specs.Values.{integer}
use Rattle.vx_tree.specs.Canonicals.{canonical_tree}
use Rattle.vx_column.specs.declared.rows.argument.ArgumentRows.TheVariants.{Decimals}
use Rattle.vx_column.specs.Operands.{number_in}
use Rattle.vx_column.proofs.ComparisonLemmas.{ordered_filled, decimals_ordered}
use Rattle.vx_column.proofs.OperatorLemmas.{decimals_compared}
use Rattle.vx_column.proofs.functions.operator.decimals.operate_decimals.Goals as goal

pub compare_ordered-requires-clause-operator : goal.compare_ordered-requires-clause-operator
compare_ordered-requires-clause-operator g c =
    let d = c.args.lhs.decimal in
    decimals_compared c.args.operator d.precision d.scale c.requires.operands.taken c.in_default.not-Add c.in_default.not-Sub

pub returns-in_default-clause-ok : goal.returns-in_default-clause-ok
returns-in_default-clause-ok g c =
    let read = g.T.Number.value in
    let d = c.args.lhs.decimal in
    let l = number_in read c.decimal_operand_of-left.result in
    let r = number_in read c.decimal_operand_of.result in
    IfOk-weaker c.compare_ordered.result _ _
    (λ t made. ordered_filled c.args.operator (Decimals c.args.lhs) (Decimals c.args.rhs) (λ i. value_cmp (integer (l i)) (integer (r i)))
    c.args.valid.now c.args.len (canonical_tree t) refl refl
    (decimals_compared c.args.operator d.precision d.scale c.requires.operands.taken c.in_default.not-Add c.in_default.not-Sub)
    (decimals_ordered c.args.lhs c.args.rhs l r c.decimal_operand_of-left.ensures.numbers c.decimal_operand_of.ensures.numbers c.requires.operands.same) made)
    c.compare_ordered.ensures.ok
