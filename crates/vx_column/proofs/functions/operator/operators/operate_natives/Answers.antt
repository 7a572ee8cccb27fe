use Rattle.std.proofs.Common.{refl, ap}
use Rattle.std.proofs.lemmas.Result.{IfOk-weaker}
use Rattle.vx_tree.specs.Canonicals.{canonical_tree}
use Rattle.vx_column.specs.Arguments.{ptype_in}
use Rattle.vx_column.specs.declared.rows.argument.ArgumentRows.TheVariants.{Integers}
use Rattle.vx_column.specs.Operands.{number_in}
use Rattle.vx_column.proofs.ComparisonLemmas.{integers, compared_filled}
use Rattle.vx_column.proofs.OperatorLemmas.{integers_compared}
use Rattle.vx_column.proofs.functions.operator.operators.operate_natives.Goals as goal

pub compare_ordered-requires-clause-operator : goal.compare_ordered-requires-clause-operator
compare_ordered-requires-clause-operator g c =
    let other = c.in_default in
    integers_compared c.args.operator (ptype_in c.args.lhs) c.requires.operands.taken other.not-Add other.not-Sub other.not-Mul other.not-Div

pub returns-in_default-clause-ok : goal.returns-in_default-clause-ok
returns-in_default-clause-ok g c =
    let read = g.T.Number.value in
    let other = c.in_default in
    IfOk-weaker c.compare_ordered.result _ _
    (λ t made. compared_filled c.args.operator (Integers c.args.lhs) (Integers c.args.rhs) (integers (number_in read c.operand_of-left.result))
    (integers (number_in read c.operand_of.result)) c.args.valid.now c.args.len (canonical_tree t) refl refl
    (integers_compared c.args.operator (ptype_in c.args.lhs) c.requires.operands.taken other.not-Add other.not-Sub other.not-Mul other.not-Div)
    (ap integers c.operand_of-left.ensures.numbers) (ap integers c.operand_of.ensures.numbers) made)
    c.compare_ordered.ensures.ok
