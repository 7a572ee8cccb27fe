use Rattle.std.proofs.Common.{sym, ap, subst, ◌∙◌}
use Rattle.std.proofs.lemmas.Result.{IfOk-weaker}
use Rattle.std.specs.Prelude.{IsSome}
use Rattle.vx_fn.specs.Binary.{operator_type}
use Rattle.vx_fn.specs.declared.function.ScalarFnRef.TheVariants.{Binary}
use Rattle.vx_tree.specs.Canonicals.{canonical_tree}
use Rattle.vx_column.specs.Arguments.{plain_type, pair_types, pair_at, value_at, AreShown}
use Rattle.vx_column.specs.ValidRows.{nullability_in}
use Rattle.vx_column.specs.Filled.{filled_type}
use Rattle.vx_column.proofs.ComparisonLemmas.{bytes_ordered, bytes_compared, compared_filled}
use Rattle.vx_column.proofs.FilledLemmas.{nulls_filled}
use Rattle.vx_column.proofs.OperatorLemmas.{nulls_typed}
use Rattle.vx_column.proofs.functions.operator.operators.operate_rows.Goals as goal

pub returns-in_ok-bits-in-Nulls-Nulls-clause-ok : goal.returns-in_ok-bits-in-Nulls-Nulls-clause-ok
returns-in_ok-bits-in-Nulls-Nulls-clause-ok c =
    let op = c.args.operator in
    let valid = c.args.valid.now in
    let is = c.in-Nulls-Nulls.is-0 in
    nulls_filled (Binary op) (pair_types c.args.lhs c.args.rhs) (operator_type op (plain_type c.args.lhs)) (pair_at c.args.lhs c.args.rhs) valid c.args.len c.valid_bools.result
    c.in_ok-bits-in-Nulls-Nulls.bits
    (ap (λ r. filled_type valid (operator_type op (plain_type r))) is
    ∙ nulls_typed op (nullability_in valid) (subst (λ r. IsSome (operator_type op (plain_type r))) is c.requires.operands.taken))
    (subst (λ r. AreShown r valid c.args.len) is c.requires.shown)
    c.valid_bools.ensures.ok

pub compare_ordered-requires-clause-operator : goal.compare_ordered-requires-clause-operator
compare_ordered-requires-clause-operator c = bytes_compared c.args.operator c.in-Bytes-Bytes.is-0 c.requires.operands.taken

pub returns-in-Bytes-Bytes-clause-ok : goal.returns-in-Bytes-Bytes-clause-ok
returns-in-Bytes-Bytes-clause-ok c =
    let arm = c.in-Bytes-Bytes in
    IfOk-weaker c.compare_ordered.result _ _
    (λ t made. compared_filled c.args.operator c.args.lhs c.args.rhs _ _ c.args.valid.now c.args.len (canonical_tree t) (bytes_ordered arm.is-0)
    (bytes_ordered arm.is-1) (bytes_compared c.args.operator arm.is-0 c.requires.operands.taken) (ap value_at (sym arm.is-0)) (ap value_at (sym arm.is-1)) made)
    c.compare_ordered.ensures.ok
