use Rattle.std.proofs.Common.{sym, subst, ◌∙◌}
use Rattle.std.specs.Prelude.{IsSome}
use Rattle.std.proofs.lemmas.Result.{IfOk-weaker, IfErr-weaker}
use Rattle.vx_fn.specs.Binary.{operator_type}
use Rattle.vx_tree.specs.Canonicals.{canonical_tree}
use Rattle.vx_column.proofs.KernelArgumentsLemmas.{has_stored}
use Rattle.vx_column.proofs.LogicLemmas.{logic_bits, truths_sized}
use Rattle.vx_column.proofs.OperatorLemmas.{operands_same, operands_taken}
use Rattle.vx_column.proofs.PassingLemmas.{operands_shown, operands_computed, operands_not_computed}
use Rattle.vx_column.proofs.functions.operator.operators.operate.Goals as goal

pub truths_of-requires : goal.truths_of-requires
truths_of-requires c =
    logic_bits c.args.operator c.args.lhs.now.rows (sym c.is_logical.ensures ∙ c.if-is_logical.true)
    (operands_taken c.args.operator c.args.len c.args.lhs.now c.args.rhs.now c.requires)

pub truths_of-requires-then-is_logical : goal.truths_of-requires-then-is_logical
truths_of-requires-then-is_logical c =
    let same = operands_same c.args.operator c.args.len c.args.lhs.now c.args.rhs.now c.requires in
    logic_bits c.args.operator c.args.rhs.now.rows (sym c.is_logical.ensures ∙ c.if-is_logical.true)
    (subst (λ t. IsSome (operator_type c.args.operator t)) same
    (operands_taken c.args.operator c.args.len c.args.lhs.now c.args.rhs.now c.requires))

pub join-requires-clause-lhs : goal.join-requires-clause-lhs
join-requires-clause-lhs c = truths_sized c.args.len c.truths_of.result c.args.lhs.now c.truths_of.ensures c.requires.sized.0

pub join-requires-clause-rhs : goal.join-requires-clause-rhs
join-requires-clause-rhs c = truths_sized c.args.len c.truths_of-then-is_logical.result c.args.rhs.now c.truths_of-then-is_logical.ensures c.requires.sized.1.0

pub operate_rows-requires-clause-operands : goal.operate_rows-requires-clause-operands
operate_rows-requires-clause-operands c = record {
  left = has_stored c.args.len c.args.lhs.now c.requires.sized.0;
  right = has_stored c.args.len c.args.rhs.now c.requires.sized.1.0;
  same = operands_same c.args.operator c.args.len c.args.lhs.now c.args.rhs.now c.requires;
  taken = operands_taken c.args.operator c.args.len c.args.lhs.now c.args.rhs.now c.requires;
  sized = c.in_ok-valid.ensures.sized;
}

pub operate_rows-requires-clause-shown : goal.operate_rows-requires-clause-shown
operate_rows-requires-clause-shown c =
    operands_shown c.args.operator c.args.len c.args.lhs.now c.args.rhs.now c.requires
    (sym c.is_logical.ensures ∙ c.if-is_logical.false) c.in_ok-valid.valid c.in_ok-valid.ensures.rows c.in_ok-valid.ensures.nullability

pub returns-clause-ok : goal.returns-clause-ok
returns-clause-ok c =
    IfOk-weaker c.operate_rows.result _ _
    (λ t. operands_computed c.args.operator c.args.len c.args.lhs.now c.args.rhs.now c.requires
    (sym c.is_logical.ensures ∙ c.if-is_logical.false) c.in_ok-valid.valid c.in_ok-valid.ensures.rows c.in_ok-valid.ensures.nullability
    (canonical_tree t))
    c.operate_rows.ensures.ok

pub returns-clause-err : goal.returns-clause-err
returns-clause-err c =
    IfErr-weaker c.operate_rows.result _ _
    (operands_not_computed c.args.operator c.args.len c.args.lhs.now c.args.rhs.now c.requires
    (sym c.is_logical.ensures ∙ c.if-is_logical.false) c.in_ok-valid.valid c.in_ok-valid.ensures.rows c.in_ok-valid.ensures.nullability)
    c.operate_rows.ensures.err
