use Rattle.std.proofs.Common.{inl, inr, sym, subst}
use Rattle.std.proofs.lemmas.Result.{IfOk-weaker, err_from_is_err_and}
use Rattle.vx_tree.specs.Cells.{rows, HasNoFault}
use Rattle.vx_tree.specs.Canonicals.{columnar_tree}
use Rattle.vx_column.specs.Arguments.{types_of_scalars, cells_of_scalars}
use Rattle.vx_column.specs.Computed.{IsNoResult}
use Rattle.vx_column.proofs.KeepsLemmas.{copies_clean}
use Rattle.vx_column.proofs.AppliedLemmas.{constant_result, fault_at_row}
use Rattle.vx_column.proofs.functions.apply.constant.apply_constants.Goals as goal

pub returns-clause-ok : goal.returns-clause-ok
returns-clause-ok c =
    let ss = c.args.scalars.now in
    let made = c.in_ok-scalar in
    IfOk-weaker c.constant.result _ _
    (λ u. constant_result c.args.function.now (types_of_scalars ss) (cells_of_scalars ss) c.args.len made.scalar (columnar_tree u) made.ensures.typed
    made.ensures.ok)
    c.constant.ensures.ok

pub returns-clause-whole : goal.returns-clause-whole
returns-clause-whole c =
    IfOk-weaker c.constant.result _ _
    (λ u e. subst (λ t. HasNoFault (rows t)) (sym e) (copies_clean c.args.len c.in_ok-scalar.scalar.value)) c.constant.ensures.ok

pub returns-in_err-scalar-clause-err : goal.returns-in_err-scalar-clause-err
returns-in_err-scalar-clause-err c =
    let ss = c.args.scalars.now in
    let f = c.args.function.now in
    let p = err_from_is_err_and c.from_residual.result c.from_residual.ensures.1 in
    rw p.1 (subst (IsNoResult f (types_of_scalars ss) (λ _. cells_of_scalars ss) c.args.len) (sym p.2) (elim c.in_err-scalar.ensures.fault [
      | inl memory ↦ inl memory
      | inr fault ↦ inr (fault.0, fault_at_row f (types_of_scalars ss) (λ _. cells_of_scalars ss) c.args.len 0 c.requires.some fault.1)
    ]))

pub constant-requires : goal.constant-requires
constant-requires c = c.requires.columns c.in_ok-scalar.scalar.of_type c.in_ok-scalar.ensures.typed
