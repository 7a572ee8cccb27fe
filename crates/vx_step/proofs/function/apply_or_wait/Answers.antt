use Rattle.std.proofs.Common.{◌≡◌, true, Some, List, map, sym, subst, rules}
use Rattle.vx_value.specs.Types.{DataType}
use Rattle.vx_value.specs.Supported.{has_columns}
use Rattle.vx_fn.specs.ReturnTypes.{return_type}
use Rattle.vx_value.specs.declared.error.VortexError.{VortexError}
use Rattle.vx_tree.specs.Tree.{slots_of, dtype}
use Rattle.vx_tree.specs.Canonicals.{columnar_tree}
use Rattle.vx_tree.specs.Well.{IsWell}
use Rattle.vx_tree.specs.declared.canonical.columnar.Columnar.{Columnar}
use Rattle.vx_step.specs.Steps.{IsDone, IsFailed}
use Rattle.vx_column.specs.Applied.{IsCall, IsApplied, IsUnapplied}
use Rattle.vx_step.proofs.StepsLemmas.{function_waits, slots_present, may_call, call_columns, applied_done, unapplied_failed}
use Rattle.vx_step.proofs.function.apply_or_wait.Goals as goal

pub apply_fn-requires-clause-call : goal.apply_fn-requires-clause-call
apply_fn-requires-clause-call c =
    let f = c.args.scalar_fn.now in
    let ts = map columnar_tree c.in_ok-columns-in-None.columns.items in
    let call = may_call f c.args.array.now (slots_of c.args.slots.now) ts c.requires.shape c.requires.well c.in_ok-columns-in-None.ensures in
    subst (λ (xs : List Columnar). IsCall f (map columnar_tree xs) c.len.result) (sym c.as_slice.ensures.value)
    (subst (λ n. IsCall f ts n) (sym c.len.ensures) call)

pub apply_fn-requires-clause-columns : goal.apply_fn-requires-clause-columns
apply_fn-requires-clause-columns c =
    let f = c.args.scalar_fn.now in
    let ts = map columnar_tree c.in_ok-columns-in-None.columns.items in
    let columns = call_columns f c.args.array.now (slots_of c.args.slots.now) ts c.requires.shape c.requires.well c.in_ok-columns-in-None.ensures
    c.well_formed_tree.ensures.supported in
    subst (λ (xs : List Columnar). (ty : DataType) → return_type f (map dtype (map columnar_tree xs)) ≡ Some ty → has_columns ty ≡ true) (sym c.as_slice.ensures.value)
    columns

pub returns-in_ok-column-in-None-clause-ok : goal.returns-in_ok-column-in-None-clause-ok
returns-in_ok-column-in-None-clause-ok c =
    let f = c.args.scalar_fn.now in
    let ts = map columnar_tree c.in_ok-columns-in-None.columns.items in
    let u = columnar_tree c.in_ok-column-in-None.column in
    let listed =
    subst (λ (xs : List Columnar). IsApplied f (map columnar_tree xs) c.len.result u) c.as_slice.ensures.value c.in_ok-column-in-None.ensures.ok in
    let applied = subst (λ n. IsApplied f ts n u) c.len.ensures listed in
    let well : IsWell u = subst IsWell c.as_array.ensures.of c.well_formed_tree-in-None.ensures.formed in
    subst (λ x. IsDone c.args.array.now x) (sym c.into_array.ensures)
    (applied_done f c.args.array.now (slots_of c.args.slots.now) ts c.requires.shape c.requires.well c.in_ok-columns-in-None.ensures
    c.in-None.ensures u applied well c.as_array.ensures.columnar)

pub returns-in_err-column-in-None-clause-err : goal.returns-in_err-column-in-None-clause-err
returns-in_err-column-in-None-clause-err c =
    let f = c.args.scalar_fn.now in
    let ts = map columnar_tree c.in_ok-columns-in-None.columns.items in
    let stopped : (e : VortexError) → IsUnapplied f (map columnar_tree c.as_slice.result.now) c.len.result e → IsFailed c.args.array.now e = λ e h.
    unapplied_failed f c.args.array.now (slots_of c.args.slots.now) ts c.requires.shape c.requires.well c.in_ok-columns-in-None.ensures
    c.in-None.ensures e
    (subst (λ n. IsUnapplied f ts n e) c.len.ensures
    (subst (λ (xs : List Columnar). IsUnapplied f (map columnar_tree xs) c.len.result e) c.as_slice.ensures.value h)) in
    let here : IsFailed c.args.array.now c.in_err-column-in-None.field-0.0 = stopped _ c.in_err-column-in-None.ensures.err in
    search rules

pub returns-in-Some-clause-ok : goal.returns-in-Some-clause-ok
returns-in-Some-clause-ok c =
    function_waits c.args.scalar_fn.now c.args.array.now (slots_of c.args.slots.now) c.in-Some.slot c.requires.shape c.in-Some.ensures

pub first_waiting-requires : goal.first_waiting-requires
first_waiting-requires c = slots_present c.args.scalar_fn.now c.args.array.now (slots_of c.args.slots.now) c.requires.well
