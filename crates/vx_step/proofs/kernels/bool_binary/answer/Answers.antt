use Rattle.std.proofs.Common.{◌≡◌, rules, true, Some, Ok, Err, List, map, sym, subst}
use Rattle.std.proofs.lemmas.Result.{err_from_is_err_and}
use Rattle.vx_value.specs.Types.{DataType}
use Rattle.vx_value.specs.Supported.{has_columns}
use Rattle.vx_value.specs.declared.error.VortexError.{VortexError}
use Rattle.vx_fn.specs.ReturnTypes.{return_type}
use Rattle.vx_tree.specs.Tree.{Tree, slots_of, dtype}
use Rattle.vx_tree.specs.Canonicals.{columnar_tree}
use Rattle.vx_tree.specs.declared.canonical.columnar.Columnar.{Columnar}
use Rattle.vx_column.specs.Applied.{IsCall, IsApplied, IsUnapplied}
use Rattle.vx_step.specs.Kernels.{is_logical_call, are_plain, KernelAnswers}
use Rattle.vx_step.specs.declared.kernels.builtin.BuiltinKernelKind.TheVariants.{BoolBinary}
use Rattle.vx_step.proofs.StepsLemmas.{may_call, call_columns}
use Rattle.vx_step.proofs.KernelsLemmas.{plain_columns, applied_answers, unapplied_answers}
use Rattle.vx_step.proofs.kernels.bool_binary.answer.Goals as goal

pub columns_of-requires : goal.columns_of-requires
columns_of-requires c =
    let plain : are_plain (slots_of c.in-ScalarFn.slots.now) ≡ true = search rules in
    plain_columns (slots_of c.in-ScalarFn.slots.now) plain

pub apply_fn-requires-clause-call : goal.apply_fn-requires-clause-call
apply_fn-requires-clause-call c =
    let f = c.in-ScalarFn.function.now in
    let ts = map columnar_tree c.in_ok-columns.columns.items in
    let call = may_call f c.args.filled.now (slots_of c.in-ScalarFn.slots.now) ts c.in-ScalarFn.ensures.0 c.in-ScalarFn.ensures.1 c.in_ok-columns.ensures in
    subst (λ (xs : List Columnar). IsCall f (map columnar_tree xs) c.len.result) (sym c.as_slice.ensures.value)
    (subst (λ n. IsCall f ts n) (sym c.len.ensures) call)

pub apply_fn-requires-clause-columns : goal.apply_fn-requires-clause-columns
apply_fn-requires-clause-columns c =
    let f = c.in-ScalarFn.function.now in
    let ts = map columnar_tree c.in_ok-columns.columns.items in
    let columns = call_columns f c.args.filled.now (slots_of c.in-ScalarFn.slots.now) ts c.in-ScalarFn.ensures.0 c.in-ScalarFn.ensures.1 c.in_ok-columns.ensures
    c.well_formed_tree.ensures.supported in
    subst (λ (xs : List Columnar). (ty : DataType) → return_type f (map dtype (map columnar_tree xs)) ≡ Some ty → has_columns ty ≡ true) (sym c.as_slice.ensures.value)
    columns

pub returns : goal.returns
returns c =
    let f = c.in-ScalarFn.function.now in
    let t = c.args.filled.now in
    let ss = slots_of c.in-ScalarFn.slots.now in
    let ts = map columnar_tree c.in_ok-columns.columns.items in
    let u = columnar_tree c.in_ok-column.column in
    let plain : are_plain ss ≡ true = search rules in
    let logical : is_logical_call f ≡ true = search rules in
    let applied =
    subst (λ n. IsApplied f ts n u) c.len.ensures
    (subst (λ (xs : List Columnar). IsApplied f (map columnar_tree xs) c.len.result u) c.as_slice.ensures.value c.in_ok-column.ensures.ok) in
    subst (λ (x : Tree). KernelAnswers BoolBinary c.args.slot t (Ok (Some x))) (sym c.into_array.ensures)
    (applied_answers f t ss ts c.in-ScalarFn.ensures.0 c.in-ScalarFn.ensures.1 c.in_ok-columns.ensures logical plain c.well_formed_tree.ensures.formed c.args.slot u applied c.as_array.ensures.columnar)

pub returns-in_err-column : goal.returns-in_err-column
returns-in_err-column c =
    let p = err_from_is_err_and c.from_residual-in_err-column.result c.from_residual-in_err-column.ensures.1 in
    let f = c.in-ScalarFn.function.now in
    let t = c.args.filled.now in
    let ss = slots_of c.in-ScalarFn.slots.now in
    let ts = map columnar_tree c.in_ok-columns.columns.items in
    let e = c.in_err-column.field-0.0 in
    let plain : are_plain ss ≡ true = search rules in
    let logical : is_logical_call f ≡ true = search rules in
    let unapplied : IsUnapplied f ts c.len.result e =
    subst (λ (xs : List Columnar). IsUnapplied f (map columnar_tree xs) c.len.result e) c.as_slice.ensures.value c.in_err-column.ensures.err in
    let counted = subst (λ n. IsUnapplied f ts n e) c.len.ensures unapplied in
    rw p.1 (subst (λ (x : VortexError). KernelAnswers BoolBinary c.args.slot t (Err x)) (sym p.2)
    (unapplied_answers f t ss ts c.in-ScalarFn.ensures.0 c.in-ScalarFn.ensures.1 c.in_ok-columns.ensures logical plain c.well_formed_tree.ensures.formed c.args.slot e counted))
