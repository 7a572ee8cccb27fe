use Rattle.std.proofs.Common.{◌≡◌, length, replicate, inl, inr, sym, ap, subst, ◌∙◌}
use Rattle.std.proofs.lemmas.Result.{IfOk-weaker, err_from_is_err_and}
use Rattle.vx_value.specs.Types.{nullability_of}
use Rattle.vx_value.specs.Supported.{has_columns}
use Rattle.vx_value.specs.Nullabilities.{union}
use Rattle.vx_value.proofs.SupportedLemmas.{columns_kept}
use Rattle.vx_value.specs.Cell.{value, fault}
use Rattle.vx_fn.specs.Meanings.{widen}
use Rattle.vx_tree.specs.Canonicals.{columnar_tree}
use Rattle.vx_tree.specs.Cells.{rows}
use Rattle.vx_tree.specs.Tree.{dtype}
use Rattle.vx_tree.specs.Lookups.{taken, taken_cells}
use Rattle.vx_tree.proofs.CellsLemmas.{rows_counted}
use Rattle.vx_column.specs.LookedUp.{named_type, IsNotLookedUp}
use Rattle.vx_column.proofs.EachLemmas.{copies_found, copies_missed}
use Rattle.vx_column.proofs.lookup.take.take_constant.Goals as goal

pub returns-clause-ok : goal.returns-clause-ok
returns-clause-ok c =
    let t = columnar_tree c.args.values.now in
    let code = c.args.code.now in
    let of = c.as_array-array.ensures.of in
    let long : length (rows c.as_array-array.result.now) ≡ c.len.result =
    rows_counted c.as_array-array.result.now c.well_formed_tree.ensures.formed ∙ sym c.len.ensures in
    let named = c.in_ok-scalar.ensures.ok in
    let found = c.in_ok-place.ensures.ok.named (rows c.as_array-array.result.now) long ∙ named.0 in
    let typed = named.1 ∙ ap (λ m. named_type m (dtype c.as_array-array.result.now))
    (c.nullability-nullability.ensures ∙ ap nullability_of c.dtype.ensures.dtype) ∙ ap (widen code.of_type) (ap dtype of) in
    IfOk-weaker c.constant.result _ _
    (λ u. copies_found (widen code.of_type (dtype t)) c.args.len (rows t) code.value c.in_ok-scalar.scalar (columnar_tree u) c.requires.some
    (subst (λ x. taken (rows x) (value code.value) ≡ value c.in_ok-scalar.scalar.value) of found) typed)
    c.constant.ensures.ok

pub returns-in_err-place-clause-err : goal.returns-in_err-place-clause-err
returns-in_err-place-clause-err c =
    let t = columnar_tree c.args.values.now in
    let of = c.as_array-array.ensures.of in
    let long : length (rows c.as_array-array.result.now) ≡ c.len.result =
    rows_counted c.as_array-array.result.now c.well_formed_tree.ensures.formed ∙ sym c.len.ensures in
    let p = err_from_is_err_and c.from_residual.result c.from_residual.ensures.1 in
    let h = c.in_err-place.ensures.err in
    rw p.1 (subst (IsNotLookedUp (taken_cells (replicate c.args.len (value c.args.code.now.value)) (rows t))) (sym p.2)
    (copies_missed c.args.len (rows t) c.args.code.now.value c.in_err-place.field-0.0 c.requires.some
    (inr (h.0, subst (λ x. taken (rows x) (value c.args.code.now.value) ≡ fault) of (h.1 (rows c.as_array-array.result.now) long)))))

pub returns-in_err-scalar-clause-err : goal.returns-in_err-scalar-clause-err
returns-in_err-scalar-clause-err c =
    let t = columnar_tree c.args.values.now in
    let of = c.as_array-array.ensures.of in
    let long : length (rows c.as_array-array.result.now) ≡ c.len.result =
    rows_counted c.as_array-array.result.now c.well_formed_tree.ensures.formed ∙ sym c.len.ensures in
    let p = err_from_is_err_and c.from_residual-in_err-scalar.result c.from_residual-in_err-scalar.ensures.1 in
    rw p.1 (subst (IsNotLookedUp (taken_cells (replicate c.args.len (value c.args.code.now.value)) (rows t))) (sym p.2)
    (copies_missed c.args.len (rows t) c.args.code.now.value c.in_err-scalar.field-0.0 c.requires.some (elim c.in_err-scalar.ensures.err [
      | inl memory ↦ inl memory
      | inr h ↦ inr (
        h.0,
        subst (λ x. taken (rows x) (value c.args.code.now.value) ≡ fault) of
            (c.in_ok-place.ensures.ok.named (rows c.as_array-array.result.now) long ∙ h.1),
      )
    ])))

pub constant-requires : goal.constant-requires
constant-requires c =
    let ty = dtype c.as_array-array.result.now in
    ap has_columns c.in_ok-scalar.ensures.ok.1 ∙ columns_kept (union c.nullability-nullability.result (nullability_of ty)) ty
    ∙ c.well_formed_tree.ensures.supported
