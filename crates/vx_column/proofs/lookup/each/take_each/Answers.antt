use Rattle.std.proofs.Common.{inl, inr, ap, map, length, sym, subst, arith, ◌≡◌, ◌+◌, ◌<◌, ◌^◌, ◌∙◌}
use Rattle.std.proofs.lemmas.List.{length-map}
use Rattle.std.proofs.lemmas.List.FromFn.{length-map-range_with_len}
use Rattle.std.proofs.lemmas.Result.{IfOk-weaker, err_from_is_err_and}
use Rattle.vx_value.specs.Supported.{has_columns}
use Rattle.vx_value.specs.Nullabilities.{with_nullability}
use Rattle.vx_value.proofs.SupportedLemmas.{columns_kept}
use Rattle.vx_value.specs.Cell.{value}
use Rattle.vx_tree.specs.Canonicals.{canonical_tree}
use Rattle.vx_tree.specs.Cells.{rows}
use Rattle.vx_tree.specs.Tree.{dtype}
use Rattle.vx_column.specs.LookedUp.{named_cells, named_type, cell_named, place_if, place_at, IsNotNamed, IsNotLookedUp}
use Rattle.vx_column.specs.ValidRows.{is_valid, nullability_in}
use Rattle.vx_column.proofs.ComputedLemmas.{rows_more}
use Rattle.vx_column.proofs.EachLemmas.{name_missed, never_refused, built_found}
use Rattle.vx_column.proofs.lookup.each.take_each.Goals as goal

pub loop-index-preserved : goal.loop-index-preserved
loop-index-preserved c =
    let i = c.loop-index.index in
    let values = c.args.values.now in
    let valid = c.args.valid.now in
    let places = c.args.places.now in
    let more = c.in_ok-append_scalar.ensures.ok in
    let place : c.place_if-place.result ≡ place_if (is_valid valid i) (place_at places i) =
    c.place_if-place.ensures ∙ ap (λ b. place_if b (place_at places i)) c.is_valid.ensures in
    let named = subst (λ p. cell_named (rows values) p ≡ value c.in_ok-scalar.scalar.value) place c.in_ok-scalar.ensures.ok.0 in (
      ap (λ r. r.pieces) more ∙ c.loop-index.invariant.0,
      ap (λ r. r.of_type) more ∙ c.loop-index.invariant.1,
      ap (λ r. map (λ v. value v) r.values) more
          ∙ rows_more (λ v. value v) (λ k. cell_named (rows values) (place_if (is_valid valid k) (place_at places k))) c.loop-index.column.values i
          c.in_ok-scalar.scalar.value c.loop-index.invariant.2 named,
    )

pub returns-in_err-scalar-clause-err : goal.returns-in_err-scalar-clause-err
returns-in_err-scalar-clause-err c =
    let i = c.loop-index.index in
    let values = c.args.values.now in
    let valid = c.args.valid.now in
    let places = c.args.places.now in
    let place : c.place_if-place.result ≡ place_if (is_valid valid i) (place_at places i) =
    c.place_if-place.ensures ∙ ap (λ b. place_if b (place_at places i)) c.is_valid.ensures in
    let p = err_from_is_err_and c.from_residual-in_err-scalar.result c.from_residual-in_err-scalar.ensures.1 in
    rw p.1 (subst (IsNotLookedUp (named_cells valid places (rows values) c.args.len)) (sym p.2)
    (name_missed valid places values c.args.len i c.in_err-scalar.field-0.0 c.loop-index-test.true
    (subst (λ q. IsNotNamed values q c.in_err-scalar.field-0.0) place c.in_err-scalar.ensures.err)))

pub returns-in_err-append_scalar-clause-err : goal.returns-in_err-append_scalar-clause-err
returns-in_err-append_scalar-clause-err c =
    let values = c.args.values.now in
    let valid = c.args.valid.now in
    let places = c.args.places.now in
    let rows_so_far = c.loop-index.column.values in
    let typed = c.in_ok-scalar.ensures.ok.1 ∙ ap (λ m. named_type m (dtype values)) c.nullability-codes.ensures ∙ sym c.loop-index.invariant.1 in
    let long : length rows_so_far ≡ c.loop-index.index =
    sym (length-map rows_so_far (λ v. value v)) ∙ ap length c.loop-index.invariant.2
    ∙ length-map-range_with_len (λ k. cell_named (rows values) (place_if (is_valid valid k) (place_at places k))) 0 c.loop-index.index in
    let last = c.loop-index-test.true in
    let top : c.args.len < 2 ^ 64 = c.ranges.len.fits in
    let fits : length rows_so_far + 1 < 2 ^ 64 = omega (arith, long, last, top) in
    let p = err_from_is_err_and c.from_residual-in_err-append_scalar.result c.from_residual-in_err-append_scalar.ensures.1 in
    rw p.1 (subst (IsNotLookedUp (named_cells valid places (rows values) c.args.len)) (sym p.2) (elim c.in_err-append_scalar.ensures.refused [
      | inl memory ↦ inl memory
      | inr h ↦ absurd (never_refused c.loop-index.column c.in_ok-scalar.scalar _ c.loop-index.invariant.0 typed fits h)
    ]))

pub returns-clause-ok : goal.returns-clause-ok
returns-clause-ok c =
    let values = c.args.values.now in
    let valid = c.args.valid.now in
    let places = c.args.places.now in
    let column = c.loop-index.column in
    let all : c.loop-index.index ≡ c.args.len = omega arith in
    let cells = c.loop-index.invariant.2 ∙ ap (named_cells valid places (rows values)) all in
    IfOk-weaker c.finish.result _ _
    (λ u new. built_found column (named_type (nullability_in valid) (dtype values)) c.args.len (named_cells valid places (rows values) c.args.len)
    (canonical_tree u) c.loop-index.invariant.0 c.dtype-dtype.ensures.grown new c.loop-index.invariant.1 cells
    (length-map-range_with_len (λ k. cell_named (rows values) (place_if (is_valid valid k) (place_at places k))) 0 c.args.len))
    c.finish.ensures.ok

pub with_capacity-requires : goal.with_capacity-requires
with_capacity-requires c =
    let ty = dtype c.args.values.now in
    let made = c.in_ok-dtype.ensures.ok ∙ ap (with_nullability c.union.result) c.dtype.ensures.dtype in
    ap has_columns made ∙ columns_kept c.union.result ty ∙ c.dtype.ensures.columns
