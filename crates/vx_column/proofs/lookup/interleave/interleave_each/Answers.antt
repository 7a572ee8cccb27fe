use Rattle.std.proofs.Common.{rules, ◌≡◌, ◌+◌, ◌<◌, ◌^◌, ◌∙◌, inl, inr, map, length, sym, ap, subst, arith}
use Rattle.std.proofs.lemmas.List.{length-map}
use Rattle.std.proofs.lemmas.List.FromFn.{length-map-range_with_len}
use Rattle.std.proofs.lemmas.Result.{IfOk-weaker, err_from_is_err_and}
use Rattle.vx_value.specs.Cell.{value}
use Rattle.vx_tree.specs.Canonicals.{columnar_tree, canonical_tree}
use Rattle.vx_tree.specs.Tree.{len}
use Rattle.vx_column.specs.Interleaved.{first_type, pair_cell, pair_cells}
use Rattle.vx_column.specs.LookedUp.{IsNotLookedUp}
use Rattle.vx_column.proofs.ComputedLemmas.{rows_more}
use Rattle.vx_column.proofs.EachLemmas.{never_refused, built_found}
use Rattle.vx_column.proofs.lookup.interleave.interleave_each.Goals as goal

pub loop-index-preserved : goal.loop-index-preserved
loop-index-preserved c =
    let arrays = columnar_tree c.args.array_indices.now in
    let places = columnar_tree c.args.row_indices.now in
    let values = map columnar_tree c.args.values.now in
    let more = c.in_ok-append_scalar.ensures.ok in (
      ap (λ r. r.pieces) more ∙ c.loop-index.invariant.0,
      ap (λ r. r.of_type) more ∙ c.loop-index.invariant.1,
      ap (λ r. map (λ v. value v) r.values) more
          ∙ rows_more (λ v. value v) (pair_cell arrays places values) c.loop-index.column.values c.loop-index.index c.in_ok-scalar.scalar.value
          c.loop-index.invariant.2 c.in_ok-scalar.ensures.ok,
    )

pub returns-in_err-append_scalar-clause-err : goal.returns-in_err-append_scalar-clause-err
returns-in_err-append_scalar-clause-err c =
    let arrays = columnar_tree c.args.array_indices.now in
    let places = columnar_tree c.args.row_indices.now in
    let values = map columnar_tree c.args.values.now in
    let rows_so_far = c.loop-index.column.values in
    let typed = c.in_ok-scalar.ensures.typed ∙ sym c.loop-index.invariant.1 in
    let long : length rows_so_far ≡ c.loop-index.index =
    sym (length-map rows_so_far (λ v. value v)) ∙ ap length c.loop-index.invariant.2
    ∙ length-map-range_with_len (pair_cell arrays places values) 0 c.loop-index.index in
    let last = c.loop-index-test.true in
    let top : c.len-len.result < 2 ^ 64 = search rules in
    let fits : length rows_so_far + 1 < 2 ^ 64 = omega (arith, long, last, top) in
    let p = err_from_is_err_and c.from_residual-in_err-append_scalar.result c.from_residual-in_err-append_scalar.ensures.1 in
    rw p.1 (subst (IsNotLookedUp (pair_cells arrays places values (len arrays))) (sym p.2) (elim c.in_err-append_scalar.ensures.refused [
      | inl memory ↦ inl memory
      | inr h ↦ absurd (never_refused c.loop-index.column c.in_ok-scalar.scalar _ c.loop-index.invariant.0 typed fits h)
    ]))

pub returns-clause-ok : goal.returns-clause-ok
returns-clause-ok c =
    let arrays = columnar_tree c.args.array_indices.now in
    let places = columnar_tree c.args.row_indices.now in
    let values = map columnar_tree c.args.values.now in
    let over : c.loop-index.index ≡ c.len-len.result = omega arith in
    let all : c.loop-index.index ≡ len arrays = over ∙ c.len-len.ensures in
    IfOk-weaker c.finish.result _ _
    (λ u new. built_found c.loop-index.column (first_type values) (len arrays) (pair_cells arrays places values (len arrays)) (canonical_tree u)
    c.loop-index.invariant.0 c.dtype-dtype.ensures.grown new c.loop-index.invariant.1 (c.loop-index.invariant.2 ∙ ap (pair_cells arrays places values) all)
    (length-map-range_with_len (pair_cell arrays places values) 0 (len arrays)))
    c.finish.ensures.ok
