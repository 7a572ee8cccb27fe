use Rattle.std.proofs.Common.{◌≡◌, ◌+◌, ◌<◌, ◌^◌, ◌∙◌, inl, inr, map, length, Some, refl, sym, ap, subst, arith}
use Rattle.std.proofs.lemmas.List.{length-map}
use Rattle.std.proofs.lemmas.List.FromFn.{length-map-range_with_len}
use Rattle.std.proofs.lemmas.Result.{IfOk-weaker, err_from_is_err_and}
use Rattle.vx_value.specs.Cell.{value}
use Rattle.vx_fn.specs.Apply.{apply}
use Rattle.vx_fn.specs.ReturnTypes.{return_type}
use Rattle.vx_tree.specs.Tree.{dtype}
use Rattle.vx_tree.specs.Canonicals.{columnar_tree, canonical_tree}
use Rattle.vx_column.specs.Applied.{row_in, IsUnapplied}
use Rattle.vx_column.specs.Computed.{cells_of}
use Rattle.vx_column.proofs.ComputedLemmas.{rows_more}
use Rattle.vx_column.proofs.EachLemmas.{never_refused, built_found}
use Rattle.vx_column.proofs.RowByRowLemmas.{each_built, row_missed, row_typed}
use Rattle.vx_column.proofs.functions.apply.each.apply_each.Goals as goal

pub loop-index-preserved : goal.loop-index-preserved
loop-index-preserved c =
    let f = c.args.function.now in
    let ts = map columnar_tree c.args.arguments.now in
    let i = c.loop-index.index in
    let column = c.loop-index.column in
    let s = c.in_ok-scalar.scalar in
    let more = c.in_ok-append_scalar.ensures.ok in
    let kept = ap (λ r. r.of_type) more in
    let typed = row_typed f ts i s column.of_type c.loop-index.invariant.1 c.in_ok-scalar.ensures.ok in
    let given : apply f (map dtype ts) column.of_type (row_in ts i) ≡ value s.value =
    ap (λ ty. apply f (map dtype ts) ty (row_in ts i)) (sym typed) ∙ c.in_ok-scalar.ensures.ok.1 in
    let grown = ap (λ r. map (λ v. value v) r.values) more
    ∙ rows_more (λ v. value v) (λ k. apply f (map dtype ts) column.of_type (row_in ts k)) column.values i s.value c.loop-index.invariant.2 given in (
      ap (λ r. r.pieces) more ∙ c.loop-index.invariant.0,
      c.loop-index.invariant.1 ∙ ap Some (sym kept),
      grown ∙ ap (λ ty. cells_of f (map dtype ts) ty (row_in ts) (i + 1)) (sym kept),
    )

pub returns-in_err-scalar-clause-err : goal.returns-in_err-scalar-clause-err
returns-in_err-scalar-clause-err c =
    let f = c.args.function.now in
    let ts = map columnar_tree c.args.arguments.now in
    let p = err_from_is_err_and c.from_residual-in_err-scalar.result c.from_residual-in_err-scalar.ensures.1 in
    rw p.1 (subst (IsUnapplied f ts c.args.len) (sym p.2)
    (row_missed f ts c.args.len c.loop-index.index c.in_err-scalar.field-0.0 c.loop-index-test.true c.in_err-scalar.ensures.err))

pub returns-in_err-append_scalar-clause-err : goal.returns-in_err-append_scalar-clause-err
returns-in_err-append_scalar-clause-err c =
    let f = c.args.function.now in
    let ts = map columnar_tree c.args.arguments.now in
    let column = c.loop-index.column in
    let s = c.in_ok-scalar.scalar in
    let typed = row_typed f ts c.loop-index.index s column.of_type c.loop-index.invariant.1 c.in_ok-scalar.ensures.ok in
    let long : length column.values ≡ c.loop-index.index =
    sym (length-map column.values (λ v. value v)) ∙ ap length c.loop-index.invariant.2
    ∙ length-map-range_with_len (λ k. apply f (map dtype ts) column.of_type (row_in ts k)) 0 c.loop-index.index in
    let last = c.loop-index-test.true in
    let top : c.args.len < 2 ^ 64 = c.ranges.len.fits in
    let fits : length column.values + 1 < 2 ^ 64 = omega (arith, long, last, top) in
    let p = err_from_is_err_and c.from_residual-in_err-append_scalar.result c.from_residual-in_err-append_scalar.ensures.1 in
    rw p.1 (subst (IsUnapplied f ts c.args.len) (sym p.2) (elim c.in_err-append_scalar.ensures.refused [
      | inl memory ↦ inl memory
      | inr h ↦ absurd (never_refused column s _ c.loop-index.invariant.0 typed fits h)
    ]))

pub returns-clause-ok : goal.returns-clause-ok
returns-clause-ok c =
    let f = c.args.function.now in
    let ts = map columnar_tree c.args.arguments.now in
    let column = c.loop-index.column in
    let ty = column.of_type in
    let all : c.loop-index.index ≡ c.args.len = omega arith in
    let cells = c.loop-index.invariant.2 ∙ ap (cells_of f (map dtype ts) ty (row_in ts)) all in
    IfOk-weaker c.finish.result _ _
    (λ u new. each_built f ts c.args.len ty (canonical_tree u) c.loop-index.invariant.1
    (built_found column ty c.args.len (cells_of f (map dtype ts) ty (row_in ts) c.args.len) (canonical_tree u) c.loop-index.invariant.0 c.dtype-dtype.ensures.grown new refl
    cells
    (length-map-range_with_len (λ k. apply f (map dtype ts) ty (row_in ts k)) 0 c.args.len)))
    c.finish.ensures.ok
