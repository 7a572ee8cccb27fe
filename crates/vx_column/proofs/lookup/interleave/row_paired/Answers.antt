use Rattle.std.proofs.Common.{◌≡◌, ◌<◌, length, map, get_or, inl, inr, sym, ap, subst, ◌∙◌}
use Rattle.std.proofs.lemmas.Option.{get_or_from_slice_get}
use Rattle.std.proofs.lemmas.Result.{IfOk-weaker, IfErr-weaker, err_from_is_err_and}
use Rattle.vx_value.specs.Supported.{has_columns}
use Rattle.vx_value.specs.Cell.{value, fault}
use Rattle.vx_tree.specs.Canonicals.{columnar_tree}
use Rattle.vx_tree.specs.Cells.{rows, cells_at}
use Rattle.vx_tree.proofs.CellsLemmas.{rows_counted}
use Rattle.vx_column.specs.Interleaved.{IsNotPaired}
use Rattle.vx_column.specs.LookedUp.{place_cell}
use Rattle.vx_column.proofs.InterleavedLemmas.{column_at, column_type, lists_counted, no_list, no_row, paired_known, row_unread}
use Rattle.vx_column.proofs.lookup.interleave.row_paired.Goals as goal

pub returns-in_err-place-clause-err : goal.returns-in_err-place-clause-err
returns-in_err-place-clause-err c =
    let values = c.args.values.now in
    let ts = map columnar_tree values in
    let v = c.args.array.now.value in
    let h = c.in_err-place.ensures.err in
    let p = err_from_is_err_and c.from_residual.result c.from_residual.ensures.1 in
    rw p.1 (subst (IsNotPaired ts c.args.array.now c.args.row.now) (sym p.2)
    (inr (h.0, no_list (map rows ts) v (value c.args.row.now.value) (ap (λ n. place_cell n v) (lists_counted values) ∙ h.2))))

pub returns-in_err-place-2-clause-err : goal.returns-in_err-place-2-clause-err
returns-in_err-place-2-clause-err c =
    let values = c.args.values.now in
    let ts = map columnar_tree values in
    let css = map rows ts in
    let w = c.args.row.now.value in
    let a = c.in-Some.place in
    let t = c.as_array-column.result.now in
    let first = rw c.in-Some.is at c.in_ok-place.ensures.ok.exactly in
    let lies = rw c.in-Some.is at c.in_ok-place.ensures.ok.within in
    let column = column_at values a c.index-values-place.result t lies c.index-values-place.is c.as_array-column.ensures.of in
    let long : length (cells_at css a) ≡ c.len.result = ap length column ∙ rows_counted t c.well_formed_tree.ensures.formed ∙ sym c.len.ensures in
    let h = c.in_err-place-2.ensures.err in
    let p = err_from_is_err_and c.from_residual-in_err-place-2.result c.from_residual-in_err-place-2.ensures.1 in
    rw p.1 (subst (IsNotPaired ts c.args.array.now c.args.row.now) (sym p.2)
    (inr (h.0, no_row css c.args.array.now.value w a (length values) first (ap (λ n. place_cell n w) long ∙ h.2))))

pub returns-clause-ok : goal.returns-clause-ok
returns-clause-ok c =
    let values = c.args.values.now in
    let css = map rows (map columnar_tree values) in
    let a = c.in-Some.place in
    let k = c.in-Some-2.place in
    let t = c.as_array-column.result.now in
    let first = rw c.in-Some.is at c.in_ok-place.ensures.ok.exactly in
    let lies = rw c.in-Some.is at c.in_ok-place.ensures.ok.within in
    let second = rw c.in-Some-2.is at c.in_ok-place-2.ensures.ok.exactly in
    let column = column_at values a c.index-values-place.result t lies c.index-values-place.is c.as_array-column.ensures.of in
    let typed = column_type values a c.index-values-place.result t lies c.index-values-place.is c.as_array-column.ensures.of c.requires.typed in
    IfOk-weaker c.execute_scalar.result _ _
    (λ s row. (
      paired_known css c.args.array.now.value c.args.row.now.value a k (length values) c.len.result first second ∙ ap (λ cs. get_or cs k fault) column
          ∙ get_or_from_slice_get (rows t) k (value s.value) fault row.0,
      row.1 ∙ typed,
    ))
    c.execute_scalar.ensures.ok

pub returns-clause-columns : goal.returns-clause-columns
returns-clause-columns c =
    IfOk-weaker c.execute_scalar.result _ _ (λ s row. ap has_columns row.1 ∙ c.well_formed_tree.ensures.supported) c.execute_scalar.ensures.ok

pub returns-clause-err : goal.returns-clause-err
returns-clause-err c =
    let values = c.args.values.now in
    let css = map rows (map columnar_tree values) in
    let a = c.in-Some.place in
    let k = c.in-Some-2.place in
    let t = c.as_array-column.result.now in
    let first = rw c.in-Some.is at c.in_ok-place.ensures.ok.exactly in
    let lies = rw c.in-Some.is at c.in_ok-place.ensures.ok.within in
    let second = rw c.in-Some-2.is at c.in_ok-place-2.ensures.ok.exactly in
    let short = rw c.in-Some-2.is at c.in_ok-place-2.ensures.ok.within in
    let column = column_at values a c.index-values-place.result t lies c.index-values-place.is c.as_array-column.ensures.of in
    let cell = paired_known css c.args.array.now.value c.args.row.now.value a k (length values) c.len.result first second ∙ ap (λ cs. get_or cs k fault) column in
    IfErr-weaker c.execute_scalar.result _ _
    (λ e h. elim (row_unread t k e (subst (λ n. k < n) c.len.ensures short) h) [
      | inl memory ↦ inl memory
      | inr missed ↦ inr (missed.0, cell ∙ missed.1)
    ])
    c.execute_scalar.ensures.err
