use Rattle.std.proofs.Common.{◌≡◌, ◌+◌, ◌<◌, ◌^◌, ◌∙◌, None, Some, inl, inr, length, ap, sym, subst, arith, rules}
use Rattle.std.specs.Prelude.{option_map}
use Rattle.std.proofs.lemmas.List.{length-append}
use Rattle.std.proofs.lemmas.Result.{err_from_is_err_and}
use Rattle.serde_json.specs.View.{view, items_view}
use Rattle.vx_value.specs.View.{type_of}
use Rattle.vx_column.specs.ValueColumns.{column_of}
use Rattle.vx_column.proofs.EachLemmas.{never_refused}
use Rattle.vx_column.proofs.GrownLemmas.{plain_grown}
use Rattle.vx_json.specs.Refused.{IsRefused}
use Rattle.vx_json.specs.SpelledColumns.{nested_rows}
use Rattle.vx_json.specs.SpelledValues.{value_spelled}
use Rattle.vx_json.proofs.NestedRowsLemmas.{value_read, value_unread}
use Rattle.vx_json.proofs.SpelledValuesLemmas.{read_one, read_none, read_all}
use Rattle.vx_json.proofs.columns.nested_rows.Goals as goal

pub loop-value-preserved : goal.loop-value-preserved
loop-value-preserved c =
    let ty = type_of c.args.dtype.now in
    let list = c.args.list.now.items in
    let more = c.in_ok-append_scalar.ensures.ok in
    let within = rw c.deref-value-items.ensures.value at c.loop-value-test.true in
    let item = rw c.deref-value-items.ensures.value at c.value-item.is in
    let spelled = value_read ty (view c.value-item.result) c.in_ok-row.row c.in_ok-row.ensures.read in (
      ap (λ r. r.pieces) more ∙ c.loop-value.invariant.0,
      ap (λ r. r.of_type) more ∙ c.loop-value.invariant.1,
      ap (λ r. length r.values) more ∙ length-append c.loop-value.column.values _ ∙ ap (λ n. n + 1) c.loop-value.invariant.2,
      read_one (value_spelled ty) list c.loop-value.value-index c.loop-value.column.values c.loop-value.invariant.3 c.value-item.result _ _ within item spelled
          (ap (λ r. r.values) more),
    )

pub returns-in_err-row : goal.returns-in_err-row
returns-in_err-row c =
    let ty = type_of c.args.dtype.now in
    let list = c.args.list.now.items in
    let within = rw c.deref-value-items.ensures.value at c.loop-value-test.true in
    let item = rw c.deref-value-items.ensures.value at c.value-item.is in
    let p = err_from_is_err_and c.from_residual-in_err-row.result c.from_residual-in_err-row.ensures.1 in
    rw p.1 (subst (IsRefused (nested_rows ty (items_view list) ≡ None)) (sym p.2) (elim c.in_err-row.ensures.read [
      | inl memory ↦ inl memory
      | inr h ↦ inr (
        h.0,
        ap (option_map (column_of ty)) (read_none (value_spelled ty) list c.loop-value.value-index c.loop-value.column.values
            c.loop-value.invariant.3 c.value-item.result within item (value_unread ty (view c.value-item.result) h.1)),
      )
    ]))

pub returns-in_err-append_scalar : goal.returns-in_err-append_scalar
returns-in_err-append_scalar c =
    let ty = type_of c.args.dtype.now in
    let list = c.args.list.now.items in
    let column = c.loop-value.column in
    let within = rw c.deref-value-items.ensures.value at c.loop-value-test.true in
    let typed = c.in_ok-row.ensures.typed ∙ sym c.loop-value.invariant.1 in
    let top : c.len.result < 2 ^ 64 = search rules in
    let fits : length column.values + 1 < 2 ^ 64 = omega (arith, c.loop-value.invariant.2, within, c.len.ensures, top) in
    let p = err_from_is_err_and c.from_residual-in_err-append_scalar.result c.from_residual-in_err-append_scalar.ensures.1 in
    rw p.1 (subst (IsRefused (nested_rows ty (items_view list) ≡ None)) (sym p.2) (elim c.in_err-append_scalar.ensures.refused [
      | inl memory ↦ inl memory
      | inr h ↦ absurd (never_refused column c.in_ok-row.row _ c.loop-value.invariant.0 typed fits h)
    ]))

pub returns : goal.returns
returns c =
    let ty = type_of c.args.dtype.now in
    let list = c.args.list.now.items in
    let column = c.loop-value.column in
    let past = rw c.deref-value-items.ensures.value at c.loop-value-test.false in
    let read = read_all (value_spelled ty) list c.loop-value.value-index column.values c.loop-value.invariant.3 past in
    let same = plain_grown column c.loop-value.invariant.0 ∙ ap (λ t. column_of t column.values) c.loop-value.invariant.1 in
    ap (option_map (column_of ty)) read ∙ ap Some (sym same ∙ sym c.in_ok-finish.ensures.ok ∙ sym c.into_array.ensures)
