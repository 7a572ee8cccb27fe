use Rattle.std.proofs.Common.{◌≡◌, ◌≤◌, ◌+◌, ◌-◌, ℕ, pos, None, refl, drop, get_or, inl, inr, arith, Some, sym, ap, subst, ◌∙◌}
use Rattle.vx_value.specs.Nullabilities.{with_nullability}
use Rattle.vx_value.specs.declared.dtype.Nullability.TheVariants.{Nullable}
use Rattle.std.specs.List.{AllZip}
use Rattle.std.proofs.lemmas.List.{take_all}
use Rattle.std.proofs.lemmas.Result.{IfOk-weaker, IfErr-weaker}
use Rattle.vx_value.specs.View.{type_of}
use Rattle.vx_value.specs.Typed.{Typed}
use Rattle.vx_value.specs.Values.{fields}
use Rattle.vx_value.specs.ScalarParts.{values_in}
use Rattle.vx_column.specs.Nulls.{IsRowBy}
use Rattle.vx_value.specs.Cell.{value, fault}
use Rattle.vx_value.specs.Types.{nullability_of}
use Rattle.vx_column.specs.ValidRows.{null_unless}
use Rattle.vx_value.specs.Parts.{integer_in}
use Rattle.vx_fn.specs.Meanings.{widen}
use Rattle.vx_tree.specs.Tree.{slots_of, slots_height, height, len, dtype}
use Rattle.vx_column.proofs.ArgumentsLemmas.{zipped_more}
use Rattle.vx_tree.proofs.SlotsLemmas.{IsBelow}
use Rattle.vx_column.proofs.CellsLemmas.{null_typed, unread_by, IsRead, row_by, child_below, child_faulted, function_taken, function_row, function_faulted, row_told, row_known, bits_row, IfOk-both}
use Rattle.vx_column.proofs.DictRowsLemmas.{dict_nullable, dict_null, dict_unnamed, dict_row, dict_value_fault}
use Rattle.vx_column.proofs.ChunkedRowsLemmas.{left_first, left_present, left_at, left_all, left_later, chunk_low, chunk_row, chunk_typed}
use Rattle.vx_column.proofs.InterleaveRowsLemmas.{slots_many, slots_present, slots_low, shown_by, arrays_fault, rows_fault, tree_unnamed, row_unnamed, pair_row, arrays_long, rows_long, named_typed, child_there, IsOfType}
use Rattle.vx_column.proofs.MaskedRowsLemmas.{masked_tells}
use Rattle.vx_column.proofs.NestedRowsLemmas.{field_below, field_faulted, fields_have, validity_told, validity_below, struct_is, struct_faulted, storage_long, storage_low, extension_row_is, storage_typed}
use Rattle.vx_column.proofs.rows.+scalar_at.Goals as goal

pub children::function_at-unreachable-requires : goal.children::function_at-unreachable-requires
children::function_at-unreachable-requires t c =
    let xs = c.args.slots.now in
    let known = child_below c.args.array.now c.args.scalar_fn.now xs c.args.index c.requires.shape c.requires.well c.loop-slot.slot-index c.slot-item.result
    c.loop-slot-test.true in
    subst (IsBelow (len c.args.array.now) (slots_height (slots_of xs) + 1)) (sym c.slot-item.is ∙ c.in_default.is) known

pub children::function_at-scalar_at-requires : goal.children::function_at-scalar_at-requires
children::function_at-scalar_at-requires t c =
    let xs = c.args.slots.now in
    let known = child_below c.args.array.now c.args.scalar_fn.now xs c.args.index c.requires.shape c.requires.well c.loop-slot.slot-index c.slot-item.result
    c.loop-slot-test.true in
    let below = subst (IsBelow (len c.args.array.now) (slots_height (slots_of xs) + 1)) (sym c.slot-item.is ∙ c.in-Some.is) known in
    let d = c.decreases in
    let i = c.requires.index in
    (omega (arith, below.1), omega (arith, below.0))

pub children::function_at-returns-in-Err-clause-err : goal.children::function_at-returns-in-Err-clause-err
children::function_at-returns-in-Err-clause-err t c =
    let there = sym c.in-Some.is ∙ c.slot-item.is ∙ ap (get_or c.args.slots.now c.loop-slot.slot-index) c.in-Some.is in
    let faulted = child_faulted c.args.array.now c.args.scalar_fn.now c.args.slots.now c.args.index c.requires.shape c.requires.well c.loop-slot.slot-index
    c.in-Some.child c.requires.index c.loop-slot-test.true there in
    unread_by c.args.array.now c.in-Some.child c.args.index _ faulted c.in-Err.e c.in-Err.ensures.err

pub children::function_at-loop-slot-preserved : goal.children::function_at-loop-slot-preserved
children::function_at-loop-slot-preserved t c =
    let i = c.args.index in
    let read = subst (λ s. IsRead i s c.in-Ok.scalar) (sym c.in-Some.is) c.in-Ok.ensures.ok in
    rw c.in_ok-push-in-Ok.ensures.items
    (zipped_more (IsRead i) c.args.slots.now c.loop-slot.scalars.items c.loop-slot.slot-index c.slot-item.result c.in-Ok.scalar c.loop-slot-test.true
    c.slot-item.is c.loop-slot.invariant read)

pub children::function_at-apply_row-requires : goal.children::function_at-apply_row-requires
children::function_at-apply_row-requires t c =
    function_taken c.args.array.now c.args.scalar_fn.now c.args.slots.now c.args.index c.requires.shape c.requires.well c.loop-slot.slot-index
    c.loop-slot.scalars.items c.as_slice.result.now c.loop-slot-test.false c.as_slice.ensures.value c.loop-slot.invariant

pub children::function_at-returns-clause-ok : goal.children::function_at-returns-clause-ok
children::function_at-returns-clause-ok t c =
    IfOk-both c.apply_row.result
    (λ s typed ok. function_row c.args.array.now c.args.scalar_fn.now c.args.slots.now c.args.index c.requires.shape c.requires.well c.loop-slot.slot-index
    c.loop-slot.scalars.items c.as_slice.result.now c.loop-slot-test.false c.as_slice.ensures.value c.loop-slot.invariant s c.requires.index typed ok)
    c.apply_row.ensures.typed c.apply_row.ensures.ok

pub children::function_at-returns-clause-err : goal.children::function_at-returns-clause-err
children::function_at-returns-clause-err t c =
    let faulted = function_faulted c.args.array.now c.args.scalar_fn.now c.args.slots.now c.args.index c.requires.shape c.requires.well c.loop-slot.slot-index
    c.loop-slot.scalars.items c.as_slice.result.now c.loop-slot-test.false c.as_slice.ensures.value c.loop-slot.invariant c.requires.index in
    IfErr-weaker c.apply_row.result _ _
    (λ e h. elim h [
      | inl m ↦ inl m
      | inr m ↦ inr (m.0, faulted m.1)
    ])
    c.apply_row.ensures.fault

pub probe::unless_null-returns-in-Bool-default-None-clause-ok : goal.probe::unless_null-returns-in-Bool-default-None-clause-ok
probe::unless_null-returns-in-Bool-default-None-clause-ok t c =
    let plain = c.in-Bool-default-None in
    let told = bits_row c.in-Some.child plain.field-1.now plain.bits.now c.args.index c.value.result plain.ensures.0 plain.field-1-is c.value.ensures in
    let known = row_known c.args.validity.now c.in-Some.child c.args.index c.value.result c.args.stored.value c.in-Some.is told in
    IfOk-weaker c.kept_or_null.result (λ s. value s.value ≡ null_unless c.value.result (value c.args.stored.value))
    (λ s. IsRowBy c.args.validity.now c.args.index (value c.args.stored.value) (value s.value)) (λ s e. subst (IsRowBy c.args.validity.now c.args.index (value c.args.stored.value)) (sym e) known)
    c.kept_or_null.ensures.ok

pub probe::unless_null-returns-in-Ok-clause-ok : goal.probe::unless_null-returns-in-Ok-clause-ok
probe::unless_null-returns-in-Ok-clause-ok t c =
    let told = c.in-Ok.ensures.ok.0 ∙ ap (λ v. Some (value v)) c.into_truth.ensures in
    let known = row_known c.args.validity.now c.in-Some.child c.args.index c.into_truth.result c.args.stored.value c.in-Some.is told in
    IfOk-weaker c.kept_or_null-in-Ok.result (λ s. value s.value ≡ null_unless c.into_truth.result (value c.args.stored.value))
    (λ s. IsRowBy c.args.validity.now c.args.index (value c.args.stored.value) (value s.value)) (λ s e. subst (IsRowBy c.args.validity.now c.args.index (value c.args.stored.value)) (sym e) known)
    c.kept_or_null-in-Ok.ensures.ok

pub probe::unless_null-returns-in-Err-clause-err : goal.probe::unless_null-returns-in-Err-clause-err
probe::unless_null-returns-in-Err-clause-err t c =
    elim c.in-Err.ensures.err [
      | inl m ↦ inl m
      | inr m ↦ inr (m.0, row_told c.args.validity.now c.in-Some.child c.args.index fault (value c.args.stored.value) c.in-Some.is m.1)
    ]

pub children::named_at-null_of-requires : goal.children::named_at-null_of-requires
children::named_at-null_of-requires t c =
    ap nullability_of c.dtype.ensures.dtype
    ∙ dict_nullable c.args.array.now c.args.codes.now c.args.values.now c.args.index c.requires.shape c.in-Ok.scalar c.in-Ok.ensures.ok c.requires.well
    (sym c.in_default.is ∙ c.into_integer-code.ensures.value) c.into_integer-code.ensures.typed

pub children::named_at-returns-in_default-clause-ok : goal.children::named_at-returns-in_default-clause-ok
children::named_at-returns-in_default-clause-ok t c =
    IfOk-weaker c.null_of.result _ _
    (λ q e. dict_null c.args.array.now c.args.codes.now c.args.values.now c.args.index c.requires.shape c.in-Ok.scalar c.in-Ok.ensures.ok c.requires.well
    (sym c.in_default.is ∙ c.into_integer-code.ensures.value) c.into_integer-code.ensures.typed q (e ∙ ap null_typed c.dtype.ensures.dtype))
    c.null_of.ensures.ok

pub children::named_at-returns-in_default-number_below-clause-err : goal.children::named_at-returns-in_default-number_below-clause-err
children::named_at-returns-in_default-number_below-clause-err t c =
    let named = sym c.into_integer-code.ensures.value ∙ c.in-Some.is in
    let none = c.in_default-number_below.ensures.none refl in
    let unnamed : (k : ℕ) → c.in-Some.field-0 ≡ pos k → len c.args.values.now ≤ k = λ k e. omega (arith, c.len.ensures, none k (c.in-Some.is ∙ ap Some e)) in
    inr (
      refl,
      dict_unnamed c.args.array.now c.args.codes.now c.args.values.now c.args.index c.requires.shape c.in-Ok.scalar c.in-Ok.ensures.ok c.in-Some.field-0
          named c.well_formed_tree.ensures.counted unnamed,
    )

pub children::named_at-returns-in-Ok-scalar_at-clause-ok : goal.children::named_at-returns-in-Ok-scalar_at-clause-ok
children::named_at-returns-in-Ok-scalar_at-clause-ok t c =
    let named = sym c.into_integer-code.ensures.value ∙ c.in-Some-number_below.ensures.some.0 in
    let read = c.in-Ok-scalar_at.scalar in
    IfOk-weaker c.widened.result _ _
    (λ s wide.
    dict_row c.args.array.now c.args.codes.now c.args.values.now c.args.index c.requires.shape c.in-Ok.scalar c.in-Ok.ensures.ok
    c.in-Some-number_below.place named read s c.in-Ok-scalar_at.ensures.ok wide.0 (wide.1 ∙ ap (λ ty. widen ty read.of_type) c.dtype-in-Ok-scalar_at.ensures.dtype))
    c.widened.ensures.ok

pub children::named_at-returns-in-Err-scalar_at-clause-err : goal.children::named_at-returns-in-Err-scalar_at-clause-err
children::named_at-returns-in-Err-scalar_at-clause-err t c =
    let named = sym c.into_integer-code.ensures.value ∙ c.in-Some-number_below.ensures.some.0 in
    let faulted = dict_value_fault c.args.array.now c.args.codes.now c.args.values.now c.args.index c.requires.shape c.in-Ok.scalar c.in-Ok.ensures.ok
    c.in-Some-number_below.place named in
    unread_by c.args.array.now c.args.values.now c.args.index c.in-Some-number_below.place faulted c.in-Err-scalar_at.e c.in-Err-scalar_at.ensures.err

pub children::chunk_at-loop-slot-init : goal.children::chunk_at-loop-slot-init
children::chunk_at-loop-slot-init t c = left_first c.args.array.now c.args.index c.args.slots.now c.requires.shape c.requires.well c.requires.index

pub children::chunk_at-unreachable-requires : goal.children::chunk_at-unreachable-requires
children::chunk_at-unreachable-requires t c =
    let xs = c.args.slots.now in
    let j = c.loop-slot.slot-index in
    let h = slots_height (slots_of xs) in
    left_present c.args.array.now c.args.index h (drop (j + 1) xs) c.loop-slot.left
    (left_at c.args.array.now c.args.index h xs j c.loop-slot.left c.slot-item.result None c.loop-slot-test.true c.slot-item.is c.in_default.is
    c.loop-slot.invariant)

pub children::chunk_at-scalar_at-requires : goal.children::chunk_at-scalar_at-requires
children::chunk_at-scalar_at-requires t c =
    let xs = c.args.slots.now in
    let j = c.loop-slot.slot-index in
    let h = slots_height (slots_of xs) in
    let left = left_at c.args.array.now c.args.index h xs j c.loop-slot.left c.slot-item.result (Some c.in-Some.chunk) c.loop-slot-test.true c.slot-item.is
    c.in-Some.is c.loop-slot.invariant in
    let low = chunk_low c.args.array.now c.args.index h (drop (j + 1) xs) c.loop-slot.left c.in-Some.chunk left in
    let d = c.decreases in
    (omega (arith, low), omega (arith, c.len.ensures, c.if-left-len.true))

pub children::chunk_at-returns-then-left-len-clause-ok : goal.children::chunk_at-returns-then-left-len-clause-ok
children::chunk_at-returns-then-left-len-clause-ok t c =
    let xs = c.args.slots.now in
    let j = c.loop-slot.slot-index in
    let h = slots_height (slots_of xs) in
    let left = left_at c.args.array.now c.args.index h xs j c.loop-slot.left c.slot-item.result (Some c.in-Some.chunk) c.loop-slot-test.true c.slot-item.is
    c.in-Some.is c.loop-slot.invariant in
    let row = chunk_row c.args.array.now c.args.index h (drop (j + 1) xs) c.loop-slot.left c.in-Some.chunk left c.well_formed_tree.ensures.counted
    (omega (arith, c.len.ensures, c.if-left-len.true)) in
    let typed = chunk_typed c.args.array.now c.args.index h (drop (j + 1) xs) c.loop-slot.left c.in-Some.chunk left in
    row_by c.args.array.now c.in-Some.chunk c.args.index c.loop-slot.left row typed c.scalar_at.result c.scalar_at.ensures.ok

pub children::chunk_at-returns-then-left-len-clause-err : goal.children::chunk_at-returns-then-left-len-clause-err
children::chunk_at-returns-then-left-len-clause-err t c =
    let xs = c.args.slots.now in
    let j = c.loop-slot.slot-index in
    let h = slots_height (slots_of xs) in
    let left = left_at c.args.array.now c.args.index h xs j c.loop-slot.left c.slot-item.result (Some c.in-Some.chunk) c.loop-slot-test.true c.slot-item.is
    c.in-Some.is c.loop-slot.invariant in
    let row = chunk_row c.args.array.now c.args.index h (drop (j + 1) xs) c.loop-slot.left c.in-Some.chunk left c.well_formed_tree.ensures.counted
    (omega (arith, c.len.ensures, c.if-left-len.true)) in
    IfErr-weaker c.scalar_at.result _ _ (unread_by c.args.array.now c.in-Some.chunk c.args.index c.loop-slot.left (λ e. row ∙ e)) c.scalar_at.ensures.err

pub children::chunk_at-loop-slot-preserved : goal.children::chunk_at-loop-slot-preserved
children::chunk_at-loop-slot-preserved t c =
    let xs = c.args.slots.now in
    let j = c.loop-slot.slot-index in
    let h = slots_height (slots_of xs) in
    let left = left_at c.args.array.now c.args.index h xs j c.loop-slot.left c.slot-item.result (Some c.in-Some.chunk) c.loop-slot-test.true c.slot-item.is
    c.in-Some.is c.loop-slot.invariant in
    left_later c.args.array.now c.args.index h (drop (j + 1) xs) c.loop-slot.left c.in-Some.chunk left (c.loop-slot.left - c.len-left.result)
    c.well_formed_tree.ensures.counted
    (omega (arith, c.len.ensures, c.if-left-len.false, c.len-left.ensures))

pub children::chunk_at-unreachable-requires-2 : goal.children::chunk_at-unreachable-requires-2
children::chunk_at-unreachable-requires-2 t c =
    left_all c.args.array.now c.args.index (slots_height (slots_of c.args.slots.now)) c.args.slots.now c.loop-slot.slot-index c.loop-slot.left
    c.loop-slot-test.false c.loop-slot.invariant

pub children::pair_at-interleaved-requires : goal.children::pair_at-interleaved-requires
children::pair_at-interleaved-requires t c = record {
  many = slots_many (dtype c.args.array.now) (len c.args.array.now) c.args.slots.now c.requires.well;
  all = slots_present (dtype c.args.array.now) (len c.args.array.now) c.args.slots.now c.requires.well;
}

pub children::pair_at-scalar_at-requires : goal.children::pair_at-scalar_at-requires
children::pair_at-scalar_at-requires t c =
    let parts = c.interleaved.result in
    let low = slots_low c.args.slots.now parts.2.now parts.0.now parts.1.now c.interleaved.ensures in
    let long = arrays_long (dtype c.args.array.now) (len c.args.array.now) c.args.slots.now parts.2.now parts.0.now parts.1.now c.interleaved.ensures
    c.requires.well in
    let d = c.decreases in
    let i = c.requires.index in
    (omega (arith, low.0), omega (arith, long))

pub children::pair_at-scalar_at-requires-2 : goal.children::pair_at-scalar_at-requires-2
children::pair_at-scalar_at-requires-2 t c =
    let parts = c.interleaved.result in
    let low = slots_low c.args.slots.now parts.2.now parts.0.now parts.1.now c.interleaved.ensures in
    let long = rows_long (dtype c.args.array.now) (len c.args.array.now) c.args.slots.now parts.2.now parts.0.now parts.1.now c.interleaved.ensures
    c.requires.well in
    let d = c.decreases in
    let i = c.requires.index in
    (omega (arith, low.1), omega (arith, long))

pub children::pair_at-returns-in-Err-clause-err : goal.children::pair_at-returns-in-Err-clause-err
children::pair_at-returns-in-Err-clause-err t c =
    let parts = c.interleaved.result in
    let shown = shown_by c.args.slots.now parts.2.now parts.0.now parts.1.now c.interleaved.ensures c.args.array.now c.requires.shape in
    let faulted = arrays_fault c.args.array.now parts.0.now parts.1.now parts.2.now c.args.index shown c.well_formed_tree.ensures.counted c.requires.index in
    unread_by c.args.array.now parts.0.now c.args.index c.args.index faulted c.in-Err.e c.in-Err.ensures.err

pub children::pair_at-returns-in-Err-scalar_at-clause-err : goal.children::pair_at-returns-in-Err-scalar_at-clause-err
children::pair_at-returns-in-Err-scalar_at-clause-err t c =
    let parts = c.interleaved.result in
    let shown = shown_by c.args.slots.now parts.2.now parts.0.now parts.1.now c.interleaved.ensures c.args.array.now c.requires.shape in
    let faulted = rows_fault c.args.array.now parts.0.now parts.1.now parts.2.now c.args.index shown c.well_formed_tree.ensures.counted c.requires.index in
    unread_by c.args.array.now parts.1.now c.args.index c.args.index faulted c.in-Err-scalar_at.e c.in-Err-scalar_at.ensures.err

pub children::pair_at-returns-in_default-clause-err : goal.children::pair_at-returns-in_default-clause-err
children::pair_at-returns-in_default-clause-err t c =
    let parts = c.interleaved.result in
    let shown = shown_by c.args.slots.now parts.2.now parts.0.now parts.1.now c.interleaved.ensures c.args.array.now c.requires.shape in
    let unnamed = λ (k : ℕ) (e : integer_in c.in-Ok.scalar.value ≡ Some (pos k)). c.in_default.ensures.none refl k (c.into_integer-array_index.ensures.value ∙ e) in
    inr (
      refl,
      tree_unnamed c.args.array.now parts.0.now parts.1.now parts.2.now c.args.index shown c.in-Ok.scalar c.in-Ok-scalar_at.scalar c.in-Ok.ensures.ok
          c.in-Ok-scalar_at.ensures.ok unnamed,
    )

pub children::pair_at-unreachable-requires : goal.children::pair_at-unreachable-requires
children::pair_at-unreachable-requires t c =
    let parts = c.interleaved.result in
    let ty = dtype c.args.array.now in
    let h = slots_height (slots_of parts.2.now) in
    let typed = named_typed ty (len c.args.array.now) c.args.slots.now parts.2.now parts.0.now parts.1.now c.interleaved.ensures c.requires.well c.in-Some.tree
    c.index-values-tree.result c.in-Some.ensures.some.1 in
    subst (IsOfType ty h) (sym c.index-values-tree.is ∙ c.in_default-values.is) typed

pub children::pair_at-returns-in_default-number_below-clause-err : goal.children::pair_at-returns-in_default-number_below-clause-err
children::pair_at-returns-in_default-number_below-clause-err t c =
    let parts = c.interleaved.result in
    let shown = shown_by c.args.slots.now parts.2.now parts.0.now parts.1.now c.interleaved.ensures c.args.array.now c.requires.shape in
    let named = sym c.into_integer-array_index.ensures.value ∙ c.in-Some.ensures.some.0 in
    let there = child_there parts.2.now c.in-Some.tree c.index-values-tree.result c.in-Some-values.child c.index-values-tree.is c.in-Some-values.is in
    let none = c.in_default-number_below.ensures.none refl in
    let unnamed : (k : ℕ) → integer_in c.in-Ok-scalar_at.scalar.value ≡ Some (pos k) → len c.in-Some-values.child ≤ k =
    λ k e. omega (arith, c.len.ensures, none k (c.into_integer-row_index.ensures.value ∙ e)) in
    inr (
      refl,
      row_unnamed c.args.array.now parts.0.now parts.1.now parts.2.now c.args.index shown c.in-Ok.scalar c.in-Ok-scalar_at.scalar c.in-Ok.ensures.ok
          c.in-Ok-scalar_at.ensures.ok c.in-Some.tree c.in-Some-values.child named c.in-Some.ensures.some.1 there c.well_formed_tree-2.ensures.counted unnamed,
    )

pub children::pair_at-scalar_at-requires-3 : goal.children::pair_at-scalar_at-requires-3
children::pair_at-scalar_at-requires-3 t c =
    let parts = c.interleaved.result in
    let ty = dtype c.args.array.now in
    let h = slots_height (slots_of parts.2.now) in
    let low = slots_low c.args.slots.now parts.2.now parts.0.now parts.1.now c.interleaved.ensures in
    let typed = named_typed ty (len c.args.array.now) c.args.slots.now parts.2.now parts.0.now parts.1.now c.interleaved.ensures c.requires.well c.in-Some.tree
    c.index-values-tree.result c.in-Some.ensures.some.1 in
    let child = subst (IsOfType ty h) (sym c.index-values-tree.is ∙ c.in-Some-values.is) typed in
    let d = c.decreases in
    (omega (arith, low.2, child.1), omega (arith, c.len.ensures, c.in-Some-number_below.ensures.some.1))

pub children::pair_at-returns-clause-ok : goal.children::pair_at-returns-clause-ok
children::pair_at-returns-clause-ok t c =
    let parts = c.interleaved.result in
    let ty = dtype c.args.array.now in
    let shown = shown_by c.args.slots.now parts.2.now parts.0.now parts.1.now c.interleaved.ensures c.args.array.now c.requires.shape in
    let named = sym c.into_integer-array_index.ensures.value ∙ c.in-Some.ensures.some.0 in
    let placed = sym c.into_integer-row_index.ensures.value ∙ c.in-Some-number_below.ensures.some.0 in
    let there = child_there parts.2.now c.in-Some.tree c.index-values-tree.result c.in-Some-values.child c.index-values-tree.is c.in-Some-values.is in
    let typed = named_typed ty (len c.args.array.now) c.args.slots.now parts.2.now parts.0.now parts.1.now c.interleaved.ensures c.requires.well c.in-Some.tree
    c.index-values-tree.result c.in-Some.ensures.some.1 in
    let child = subst (IsOfType ty (slots_height (slots_of parts.2.now))) (sym c.index-values-tree.is ∙ c.in-Some-values.is) typed in
    let row = pair_row c.args.array.now parts.0.now parts.1.now parts.2.now c.args.index shown c.in-Ok.scalar c.in-Ok-scalar_at.scalar c.in-Ok.ensures.ok
    c.in-Ok-scalar_at.ensures.ok c.in-Some.tree c.in-Some-values.child named c.in-Some.ensures.some.1 there c.in-Some-number_below.place placed
    c.well_formed_tree-2.ensures.counted
    (omega (arith, c.len.ensures, c.in-Some-number_below.ensures.some.1)) in
    row_by c.args.array.now c.in-Some-values.child c.args.index c.in-Some-number_below.place row (sym child.0) c.scalar_at-3.result c.scalar_at-3.ensures.ok

pub children::pair_at-returns-clause-err : goal.children::pair_at-returns-clause-err
children::pair_at-returns-clause-err t c =
    let parts = c.interleaved.result in
    let shown = shown_by c.args.slots.now parts.2.now parts.0.now parts.1.now c.interleaved.ensures c.args.array.now c.requires.shape in
    let named = sym c.into_integer-array_index.ensures.value ∙ c.in-Some.ensures.some.0 in
    let placed = sym c.into_integer-row_index.ensures.value ∙ c.in-Some-number_below.ensures.some.0 in
    let there = child_there parts.2.now c.in-Some.tree c.index-values-tree.result c.in-Some-values.child c.index-values-tree.is c.in-Some-values.is in
    let row = pair_row c.args.array.now parts.0.now parts.1.now parts.2.now c.args.index shown c.in-Ok.scalar c.in-Ok-scalar_at.scalar c.in-Ok.ensures.ok
    c.in-Ok-scalar_at.ensures.ok c.in-Some.tree c.in-Some-values.child named c.in-Some.ensures.some.1 there c.in-Some-number_below.place placed
    c.well_formed_tree-2.ensures.counted
    (omega (arith, c.len.ensures, c.in-Some-number_below.ensures.some.1)) in
    IfErr-weaker c.scalar_at-3.result _ _ (unread_by c.args.array.now c.in-Some-values.child c.args.index c.in-Some-number_below.place (λ e. row ∙ e))
    c.scalar_at-3.ensures.err

pub nested::struct_at-unreachable-requires : goal.nested::struct_at-unreachable-requires
nested::struct_at-unreachable-requires t c =
    let all = c.args.slots.now in
    let parts = c.struct_slots.result in
    let known = field_below c.args.array.now all parts.0.now parts.1.now c.args.index c.struct_slots.ensures c.requires.shape c.requires.well c.requires.index
    c.loop-slot.slot-index c.slot-item.result c.loop-slot-test.true in
    subst (IsBelow (len c.args.array.now) (slots_height (slots_of all) + 1)) (sym c.slot-item.is ∙ c.in_default.is) known

pub nested::struct_at-scalar_at-requires : goal.nested::struct_at-scalar_at-requires
nested::struct_at-scalar_at-requires t c =
    let all = c.args.slots.now in
    let parts = c.struct_slots.result in
    let known = field_below c.args.array.now all parts.0.now parts.1.now c.args.index c.struct_slots.ensures c.requires.shape c.requires.well c.requires.index
    c.loop-slot.slot-index c.slot-item.result c.loop-slot-test.true in
    let below = subst (IsBelow (len c.args.array.now) (slots_height (slots_of all) + 1)) (sym c.slot-item.is ∙ c.in-Some.is) known in
    let d = c.decreases in
    let i = c.requires.index in
    (omega (arith, below.1), omega (arith, below.0))

pub nested::struct_at-returns-in-Err-clause-err : goal.nested::struct_at-returns-in-Err-clause-err
nested::struct_at-returns-in-Err-clause-err t c =
    let parts = c.struct_slots.result in
    let there = sym c.in-Some.is ∙ c.slot-item.is ∙ ap (get_or parts.0.now c.loop-slot.slot-index) c.in-Some.is in
    let faulted = field_faulted c.args.array.now c.args.slots.now parts.0.now parts.1.now c.args.index c.struct_slots.ensures c.requires.shape c.requires.well
    c.requires.index c.loop-slot.slot-index c.in-Some.child c.loop-slot-test.true there in
    unread_by c.args.array.now c.in-Some.child c.args.index _ faulted c.in-Err.e c.in-Err.ensures.err

pub nested::struct_at-loop-slot-preserved : goal.nested::struct_at-loop-slot-preserved
nested::struct_at-loop-slot-preserved t c =
    let i = c.args.index in
    let read = subst (λ s. IsRead i s c.in-Ok.scalar) (sym c.in-Some.is) c.in-Ok.ensures.ok in
    rw c.in_ok-push-in-Ok.ensures.items
    (zipped_more (IsRead i) c.struct_slots.result.0.now c.loop-slot.parts.items c.loop-slot.slot-index c.slot-item.result c.in-Ok.scalar c.loop-slot-test.true
    c.slot-item.is c.loop-slot.invariant read)

pub nested::struct_at-from_fields-requires : goal.nested::struct_at-from_fields-requires
nested::struct_at-from_fields-requires t c =
    let xs = c.struct_slots.result.0.now in
    let ss = c.loop-slot.parts.items in
    let read : AllZip (IsRead c.args.index) xs ss =
    subst (λ l. AllZip (IsRead c.args.index) l ss) (take_all c.loop-slot.slot-index xs (omega arith)) c.loop-slot.invariant in
    fields_have c.args.array.now c.args.slots.now xs c.struct_slots.result.1.now c.args.index c.struct_slots.ensures c.requires.shape c.requires.well
    c.requires.index ss (type_of c.in_ok-dtype.dtype) (ap type_of c.in_ok-dtype.ensures.cases ∙ c.dtype.ensures.dtype) read

pub nested::struct_at-unless_null-requires : goal.nested::struct_at-unless_null-requires
nested::struct_at-unless_null-requires t c =
    let xs = c.struct_slots.result.0.now in
    let v = c.struct_slots.result.1.now in
    let made = c.in_ok-stored.ensures.ok in
    let typed = ap Typed.of_type made ∙ ap type_of c.in_ok-dtype.ensures.cases ∙ c.dtype.ensures.dtype in
    let low = validity_below c.args.array.now c.args.slots.now xs v c.args.index c.struct_slots.ensures c.requires.shape c.requires.well c.requires.index in
    let d = c.decreases in (
      omega (arith, low),
      validity_told c.args.array.now c.args.slots.now xs v c.args.index c.struct_slots.ensures c.requires.shape c.requires.well c.requires.index
          c.in_ok-stored.stored.of_type typed,
    )

pub nested::struct_at-returns-clause-ok : goal.nested::struct_at-returns-clause-ok
nested::struct_at-returns-clause-ok t c =
    let xs = c.struct_slots.result.0.now in
    let ss = c.loop-slot.parts.items in
    let read : AllZip (IsRead c.args.index) xs ss =
    subst (λ l. AllZip (IsRead c.args.index) l ss) (take_all c.loop-slot.slot-index xs (omega arith)) c.loop-slot.invariant in
    let made = c.in_ok-stored.ensures.ok ∙ ap (λ ty. record { of_type = ty; value = fields (values_in ss) })
    (ap type_of c.in_ok-dtype.ensures.cases ∙ c.dtype.ensures.dtype) in
    IfOk-both c.unless_null.result
    (λ s shown typed. struct_is c.args.array.now c.args.slots.now xs c.struct_slots.result.1.now c.args.index c.struct_slots.ensures c.requires.shape c.requires.well
    c.requires.index c.well_formed_tree.ensures.formed ss read c.in_ok-stored.stored s made typed shown)
    c.unless_null.ensures.ok c.unless_null.ensures.typed

pub nested::struct_at-returns-clause-err : goal.nested::struct_at-returns-clause-err
nested::struct_at-returns-clause-err t c =
    let xs = c.struct_slots.result.0.now in
    let ss = c.loop-slot.parts.items in
    let read : AllZip (IsRead c.args.index) xs ss =
    subst (λ l. AllZip (IsRead c.args.index) l ss) (take_all c.loop-slot.slot-index xs (omega arith)) c.loop-slot.invariant in
    let made = c.in_ok-stored.ensures.ok ∙ ap (λ ty. record { of_type = ty; value = fields (values_in ss) })
    (ap type_of c.in_ok-dtype.ensures.cases ∙ c.dtype.ensures.dtype) in
    IfErr-weaker c.unless_null.result _ _
    (λ e h. elim h [
      | inl m ↦ inl m
      | inr m ↦
          inr (
            m.0,
            struct_faulted c.args.array.now c.args.slots.now xs c.struct_slots.result.1.now c.args.index c.struct_slots.ensures c.requires.shape c.requires.well
                c.requires.index c.well_formed_tree.ensures.formed ss read c.in_ok-stored.stored made m.1,
          )
    ])
    c.unless_null.ensures.err

pub nested::extension_at-returns-in_ok-clone-in-Ok-clause-ok : goal.nested::extension_at-returns-in_ok-clone-in-Ok-clause-ok
nested::extension_at-returns-in_ok-clone-in-Ok-clause-ok t c =
    let storage = c.in-Ok.storage in
    let typed = ap type_of c.in_ok-clone-in-Ok.ensures.cases ∙ c.dtype.ensures.dtype in
    let row = extension_row_is c.args.array.now c.extension_storage.result.now c.args.slots.now c.args.index c.extension_storage.ensures c.requires.shape
    c.requires.well c.requires.index (value storage.value) c.in-Ok.ensures.ok.0 in
    (row ∙ ap (λ s. Some (value (Typed.value s))) (sym c.from_storage.ensures), ap Typed.of_type c.from_storage.ensures ∙ typed)

pub nested::extension_at-returns-in-Err-clause-err : goal.nested::extension_at-returns-in-Err-clause-err
nested::extension_at-returns-in-Err-clause-err t c =
    let storage = c.extension_storage.result.now in
    let faulted = extension_row_is c.args.array.now storage c.args.slots.now c.args.index c.extension_storage.ensures c.requires.shape c.requires.well
    c.requires.index fault in
    unread_by c.args.array.now storage c.args.index c.args.index faulted c.in-Err.e c.in-Err.ensures.err

pub probe::scalar_at-unless_null-requires-in-Ok-into_nullable : goal.probe::scalar_at-unless_null-requires-in-Ok-into_nullable
probe::scalar_at-unless_null-requires-in-Ok-into_nullable t c =
    let tall = ap height c.in-Masked.ensures.0 in
    let d = c.decreases in
    let child = c.in-Masked.child.now in
    let typed = ap Typed.of_type c.in-Ok-into_nullable.ensures.ok ∙ ap (with_nullability Nullable) c.in-Ok-scalar_at.ensures.ok.1 in (
      omega (arith, tall),
      masked_tells c.args.array.now child c.in-Masked.validity.now c.in-Ok-into_nullable.scalar.of_type c.args.index c.in-Masked.ensures.0 c.in-Masked.ensures.1
          typed c.requires,
    )
