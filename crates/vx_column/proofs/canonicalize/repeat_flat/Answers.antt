use Rattle.std.proofs.Common.{◌≡◌, [], ◌∷◌, FitsSigned, pos, replicate, sym, ap, ◌∙◌, rules, false}
use Rattle.std.specs.Prelude.{unwrap_or}
use Rattle.std.proofs.Math.Facts.{to_z-of_z}
use Rattle.std.specs.Int.{w128}
use Rattle.vx_value.specs.Storage.{storage_of}
use Rattle.vx_value.specs.declared.dtype.Storage.TheVariants.{Nulls, Bits, Integers}
use Rattle.vx_value.specs.Types.{nullability_of}
use Rattle.vx_value.specs.IsOf.{is_stored, in_range}
use Rattle.vx_value.specs.Parts.{boolean_in, bytes_in}
use Rattle.vx_column.specs.Expanded.{expanded_stored}
use Rattle.vx_column.specs.Stored.{boolean_column, integer_column, decimal_column, bytes_column}
use Rattle.std.proofs.lemmas.Result.{IfOk-weaker}
use Rattle.vx_tree.specs.ColumnTypes.{are_bytes_of}
use Rattle.vx_column.proofs.StoredLemmas.{parts_in, stored_integer, bytes_kept, decimal_kept}
use Rattle.vx_tree.specs.Natives.{values_of, ptype_of}
use Rattle.vx_column.proofs.RepeatedLemmas.{repeated_has, bools_repeated, integers_repeated, bytes_repeated, bytes_copies, bytes_expanded, decimals_repeated, all_copies}
use Rattle.vx_column.proofs.NullsLemmas.{nulls_repeated}
use Rattle.vx_tree.specs.Views.{ViewedRows, rows_of, repeated}
use Rattle.vx_tree.proofs.ViewsLemmas.{rows_repeated}
use Rattle.vx_column.proofs.canonicalize.repeat_flat.Goals as goal
use Rattle.vx_value.specs.View.{type_of}
use Rattle.vx_value.specs.Decimals.{has_digits, same_width_Decides}
use Rattle.vx_tree.specs.DecimalNumbers.{numbers_of, decimal_type_of}
use Rattle.std.specs.List.{list_all}
use Rattle.std.proofs.lemmas.Bool.{and_from}

pub returns-in-Bits-clause-ok : goal.returns-in-Bits-clause-ok
returns-in-Bits-clause-ok c =
    let s = c.args.scalar.now in
    let typed = c.dtype.ensures.typed in
    let made = c.in_ok-bits-in-Bits in
    let stored : storage_of s.of_type ≡ Bits = ap storage_of (sym c.dtype.ensures.dtype) ∙ sym c.storage-storage.ensures ∙ c.in-Bits.is in
    bools_repeated s c.args.len typed c.repeated_validity-validity.result c.repeated_validity-validity.ensures c.bool_column.result
    c.unwrap_or-bit.result made.bits stored (cc) made.ensures c.bool_column.ensures.ok

pub returns-in-Integers-clause-ok : goal.returns-in-Integers-clause-ok
returns-in-Integers-clause-ok c =
    let s = c.args.scalar.now in
    let typed = c.dtype.ensures.typed in
    let made = c.in_ok-values-in-Integers in
    let stored : storage_of s.of_type ≡ Integers c.in-Integers.ptype =
    ap storage_of (sym c.dtype.ensures.dtype) ∙ sym c.storage-storage.ensures ∙ c.in-Integers.is in
    let fits : FitsSigned w128 c.unwrap_or-wide.result = search rules in
    integers_repeated s c.args.len typed c.repeated_validity-validity.result c.repeated_validity-validity.ensures c.primitive_column.result
    c.in-Integers.ptype (ptype_of made.values) c.unwrap_or-wide.result (values_of made.values) stored (cc) (ap (λ v. v.kind) made.ensures.ok)
    (ap (λ v. v.numbers) made.ensures.ok ∙ ap (replicate c.args.len) (to_z-of_z fits)) c.primitive_column.ensures.ok

pub returns-in-Bits-clause-layout : goal.returns-in-Bits-clause-layout
returns-in-Bits-clause-layout c =
    let s = c.args.scalar.now in
    let n = c.args.len in
    let stored : storage_of s.of_type ≡ Bits = ap storage_of (sym c.dtype.ensures.dtype) ∙ sym c.storage-storage.ensures ∙ c.in-Bits.is in
    let bit : c.unwrap_or-bit.result ≡ unwrap_or (boolean_in s.value) false = cc in
    let bits = c.in_ok-bits-in-Bits.ensures ∙ ap (replicate n) bit in
    IfOk-weaker c.bool_column.result _ _
    (λ u e. e ∙ (λ i. boolean_column (bits i) (c.repeated_validity-validity.ensures i)) ∙ sym (ap (λ st. expanded_stored st s n) stored))
    c.bool_column.ensures.ok

pub returns-in-Integers-clause-layout : goal.returns-in-Integers-clause-layout
returns-in-Integers-clause-layout c =
    let s = c.args.scalar.now in
    let n = c.args.len in
    let made = c.in_ok-values-in-Integers in
    let stored : storage_of s.of_type ≡ Integers c.in-Integers.ptype =
    ap storage_of (sym c.dtype.ensures.dtype) ∙ sym c.storage-storage.ensures ∙ c.in-Integers.is in
    let fits : FitsSigned w128 c.unwrap_or-wide.result = search rules in
    let wide = c.unwrap_or-wide.ensures ∙ ap (λ o. unwrap_or o (pos 0)) c.as_integer.ensures in
    let numbers = ap (λ v. v.numbers) made.ensures.ok ∙ ap (replicate n) (to_z-of_z fits ∙ wide) in
    let kind = ap (λ v. v.kind) made.ensures.ok in
    IfOk-weaker c.primitive_column.result _ _
    (λ u e. e ∙ (λ i. integer_column (kind i) (numbers i) (c.repeated_validity-validity.ensures i)) ∙ sym (ap (λ st. expanded_stored st s n) stored))
    c.primitive_column.ensures.ok

pub returns-in-Decimals-clause-layout : goal.returns-in-Decimals-clause-layout
returns-in-Decimals-clause-layout c =
    let s = c.args.scalar.now in
    let n = c.args.len in
    let d = c.in-Decimal.decimal in
    let made = c.in_ok-values-in-Decimals in
    let fits : FitsSigned w128 c.unscaled_of.result = search rules in
    let typed = sym c.dtype-in-Decimals.ensures.dtype ∙ ap type_of c.in-Decimal.is in
    let width = ap (λ v. v.kind) made.ensures.ok ∙ c.smallest_decimal_value_type-width.ensures.value in
    let numbers = ap (λ v. v.numbers) made.ensures.ok ∙ ap (replicate n) (to_z-of_z fits ∙ c.unscaled_of.ensures) in
    IfOk-weaker c.decimal_column.result _ _
    (λ u e. e ∙ (λ i. decimal_column d (width i) (numbers i) (c.repeated_validity-validity.ensures i))
    ∙ sym (ap (λ ty. expanded_stored (storage_of ty) s n) typed)) c.decimal_column.ensures.ok

pub returns-in-Text-clause-layout : goal.returns-in-Text-clause-layout
returns-in-Text-clause-layout c =
    let s = c.args.scalar.now in
    let n = c.args.len in
    let st = c.storage-storage.result in
    let valued : c.in_ok-bytes-in-Text.bytes ≡ unwrap_or (bytes_in s.value) [] = search rules in
    let made = c.in_ok-rows-in-Text.ensures.ok ∙ ap (repeated n) valued in
    let stored : storage_of s.of_type ≡ st = ap storage_of (sym c.dtype.ensures.dtype) ∙ sym c.storage-storage.ensures in
    IfOk-weaker c.varbinview_column.result _ _
    (λ u e. e ∙ (λ i. bytes_column st (made i) (c.repeated_validity-validity.ensures i)) ∙ sym (bytes_expanded s n st c.in-Text.is)
    ∙ sym (ap (λ x. expanded_stored x s n) stored)) c.varbinview_column.ensures.ok

pub returns-in-Nulls-clause-layout : goal.returns-in-Nulls-clause-layout
returns-in-Nulls-clause-layout c =
    let s = c.args.scalar.now in
    let stored : storage_of s.of_type ≡ Nulls = ap storage_of (sym c.dtype.ensures.dtype) ∙ sym c.storage-storage.ensures ∙ c.in-Nulls.is in
    c.in_ok-new-in-Nulls.ensures.ok ∙ sym (ap (λ st. expanded_stored st s c.args.len) stored)

pub decimal_column-requires-clause-stored : goal.decimal_column-requires-clause-stored
decimal_column-requires-clause-stored c =
    let s = c.args.scalar.now in
    let d = c.in-Decimal.decimal in
    let m = nullability_of s.of_type in
    let made = c.in_ok-values-in-Decimals in
    let fits : FitsSigned w128 c.unscaled_of.result = search rules in
    let typed = sym c.dtype-in-Decimals.ensures.dtype ∙ ap type_of c.in-Decimal.is in
    let there = ap (λ ty. is_stored m (storage_of ty) (parts_in s.of_type s.value) s.value) (sym typed) ∙ c.dtype.ensures.typed in
    let width = (same_width_Decides _ _).1 (ap (λ v. v.kind) made.ensures.ok ∙ c.smallest_decimal_value_type-width.ensures.value) in
    let digits = ap (has_digits d.precision) c.unscaled_of.ensures ∙ decimal_kept d.precision d.scale m (parts_in s.of_type s.value) s.value there in
    let numbers = ap (λ v. v.numbers) made.ensures.ok ∙ ap (replicate c.args.len) (to_z-of_z fits) in
    and_from _ _ width (ap (list_all (has_digits d.precision)) numbers ∙ all_copies (has_digits d.precision) c.args.len c.unscaled_of.result digits)

pub returns-in-Decimals-clause-ok : goal.returns-in-Decimals-clause-ok
returns-in-Decimals-clause-ok c =
    let s = c.args.scalar.now in
    let made = c.in_ok-values-in-Decimals in
    let fits : FitsSigned w128 c.unscaled_of.result = search rules in
    let typed = sym c.dtype-in-Decimals.ensures.dtype ∙ ap type_of c.in-Decimal.is in
    decimals_repeated s c.args.len c.dtype.ensures.typed c.repeated_validity-validity.result c.repeated_validity-validity.ensures c.decimal_column.result
    c.in-Decimal.decimal c.in-Decimal.field-1 (decimal_type_of made.values) c.unscaled_of.result (numbers_of made.values) typed c.unscaled_of.ensures
    (ap (λ v. v.numbers) made.ensures.ok ∙ ap (replicate c.args.len) (to_z-of_z fits)) c.decimal_column.ensures.ok

pub varbinview_column-requires-clause-stored : goal.varbinview_column-requires-clause-stored
varbinview_column-requires-clause-stored c =
    let s = c.args.scalar.now in
    let st = c.storage-storage.result in
    let valued : c.in_ok-bytes-in-Text.bytes ≡ unwrap_or (bytes_in s.value) [] = search rules in
    let kept = ap (λ x. is_stored (nullability_of s.of_type) x (parts_in s.of_type s.value) s.value) (c.storage-storage.ensures ∙ ap storage_of c.dtype.ensures.dtype)
    ∙ c.dtype.ensures.typed in
    let one = ap (λ x. are_bytes_of st (x ∷ [])) valued ∙ bytes_kept (nullability_of s.of_type) st (parts_in s.of_type s.value) s.value c.in-Text.is kept in
    ap (λ r. are_bytes_of st (rows_of r)) c.in_ok-rows-in-Text.ensures.ok
    ∙ ap (are_bytes_of st) (rows_repeated c.args.len c.in_ok-bytes-in-Text.bytes) ∙ bytes_copies st c.args.len c.in_ok-bytes-in-Text.bytes one

pub returns-in-Text-clause-ok : goal.returns-in-Text-clause-ok
returns-in-Text-clause-ok c =
    let valued : c.in_ok-bytes-in-Text.bytes ≡ unwrap_or (bytes_in c.args.scalar.now.value) [] = search rules in
    bytes_repeated c.args.scalar.now c.args.len c.dtype.ensures.typed c.repeated_validity-validity.result c.repeated_validity-validity.ensures
    c.varbinview_column.result c.storage-storage.result c.in_ok-bytes-in-Text.bytes c.in_ok-rows-in-Text.rows
    (ap storage_of (sym c.dtype.ensures.dtype) ∙ sym c.storage-storage.ensures) c.in-Text.is valued c.in_ok-rows-in-Text.ensures.ok c.varbinview_column.ensures.ok

pub returns-in-Nulls-clause-ok : goal.returns-in-Nulls-clause-ok
returns-in-Nulls-clause-ok c =
    let s = c.args.scalar.now in
    let stored : storage_of s.of_type ≡ Nulls = ap storage_of (sym c.dtype.ensures.dtype) ∙ sym c.storage-storage.ensures ∙ c.in-Nulls.is in
    nulls_repeated s c.args.len c.in_ok-new-in-Nulls.field-0 stored c.dtype.ensures.typed c.in_ok-new-in-Nulls.ensures.ok

pub bool_column-requires : goal.bool_column-requires
bool_column-requires c =
    repeated_has c.args.scalar.now c.args.len c.repeated_validity-validity.result c.repeated_validity-validity.ensures c.in_ok-bits-in-Bits.bits
    c.unwrap_or-bit.result c.in_ok-bits-in-Bits.ensures

pub primitive_column-requires : goal.primitive_column-requires
primitive_column-requires c =
    let made = c.in_ok-values-in-Integers in
    repeated_has c.args.scalar.now c.args.len c.repeated_validity-validity.result c.repeated_validity-validity.ensures (values_of made.values) _
    (ap (λ v. v.numbers) made.ensures.ok)

pub decimal_column-requires-clause-sized : goal.decimal_column-requires-clause-sized
decimal_column-requires-clause-sized c =
    let made = c.in_ok-values-in-Decimals in
    repeated_has c.args.scalar.now c.args.len c.repeated_validity-validity.result c.repeated_validity-validity.ensures (numbers_of made.values) _
    (ap (λ v. v.numbers) made.ensures.ok)

pub varbinview_column-requires-clause-sized : goal.varbinview_column-requires-clause-sized
varbinview_column-requires-clause-sized c =
    let made = c.in_ok-rows-in-Text in
    repeated_has c.args.scalar.now c.args.len c.repeated_validity-validity.result c.repeated_validity-validity.ensures (ViewedRows.views made.rows) _
    (ap (λ r. ViewedRows.views r) made.ensures.ok)

pub repeat-requires-in-Integers : goal.repeat-requires-in-Integers
repeat-requires-in-Integers c =
    let fits : FitsSigned w128 c.unwrap_or-wide.result = search rules in
    let stored = ap storage_of (sym c.dtype.ensures.dtype) ∙ sym c.in-Integers.ensures in
    ap (in_range c.in-Integers.ptype) (to_z-of_z fits ∙ c.unwrap_or-wide.ensures ∙ ap (λ o. unwrap_or o (pos 0)) c.as_integer.ensures)
    ∙ stored_integer c.in-Integers.ptype c.args.scalar.now stored c.dtype.ensures.typed
