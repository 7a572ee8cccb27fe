use Rattle.std.proofs.Common.{refl, sym, ap, subst, ◌∙◌, ◌≡◌, true, [], ◌∷◌, length}
use Rattle.std.proofs.lemmas.Result.{IfOk-weaker}
use Rattle.vx_value.specs.Types.{bool, primitive, nullability_of}
use Rattle.vx_value.specs.Values.{boolean, integer, bytes, decimal}
use Rattle.vx_value.specs.Storage.{storage_of}
use Rattle.vx_tree.specs.ColumnTypes.{bytes_type, are_bytes_of, decimal_type, are_decimals_of}
use Rattle.vx_column.specs.Stored.{bytes_column}
use Rattle.vx_value.specs.declared.dtype.Nullability.TheVariants.{NonNullable}
use Rattle.vx_mask.specs.Masks.{bits_in}
use Rattle.vx_tree.specs.Natives.{values_of, ptype_of}
use Rattle.vx_tree.specs.Tree as enc
use Rattle.vx_tree.specs.Tree.{dtype, len, datum, nulls_of, filter_of, slots_of}
use Rattle.vx_tree.specs.Well.{IsNodeOf, IsFlat, shapes}
use Rattle.vx_tree.specs.Keeps.{KeepsExactly}
use Rattle.vx_tree.specs.Canonicals.{canonical_tree}
use Rattle.vx_column.proofs.FilteredLemmas.{rows_chosen, bytes_chosen, column_filtered, decimals_chosen, data_chosen}
use Rattle.vx_column.proofs.NullsLemmas.{nulls_filtered}
use Rattle.std.specs.Cmp.{second_so}
use Rattle.vx_mask.specs.Places.{chosen}
use Rattle.vx_tree.specs.Views.{ViewedRows, viewed, bytes_at, rows_of, all_lie_in}
use Rattle.vx_tree.proofs.ViewsLemmas.{rows_chosen as views_chosen}
use Rattle.vx_column.specs.Filtered.{chosen_data}
use Rattle.vx_column.proofs.filter.filter_canonical.Goals as goal
use Rattle.vx_value.specs.Types as type
use Rattle.vx_value.specs.View.{type_of}
use Rattle.vx_tree.specs.DecimalNumbers.{numbers_of, decimal_type_of}
use Rattle.vx_column.proofs.StoredLemmas.{decimal_typed}

pub bool_column-requires : goal.bool_column-requires
bool_column-requires c =
    let flat = subst IsNodeOf c.in-Bool.ensures.0 c.in-Bool.ensures.1 in
    rows_chosen (bits_in c.args.mask.now) c.in-Bool.bits.now c.in_ok-filter-in-Bool.field-0 c.as_array-array.result.now _ c.in_ok-validity-in-Bool.validity
    (sym flat.2) c.requires c.as_array-array.ensures.of c.in_ok-filter-in-Bool.ensures c.in_ok-validity-in-Bool.ensures.sized

pub primitive_column-requires : goal.primitive_column-requires
primitive_column-requires c =
    let flat = subst IsNodeOf c.in-Primitive.ensures.0 c.in-Primitive.ensures.1 in
    rows_chosen (bits_in c.args.mask.now) (values_of c.in-Primitive.values.now) (values_of c.in_ok-filter-in-Primitive.field-0) c.as_array-array.result.now _
    c.in_ok-validity-in-Primitive.validity (sym flat.2) c.requires c.as_array-array.ensures.of (ap (λ v. v.numbers) c.in_ok-filter-in-Primitive.ensures.ok)
    c.in_ok-validity-in-Primitive.ensures.sized

pub returns-in_ok-filter-in-Bool-clause-ok : goal.returns-in_ok-filter-in-Bool-clause-ok
returns-in_ok-filter-in-Bool-clause-ok c =
    let bits = bits_in c.args.mask.now in
    let t = c.as_array-array.result.now in
    let validity = c.in_ok-validity-in-Bool in
    let flat = subst IsNodeOf c.in-Bool.ensures.0 c.in-Bool.ensures.1 in
    let long = c.requires ∙ ap len (sym c.as_array-array.ensures.of) in
    let same = validity.ensures.nullability ∙ c.nullability-nullability.ensures ∙ ap nullability_of c.dtype.ensures.dtype in
    IfOk-weaker c.bool_column.result _ _
    (λ u made. subst (λ x. KeepsExactly (filter_of bits x) (canonical_tree u)) c.as_array-array.ensures.of
    (column_filtered boolean enc.bool (bool NonNullable) (λ m n xs tys css. refl) bits c.in-Bool.bits.now c.in_ok-filter-in-Bool.field-0 c.in-Bool.validity.now
    validity.validity t (canonical_tree u) c.in-Bool.ensures.0 flat long c.in_ok-filter-in-Bool.ensures same validity.ensures.chosen made))
    c.bool_column.ensures.ok

pub returns-in_ok-filter-in-Primitive-clause-ok : goal.returns-in_ok-filter-in-Primitive-clause-ok
returns-in_ok-filter-in-Primitive-clause-ok c =
    let bits = bits_in c.args.mask.now in
    let t = c.as_array-array.result.now in
    let p = ptype_of c.in-Primitive.values.now in
    let validity = c.in_ok-validity-in-Primitive in
    let kept = c.in_ok-filter-in-Primitive in
    let flat = subst IsNodeOf c.in-Primitive.ensures.0 c.in-Primitive.ensures.1 in
    let long = c.requires ∙ ap len (sym c.as_array-array.ensures.of) in
    let same = validity.ensures.nullability ∙ c.nullability-nullability.ensures ∙ ap nullability_of c.dtype.ensures.dtype in
    let column_made = rw (ap (λ v. v.kind) kept.ensures.ok) at c.primitive_column.ensures.ok in
    IfOk-weaker c.primitive_column.result _ _
    (λ u made. subst (λ x. KeepsExactly (filter_of bits x) (canonical_tree u)) c.as_array-array.ensures.of
    (column_filtered integer (enc.primitive p) (primitive p NonNullable) (λ m n xs tys css. refl) bits (values_of c.in-Primitive.values.now)
    (values_of kept.field-0)
    c.in-Primitive.validity.now validity.validity t (canonical_tree u) c.in-Primitive.ensures.0 flat long
    (ap (λ v. v.numbers) kept.ensures.ok) same validity.ensures.chosen made))
    column_made

pub unreachable-requires : goal.unreachable-requires
unreachable-requires c =
    let values = c.in-Decimal.values.now in
    let flat = subst IsNodeOf c.in-Decimal.ensures.0 c.in-Decimal.ensures.1 in
    decimal_typed c.dtype-in-Decimal.result.now (decimal_type_of values) (numbers_of values)
    (subst (λ ty. are_decimals_of (storage_of ty) (decimal_type_of values) (numbers_of values) ≡ true) (sym c.dtype-in-Decimal.ensures.dtype) flat.1)
    c.in_default-dtype.not-Decimal

pub decimal_column-requires-clause-sized : goal.decimal_column-requires-clause-sized
decimal_column-requires-clause-sized c =
    let flat = subst IsNodeOf c.in-Decimal.ensures.0 c.in-Decimal.ensures.1 in
    rows_chosen (bits_in c.args.mask.now) (numbers_of c.in-Decimal.values.now) (numbers_of c.in_ok-filter-in-Decimal.field-0) c.as_array-array.result.now _
    c.in_ok-validity-in-Decimal.validity (sym flat.0.2) c.requires c.as_array-array.ensures.of (ap (λ v. v.numbers) c.in_ok-filter-in-Decimal.ensures.ok)
    c.in_ok-validity-in-Decimal.ensures.sized

pub decimal_column-requires-clause-stored : goal.decimal_column-requires-clause-stored
decimal_column-requires-clause-stored c =
    let flat = subst IsNodeOf c.in-Decimal.ensures.0 c.in-Decimal.ensures.1 in
    let values = c.in-Decimal.values.now in
    let kept = c.in_ok-filter-in-Decimal in
    let stored = ap storage_of (sym c.dtype-in-Decimal.ensures.dtype ∙ ap type_of c.in-Decimal-dtype.is) in
    decimals_chosen c.in-Decimal-dtype.decimal (bits_in c.args.mask.now) (decimal_type_of values) (decimal_type_of kept.field-0) (numbers_of values)
    (numbers_of kept.field-0)
    (subst (λ st. are_decimals_of st (decimal_type_of values) (numbers_of values) ≡ true) stored flat.1) (ap (λ v. v.kind) kept.ensures.ok)
    (ap (λ v. v.numbers) kept.ensures.ok)

pub returns-in_ok-filter-in-Decimal-clause-ok : goal.returns-in_ok-filter-in-Decimal-clause-ok
returns-in_ok-filter-in-Decimal-clause-ok c =
    let bits = bits_in c.args.mask.now in
    let t = c.as_array-array.result.now in
    let d = c.in-Decimal-dtype.decimal in
    let values = c.in-Decimal.values.now in
    let w = decimal_type_of values in
    let validity = c.in_ok-validity-in-Decimal in
    let kept = c.in_ok-filter-in-Decimal in
    let flat = subst IsNodeOf c.in-Decimal.ensures.0 c.in-Decimal.ensures.1 in
    let stored = ap storage_of (sym c.dtype-in-Decimal.ensures.dtype ∙ ap type_of c.in-Decimal-dtype.is) in
    let long = c.requires ∙ ap len (sym c.as_array-array.ensures.of) in
    let same = validity.ensures.nullability ∙ c.nullability-nullability.ensures ∙ ap nullability_of c.dtype.ensures.dtype in
    let column_made = rw (ap (λ v. v.kind) kept.ensures.ok) at c.decimal_column.ensures.ok in
    IfOk-weaker c.decimal_column.result _ _
    (λ u made. subst (λ x. KeepsExactly (filter_of bits x) (canonical_tree u)) c.as_array-array.ensures.of
    (column_filtered (λ z. decimal z d.scale) (enc.decimals w) (type.decimal d.precision d.scale NonNullable) (λ m n xs tys css. refl) bits (numbers_of values)
    (numbers_of kept.field-0) c.in-Decimal.validity.now validity.validity t (canonical_tree u) c.in-Decimal.ensures.0
    (subst (λ st. IsFlat (decimal_type st) (length (numbers_of values)) (dtype t) (len t) (shapes (slots_of (c.in-Decimal.validity.now ∷ [])))) stored flat.0)
    long (ap (λ v. v.numbers) kept.ensures.ok) same validity.ensures.chosen made))
    column_made

pub varbinview_column-requires-clause-sized : goal.varbinview_column-requires-clause-sized
varbinview_column-requires-clause-sized c =
    let flat = subst IsNodeOf c.in-VarBinView.ensures.0 c.in-VarBinView.ensures.1 in
    rows_chosen (bits_in c.args.mask.now) c.in-VarBinView.rows.now.views (ViewedRows.views c.in_ok-filter-in-VarBinView.field-0) c.as_array-array.result.now _
    c.in_ok-validity-in-VarBinView.validity (sym flat.0.2) c.requires c.as_array-array.ensures.of
    (ap (λ r. ViewedRows.views r) c.in_ok-filter-in-VarBinView.ensures.ok)
    c.in_ok-validity-in-VarBinView.ensures.sized

pub varbinview_column-requires-clause-stored : goal.varbinview_column-requires-clause-stored
varbinview_column-requires-clause-stored c =
    let flat = subst IsNodeOf c.in-VarBinView.ensures.0 c.in-VarBinView.ensures.1 in
    let kind = c.storage-storage.ensures ∙ ap storage_of c.dtype-in-VarBinView.ensures.dtype in
    let bits = bits_in c.args.mask.now in
    let rs = c.in-VarBinView.rows.now in
    let st = storage_of (dtype c.as_array-array.result.now) in
    let typed = second_so (all_lie_in rs) (are_bytes_of st (rows_of rs)) flat.1 in
    bytes_chosen c.storage-storage.result bits (rows_of rs) (rows_of c.in_ok-filter-in-VarBinView.field-0)
    (ap (λ x. are_bytes_of x (rows_of rs)) kind ∙ typed) (ap rows_of c.in_ok-filter-in-VarBinView.ensures.ok ∙ views_chosen bits rs)

pub returns-in_ok-filter-in-VarBinView-clause-ok : goal.returns-in_ok-filter-in-VarBinView-clause-ok
returns-in_ok-filter-in-VarBinView-clause-ok c =
    let bits = bits_in c.args.mask.now in
    let t = c.as_array-array.result.now in
    let st = storage_of (dtype t) in
    let validity = c.in_ok-validity-in-VarBinView in
    let rs = c.in-VarBinView.rows.now in
    let flat = subst IsNodeOf c.in-VarBinView.ensures.0 c.in-VarBinView.ensures.1 in
    let kind = c.storage-storage.ensures ∙ ap storage_of c.dtype-in-VarBinView.ensures.dtype in
    let long = c.requires ∙ ap len (sym c.as_array-array.ensures.of) in
    let same = validity.ensures.nullability ∙ c.nullability-nullability.ensures ∙ ap nullability_of c.dtype.ensures.dtype in
    IfOk-weaker c.varbinview_column.result _ _
    (λ u made. subst (λ x. KeepsExactly (filter_of bits x) (canonical_tree u)) c.as_array-array.ensures.of
    (column_filtered (λ x. bytes (bytes_at rs.buffers x)) (λ vs. enc.views (viewed vs rs.buffers)) (bytes_type st) (λ m n xs tys css. refl) bits rs.views
    (chosen bits rs.views) c.in-VarBinView.validity.now validity.validity t (canonical_tree u) c.in-VarBinView.ensures.0 flat.0 long refl same
    validity.ensures.chosen (made ∙ (λ i. bytes_column (kind i) (c.in_ok-filter-in-VarBinView.ensures.ok i) validity.validity))))
    c.varbinview_column.ensures.ok

pub returns-in_ok-new-in-Null-clause-ok : goal.returns-in_ok-new-in-Null-clause-ok
returns-in_ok-new-in-Null-clause-ok c =
    let bits = bits_in c.args.mask.now in
    let t = c.as_array-array.result.now in
    let of = c.as_array-array.ensures.of in
    let made = c.in_ok-new-in-Null.ensures.ok ∙ ap nulls_of c.true_count.ensures in
    subst (λ x. KeepsExactly (filter_of bits x) c.in_ok-new-in-Null.field-0) of
    (nulls_filtered bits t c.in_ok-new-in-Null.field-0 c.in-Null.ensures (c.requires ∙ ap len (sym of)) made)

pub returns-in_ok-filter-in-Bool-clause-stored : goal.returns-in_ok-filter-in-Bool-clause-stored
returns-in_ok-filter-in-Bool-clause-stored c =
    data_chosen (bits_in c.args.mask.now) (canonical_tree c.args.column.now) c.as_array-array.result.now (enc.bool c.in-Bool.bits.now)
    (enc.bool c.in_ok-filter-in-Bool.field-0) _ c.bool_column.result
    c.as_array-array.ensures.of (ap datum c.in-Bool.ensures.0) refl (ap enc.bool c.in_ok-filter-in-Bool.ensures) c.bool_column.ensures.ok

pub returns-in_ok-filter-in-Primitive-clause-stored : goal.returns-in_ok-filter-in-Primitive-clause-stored
returns-in_ok-filter-in-Primitive-clause-stored c =
    data_chosen (bits_in c.args.mask.now) (canonical_tree c.args.column.now) c.as_array-array.result.now (enc.primitive (ptype_of c.in-Primitive.values.now) (values_of c.in-Primitive.values.now))
    (enc.primitive (ptype_of c.in_ok-filter-in-Primitive.field-0) (values_of c.in_ok-filter-in-Primitive.field-0)) _ c.primitive_column.result
    c.as_array-array.ensures.of (ap datum c.in-Primitive.ensures.0) refl (λ i. enc.primitive (c.in_ok-filter-in-Primitive.ensures.ok i).kind (c.in_ok-filter-in-Primitive.ensures.ok i).numbers) c.primitive_column.ensures.ok

pub returns-in_ok-filter-in-Decimal-clause-stored : goal.returns-in_ok-filter-in-Decimal-clause-stored
returns-in_ok-filter-in-Decimal-clause-stored c =
    data_chosen (bits_in c.args.mask.now) (canonical_tree c.args.column.now) c.as_array-array.result.now (enc.decimals (decimal_type_of c.in-Decimal.values.now) (numbers_of c.in-Decimal.values.now))
    (enc.decimals (decimal_type_of c.in_ok-filter-in-Decimal.field-0) (numbers_of c.in_ok-filter-in-Decimal.field-0)) _ c.decimal_column.result
    c.as_array-array.ensures.of (ap datum c.in-Decimal.ensures.0) refl (λ i. enc.decimals (c.in_ok-filter-in-Decimal.ensures.ok i).kind (c.in_ok-filter-in-Decimal.ensures.ok i).numbers) c.decimal_column.ensures.ok

pub returns-in_ok-filter-in-VarBinView-clause-stored : goal.returns-in_ok-filter-in-VarBinView-clause-stored
returns-in_ok-filter-in-VarBinView-clause-stored c =
    data_chosen (bits_in c.args.mask.now) (canonical_tree c.args.column.now) c.as_array-array.result.now (enc.views c.in-VarBinView.rows.now)
    (enc.views c.in_ok-filter-in-VarBinView.field-0) _ c.varbinview_column.result
    c.as_array-array.ensures.of (ap datum c.in-VarBinView.ensures.0) refl (ap enc.views c.in_ok-filter-in-VarBinView.ensures.ok) c.varbinview_column.ensures.ok

pub returns-in_ok-new-in-Null-clause-stored : goal.returns-in_ok-new-in-Null-clause-stored
returns-in_ok-new-in-Null-clause-stored c =
    let stored = ap datum (sym c.as_array-array.ensures.of) ∙ ap datum c.in-Null.ensures in
    ap datum c.in_ok-new-in-Null.ensures.ok ∙ sym (ap (chosen_data (bits_in c.args.mask.now)) stored)
