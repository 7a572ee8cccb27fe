-- The validities that are spelled are those of their columns.
use Rattle.std.proofs.Common.{◌≡◌, ◌≢◌, ℕ, suc, pos, List, [], ◌∷◌, length, map, Bool, true, false, ◌&&◌, Option, Some, None, Result, Ok, Err, IfOk, IfErr, inl, refl, sym, ap, subst, ◌∙◌}
use Rattle.std.proofs.lemmas.Bool.{and_from}
use Rattle.std.proofs.lemmas.List.{length-map}
use Rattle.std.proofs.lemmas.Option.{same_Some}
use Rattle.std.specs.List.{list_all}
use Rattle.std.specs.Prelude.{ℤ, is_some, option_map, option_and_then, if◌then◌else◌}
use Rattle.serde_json.specs.Data.{Items, item, null, Data as Json}
use Rattle.serde_json.specs.declared.value.Value.{Value}
use Rattle.serde_json.specs.Find.{as_null, as_bool}
use Rattle.serde_json.specs.View.{view, items_view}
use Rattle.vx_value.specs.Types as type
use Rattle.vx_value.specs.Types.{DataType, nullability_of, same_type_Decides}
use Rattle.vx_value.specs.Decimals.{has_digits, smallest_width, same_width_Decides}
use Rattle.vx_value.specs.declared.decimal.DecimalType.{DecimalType}
use Rattle.vx_value.specs.Nullabilities.{with_nullability}
use Rattle.vx_value.specs.declared.dtype.Nullability.{Nullability}
use Rattle.vx_value.specs.declared.dtype.Nullability.TheVariants.{NonNullable, Nullable}
use Rattle.vx_value.specs.Storage.{storage_of}
use Rattle.vx_value.specs.View.{type_of}
use Rattle.vx_value.specs.declared.error.VortexError.{VortexError}
use Rattle.vx_value.specs.declared.error.VortexError.TheVariants.{OutOfMemory}
use Rattle.vx_value.specs.declared.dtype.DType.{DType}
use Rattle.vx_value.specs.declared.dtype.DType.TheVariants as dtype_of
use Rattle.vx_value.specs.declared.dtype.Storage.TheVariants.{Text, Bytes}
use Rattle.vx_tree.specs.Natives.{values_of, ptype_of}
use Rattle.vx_tree.specs.DecimalNumbers.{numbers_of, decimal_type_of}
use Rattle.vx_mask.specs.Masks.{is_all_true, is_all_false}
use Rattle.vx_tree.specs.Tree.{Tree, Data, dtype, len, column, nulls_of, bool, primitive, decimals, views, booleans}
use Rattle.vx_tree.specs.Rows.{item_or}
use Rattle.vx_tree.specs.Validities.{HasRows, nullability_by, child_of, child_by, truths, array_refusal, flat_refusal, decimal_refusal}
use Rattle.vx_tree.specs.declared.validity.Validity.{Validity}
use Rattle.vx_tree.specs.declared.validity.Validity.TheVariants as validity
use Rattle.vx_tree.proofs.ValiditiesLemmas.{rows_allowed, tree_allowed}
use Rattle.vx_tree.proofs.ConditionsLemmas.{none_refused, none_unless}
use Rattle.vx_json.specs.SpelledValues.{integer_spelled, decimal_spelled, bytes_spelled, is_null, or_null, all_read}
use Rattle.vx_json.specs.SpelledColumns.{flat_rows, column_of_values, flat_of}
use Rattle.vx_json.specs.Refused.{IsRead}
use Rattle.vx_json.specs.SpelledNulls.{validity_spelled}
use Rattle.vx_json.specs.declared.nulls.Nulls.{Nulls}
use Rattle.vx_json.specs.declared.nulls.Nulls.TheVariants.{Absent}
use Rattle.vx_json.specs.ColumnValues.{data_of, count_of, values_refusal, AreReadAs, AreUnread}
use Rattle.vx_json.specs.ReadRows.{AreRead}
use Rattle.vx_json.specs.declared.column_values.ColumnValues.{ColumnValues}
use Rattle.vx_json.specs.declared.column_values.ColumnValues.TheVariants.{Bits, Integers, Decimals, Views}
use Rattle.vx_json.proofs.ReadRowsLemmas.{none_null, none_null_unread}
use Rattle.vx_json.proofs.RowsLemmas.{column_of, column_there}
use Rattle.vx_json.proofs.SpelledDecimalsLemmas.{rows_digits}
use Rattle.vx_json.proofs.SpelledValuesLemmas.{mapped_read, all_count}
use Rattle.vx_tree.specs.Views.{ViewedRows, bytes_at, rows_of, packed}

-- there are as many rows as views
rows_long : (rs : ViewedRows) → length (rows_of rs) ≡ length rs.views
rows_long rs = length-map rs.views (bytes_at rs.buffers)

-- whether each row is there is told of as many as there are values
told_long : {A : Type 0} (zero : A) (read : Json → Option A) (ds : Items) (xs : List A) (valid : List Bool) →
    AreRead Nullable zero read ds xs valid → length valid ≡ length xs
told_long zero read ds xs valid h = ap length h.are_told ∙ length-map h.rows is_some ∙ sym (length-map h.rows (item_or zero)) ∙ sym (ap length h.held)

-- and these are as many as there are items
rows_counted : {A : Type 0} {m : Nullability} {valid : List Bool} (zero : A) (read : Json → Option A) (vs : List Value) (xs : List A) →
    AreRead m zero read (items_view vs) xs valid → length xs ≡ length vs
rows_counted zero read vs xs h = ap length h.held ∙ length-map h.rows (item_or zero) ∙ all_count _ vs h.rows h.are_read

-- a validity of the nullability and the rows of a column isn't refused
not_refused : (s : DataType) (m : Nullability) (n : ℕ) (v : Validity) → nullability_by v ≡ m → array_refusal n v ≡ None →
    flat_refusal s (with_nullability m s) n v ≡ None
not_refused s m n v e h = none_refused _ _ (none_unless _ _ ((same_type_Decides _ _).1 (ap (λ k. with_nullability k s) (sym e)))) h

-- the validity of bits is one of as many rows
bits_kept : (bits : List Bool) (v : Validity) → child_of v (length bits) ≡ child_by bits → array_refusal (length bits) v ≡ None
bits_kept bits (validity.Array t) e = by_tests (is_all_true bits) (is_all_false bits) e
  where
    long : (u : Tree) → dtype u ≡ type.bool NonNullable → len u ≡ length bits → Some t ≡ Some u → array_refusal (length bits) (validity.Array t) ≡ None
    long u typed counted same =
        let is : u ≡ t = sym (same_Some _ _ same) in
        subst (λ x. array_refusal (length bits) (validity.Array x) ≡ None) is (tree_allowed u (length bits) typed counted)

    by_tests : (a b : Bool) → Some t ≡ (if a then None else (if b then Some (truths false (length bits)) else Some (booleans bits)))
        → array_refusal (length bits) (validity.Array t) ≡ None
    by_tests true b e = absurd (cc)
    by_tests false true e = long (truths false (length bits)) refl refl e
    by_tests false false e = long (booleans bits) refl refl e
bits_kept bits _ e = refl

-- nor is a column of decimals for its numbers, if each has at most as many digits
decimals_fit : (p s : ℕ) (m : Nullability) (w : DecimalType) (zs : List ℤ) (v : Validity) → w ≡ smallest_width p → list_all (has_digits p) zs ≡ true →
    flat_refusal (type.decimal p s NonNullable) (type.decimal p s m) (length zs) v ≡ None → decimal_refusal (type.decimal p s m) w zs v ≡ None
decimals_fit p s m w zs v narrow digits flat =
    none_refused _ _ flat (none_unless _ _ (and_from _ _ ((same_width_Decides w (smallest_width p)).1 narrow) digits))

-- so no column of values that are read is refused, if the validity is one of the nullability and of the rows: a line for each type
pub values_fit : (m : Nullability) (ty : DataType) (ds : Items) (v : ColumnValues) (valid : List Bool) (w : Validity) → AreReadAs m (storage_of ty) ds v valid →
    nullability_by w ≡ nullability_of ty → array_refusal (count_of v) w ≡ None → values_refusal ty v w ≡ None
values_fit m (type.bool k) ds (Bits bits) valid w h e kept = not_refused (type.bool NonNullable) k (length bits) w e kept
values_fit m (type.primitive p k) ds (Integers v) valid w h e kept =
    subst (λ q. flat_refusal (type.primitive (ptype_of v) NonNullable) (type.primitive q k) (length (values_of v)) w ≡ None) h.0
    (not_refused (type.primitive (ptype_of v) NonNullable) k (length (values_of v)) w e kept)
values_fit m (type.decimal p s k) ds (Decimals v) valid w h e kept =
    decimals_fit p s k (decimal_type_of v) (numbers_of v) w h.0 (rows_digits m p ds (numbers_of v) valid h.1)
    (not_refused (type.decimal p s NonNullable) k (length (numbers_of v)) w e kept)
values_fit m (type.utf8 k) ds (Views rows) valid w h e kept =
    none_refused _ _ (not_refused (type.utf8 NonNullable) k (length rows.views) w e kept) (none_unless _ _ h.1)
values_fit m (type.binary k) ds (Views rows) valid w h e kept =
    none_refused _ _ (not_refused (type.binary NonNullable) k (length rows.views) w e kept) refl
values_fit m ty ds v valid w h e kept = absurd h

-- values that are never null are those of a column: a line for each type
pub values_by : (ty : DataType) (ds : Items) (v : ColumnValues) (valid : List Bool) (nulls : Nulls) → AreReadAs NonNullable (storage_of ty) ds v valid →
    column_of_values nulls ty ds ≡ flat_of ty (count_of v) (data_of v) nulls
values_by (type.bool k) ds (Bits bits) valid nulls h =
    ap (option_and_then (λ bs. flat_of (type.bool k) (length bs) (bool bs) nulls)) (none_null false as_bool ds bits valid h)
values_by (type.primitive p k) ds (Integers v) valid nulls h =
    ap (option_and_then (λ zs. flat_of (type.primitive p k) (length zs) (primitive p zs) nulls))
    (none_null (pos 0) (integer_spelled p) ds (values_of v) valid h.1)
    ∙ ap (λ q. flat_of (type.primitive p k) (length (values_of v)) (primitive q (values_of v)) nulls) (sym h.0)
values_by (type.decimal p s k) ds (Decimals v) valid nulls h =
    ap (option_and_then (λ zs. flat_of (type.decimal p s k) (length zs) (decimals (smallest_width p) zs) nulls))
    (none_null (pos 0) (decimal_spelled p) ds (numbers_of v) valid h.1)
    ∙ ap (λ q. flat_of (type.decimal p s k) (length (numbers_of v)) (decimals q (numbers_of v)) nulls) (sym h.0)
values_by (type.utf8 k) ds (Views rows) valid nulls h =
    ap (option_and_then (λ rs. flat_of (type.utf8 k) (length rs) (views (packed rs)) nulls)) (none_null [] (bytes_spelled Text) ds (rows_of rows) valid h.2)
    ∙ (λ i. flat_of (type.utf8 k) (rows_long rows i) (views (sym h.0 i)) nulls)
values_by (type.binary k) ds (Views rows) valid nulls h =
    ap (option_and_then (λ rs. flat_of (type.binary k) (length rs) (views (packed rs)) nulls)) (none_null [] (bytes_spelled Bytes) ds (rows_of rows) valid h.1)
    ∙ (λ i. flat_of (type.binary k) (rows_long rows i) (views (sym h.0 i)) nulls)
values_by ty ds v valid nulls h = absurd h

pub values_unread : (ty : DataType) (ds : Items) (nulls : Nulls) → AreUnread NonNullable (storage_of ty) ds → column_of_values nulls ty ds ≡ None
values_unread (type.bool k) ds nulls h = ap (option_and_then _) (none_null_unread as_bool ds h)
values_unread (type.primitive p k) ds nulls h = ap (option_and_then _) (none_null_unread (integer_spelled p) ds h)
values_unread (type.decimal p s k) ds nulls h = ap (option_and_then _) (none_null_unread (decimal_spelled p) ds h)
values_unread (type.utf8 k) ds nulls h = ap (option_and_then _) (none_null_unread (bytes_spelled Text) ds h)
values_unread (type.binary k) ds nulls h = ap (option_and_then _) (none_null_unread (bytes_spelled Bytes) ds h)
values_unread _ ds nulls h = refl

-- they are as many as there are items
values_counted : (m : Nullability) (ty : DataType) (vs : List Value) (v : ColumnValues) (valid : List Bool) →
    AreReadAs m (storage_of ty) (items_view vs) v valid → count_of v ≡ length vs
values_counted m (type.bool k) vs (Bits bits) valid h = rows_counted false as_bool vs bits h
values_counted m (type.primitive p k) vs (Integers v) valid h = rows_counted (pos 0) (integer_spelled p) vs (values_of v) h.1
values_counted m (type.decimal p s k) vs (Decimals v) valid h = rows_counted (pos 0) (decimal_spelled p) vs (numbers_of v) h.1
values_counted m (type.utf8 k) vs (Views rows) valid h = sym (rows_long rows) ∙ rows_counted [] (bytes_spelled Text) vs (rows_of rows) h.2
values_counted m (type.binary k) vs (Views rows) valid h = sym (rows_long rows) ∙ rows_counted [] (bytes_spelled Bytes) vs (rows_of rows) h.1
values_counted m ty vs v valid h = absurd h

-- a column of them, if the validity is one of the nullability and of the items
module _ (ty : DataType) (vs : List Value) (v : ColumnValues) (valid : List Bool) (nulls : Nulls) (w : Validity)
    (h : AreReadAs NonNullable (storage_of ty) (items_view vs) v valid) where
  pub flat_made : validity_spelled (nullability_of ty) (length vs) nulls ≡ Some w →
      column_of_values nulls ty (items_view vs) ≡ Some (column ty (count_of v) (data_of v) (child_of w (count_of v)))
  flat_made e =
      values_by ty (items_view vs) v valid nulls h ∙ ap (option_map (λ (u : Validity). column ty (count_of v) (data_of v) (child_of u (count_of v))))
      (ap (λ n. validity_spelled (nullability_of ty) n nulls) (values_counted NonNullable ty vs v valid h) ∙ e)

  pub flat_fits : nullability_by w ≡ nullability_of ty → HasRows w (length vs) → values_refusal ty v w ≡ None
  flat_fits e rows =
      values_fit NonNullable ty (items_view vs) v valid w h e
      (rows_allowed (count_of v) w (subst (HasRows w) (sym (values_counted NonNullable ty vs v valid h)) rows))

-- and there is none if there is no such validity
unspelled_by : {A : Type 0} (ty : DataType) (of_items : List A → Data) (read : Json → Option A) (vs : List Value) (nulls : Nulls) →
    validity_spelled (nullability_of ty) (length vs) nulls ≡ None →
    option_and_then (λ xs. flat_of ty (length xs) (of_items xs) nulls) (all_read read (items_view vs)) ≡ None
unspelled_by ty of_items read vs nulls h = by_read (all_read read (items_view vs)) refl
  where
    by_read : (o : Option (List _)) → all_read read (items_view vs) ≡ o → option_and_then (λ xs. flat_of ty (length xs) (of_items xs) nulls) o ≡ None
    by_read None is = refl
    by_read (Some xs) is =
        ap (option_map (λ (u : Validity). column ty (length xs) (of_items xs) (child_of u (length xs))))
        (ap (λ n. validity_spelled (nullability_of ty) n nulls) (all_count read vs xs is) ∙ h)

pub flat_unspelled : (ty : DataType) (vs : List Value) (nulls : Nulls) → validity_spelled (nullability_of ty) (length vs) nulls ≡ None →
    column_of_values nulls ty (items_view vs) ≡ None
flat_unspelled (type.bool k) vs nulls h = unspelled_by (type.bool k) bool as_bool vs nulls h
flat_unspelled (type.primitive p k) vs nulls h = unspelled_by (type.primitive p k) (primitive p) (integer_spelled p) vs nulls h
flat_unspelled (type.decimal p s k) vs nulls h = unspelled_by (type.decimal p s k) (decimals (smallest_width p)) (decimal_spelled p) vs nulls h
flat_unspelled (type.utf8 k) vs nulls h = unspelled_by (type.utf8 k) (λ rs. views (packed rs)) (bytes_spelled Text) vs nulls h
flat_unspelled (type.binary k) vs nulls h = unspelled_by (type.binary k) (λ rs. views (packed rs)) (bytes_spelled Bytes) vs nulls h
flat_unspelled _ vs nulls h = refl

-- rows, null among them, are the column of what they hold and of a validity that tells whether each is there
rows_column : {A : Type 0} (zero : A) (ty : DataType) (of_items : List A → Data) (read : Json → Option A) (ds : Items) (xs : List A) (valid : List Bool)
    (w : Validity) → AreRead Nullable zero read ds xs valid → child_of w (length valid) ≡ child_by valid →
    option_map (column_of zero ty of_items) (all_read (or_null Nullable read) ds) ≡ Some (column ty (length xs) (of_items xs) (child_of w (length xs)))
rows_column zero ty of_items read ds xs valid w h tells =
    let child : child_by (map is_some h.rows) ≡ child_of w (length xs) =
    ap child_by (sym h.are_told) ∙ sym tells ∙ ap (child_of w) (told_long zero read ds xs valid h) in
    let counted : length h.rows ≡ length xs = sym (length-map h.rows (item_or zero)) ∙ ap length (sym h.held) in
    ap (option_map (column_of zero ty of_items)) h.are_read ∙ ap Some (λ i. column ty (counted i) (of_items (sym h.held i)) (child i))

pub rows_by : (ty : DataType) (ds : Items) (v : ColumnValues) (valid : List Bool) (w : Validity) → nullability_of ty ≡ Nullable →
    AreReadAs Nullable (storage_of ty) ds v valid → child_of w (length valid) ≡ child_by valid →
    flat_rows ty ds ≡ Some (column ty (count_of v) (data_of v) (child_of w (count_of v)))
rows_by (type.bool Nullable) ds (Bits bits) valid w n h tells = rows_column false (type.bool Nullable) bool as_bool ds bits valid w h tells
rows_by (type.primitive p Nullable) ds (Integers v) valid w n h tells =
    rows_column (pos 0) (type.primitive p Nullable) (primitive p) (integer_spelled p) ds (values_of v) valid w h.1 tells
    ∙ ap (λ q. Some (column (type.primitive p Nullable) (length (values_of v)) (primitive q (values_of v)) (child_of w (length (values_of v))))) (sym h.0)
rows_by (type.decimal p s Nullable) ds (Decimals v) valid w n h tells =
    rows_column (pos 0) (type.decimal p s Nullable) (decimals (smallest_width p)) (decimal_spelled p) ds (numbers_of v) valid w h.1 tells
    ∙ ap (λ q. Some (column (type.decimal p s Nullable) (length (numbers_of v)) (decimals q (numbers_of v)) (child_of w (length (numbers_of v))))) (sym h.0)
rows_by (type.utf8 Nullable) ds (Views rows) valid w n h tells =
    rows_column [] (type.utf8 Nullable) (λ rs. views (packed rs)) (bytes_spelled Text) ds (rows_of rows) valid w h.2 tells
    ∙ ap Some (λ i. column (type.utf8 Nullable) (rows_long rows i) (views (sym h.0 i)) (child_of w (rows_long rows i)))
rows_by (type.binary Nullable) ds (Views rows) valid w n h tells =
    rows_column [] (type.binary Nullable) (λ rs. views (packed rs)) (bytes_spelled Bytes) ds (rows_of rows) valid w h.1 tells
    ∙ ap Some (λ i. column (type.binary Nullable) (rows_long rows i) (views (sym h.0 i)) (child_of w (rows_long rows i)))
rows_by (type.bool NonNullable) ds v valid w n h tells = absurd (cc n)
rows_by (type.primitive p NonNullable) ds v valid w n h tells = absurd (cc n)
rows_by (type.decimal p s NonNullable) ds v valid w n h tells = absurd (cc n)
rows_by (type.utf8 NonNullable) ds v valid w n h tells = absurd (cc n)
rows_by (type.binary NonNullable) ds v valid w n h tells = absurd (cc n)
rows_by ty ds v valid w n h tells = absurd h

-- their validity isn't refused
pub bits_fit : (ty : DataType) (ds : Items) (v : ColumnValues) (valid : List Bool) (w : Validity) → AreReadAs Nullable (storage_of ty) ds v valid →
    child_of w (length valid) ≡ child_by valid → array_refusal (count_of v) w ≡ None
bits_fit ty ds v valid w h tells = subst (λ n. array_refusal n w ≡ None) (long ty v h) (bits_kept valid w tells)
  where
    long : (t : DataType) (u : ColumnValues) → AreReadAs Nullable (storage_of t) ds u valid → length valid ≡ count_of u
    long (type.bool k) (Bits bits) r = told_long false as_bool ds bits valid r
    long (type.primitive p k) (Integers zs) r = told_long (pos 0) (integer_spelled p) ds (values_of zs) valid r.1
    long (type.decimal p s k) (Decimals zs) r = told_long (pos 0) (decimal_spelled p) ds (numbers_of zs) valid r.1
    long (type.utf8 k) (Views rows) r = told_long [] (bytes_spelled Text) ds (rows_of rows) valid r.2 ∙ rows_long rows
    long (type.binary k) (Views rows) r = told_long [] (bytes_spelled Bytes) ds (rows_of rows) valid r.1 ∙ rows_long rows
    long t u r = absurd r

pub rows_unread : (d : DType) (ds : Items) → d ≢ dtype_of.Null → nullability_of (type_of d) ≡ Nullable → AreUnread Nullable (storage_of (type_of d)) ds →
    flat_rows (type_of d) ds ≡ None
rows_unread dtype_of.Null ds other n h = absurd (other refl)
rows_unread (dtype_of.Bool Nullable) ds other n h = ap (option_map _) h
rows_unread (dtype_of.Primitive p Nullable) ds other n h = ap (option_map _) h
rows_unread (dtype_of.Decimal d Nullable) ds other n h = ap (option_map _) h
rows_unread (dtype_of.Utf8 Nullable) ds other n h = ap (option_map _) h
rows_unread (dtype_of.Binary Nullable) ds other n h = ap (option_map _) h
rows_unread (dtype_of.Bool NonNullable) ds other n h = absurd (cc n)
rows_unread (dtype_of.Primitive p NonNullable) ds other n h = absurd (cc n)
rows_unread (dtype_of.Decimal d NonNullable) ds other n h = absurd (cc n)
rows_unread (dtype_of.Utf8 NonNullable) ds other n h = absurd (cc n)
rows_unread (dtype_of.Binary NonNullable) ds other n h = absurd (cc n)
rows_unread _ ds other n h = refl

-- rows that are all there are the column of what they hold without nulls
values_there : {A : Type 0} (d : A) (ty : DataType) (of_items : List A → Data) (read : Json → Option A) (ds : Items) →
    option_map (column_of d ty of_items) (all_read (λ j. option_map Some (read j)) ds)
    ≡ option_and_then (λ xs. Some (column ty (length xs) (of_items xs) None)) (all_read read ds)
values_there d ty of_items read ds = ap (option_map (column_of d ty of_items)) (mapped_read Some read ds) ∙ by_read (all_read read ds)
  where
    by_read : (o : Option (List _)) →
        option_map (column_of d ty of_items) (option_map (map Some) o) ≡ option_and_then (λ xs. Some (column ty (length xs) (of_items xs) None)) o
    by_read None = refl
    by_read (Some xs) = ap Some (column_there d ty of_items xs)

-- a column of a non-nullable type by its rows is one by its values
pub rows_are_values : (ty : DataType) (ds : Items) → nullability_of ty ≡ NonNullable → flat_rows ty ds ≡ column_of_values Absent ty ds
rows_are_values (type.bool NonNullable) ds h = values_there false (type.bool NonNullable) bool as_bool ds
rows_are_values (type.primitive p NonNullable) ds h = values_there (pos 0) (type.primitive p NonNullable) (primitive p) (integer_spelled p) ds
rows_are_values (type.decimal p s NonNullable) ds h =
    values_there (pos 0) (type.decimal p s NonNullable) (decimals (smallest_width p)) (decimal_spelled p) ds
rows_are_values (type.utf8 NonNullable) ds h = values_there [] (type.utf8 NonNullable) (λ rs. views (packed rs)) (bytes_spelled Text) ds
rows_are_values (type.binary NonNullable) ds h = values_there [] (type.binary NonNullable) (λ rs. views (packed rs)) (bytes_spelled Bytes) ds
rows_are_values type.null ds h = absurd (cc)
rows_are_values (type.bool Nullable) ds h = absurd (cc)
rows_are_values (type.primitive p Nullable) ds h = absurd (cc)
rows_are_values (type.decimal p s Nullable) ds h = absurd (cc)
rows_are_values (type.utf8 Nullable) ds h = absurd (cc)
rows_are_values (type.binary Nullable) ds h = absurd (cc)
rows_are_values _ ds h = refl

-- one row more
one_more : {A : Type 0} (x : A) (n : ℕ) (read : Option (List A)) → option_map (λ rows. nulls_of (length rows)) read ≡ Some (nulls_of n) →
    option_map (λ rows. nulls_of (length rows)) (option_map (λ rows. x ∷ rows) read) ≡ Some (nulls_of (suc n))
one_more x n None h = absurd (cc)
one_more x n (Some rows) h = ap (λ t. Some (nulls_of (suc (len t)))) (same_Some _ _ h)

abbrev are_nulls : List Value → Bool
are_nulls = list_all (λ v. is_null (view v))

abbrev null_rows : Items → Option Tree
null_rows ds = option_map (λ rows. nulls_of (length rows)) (all_read as_null ds)

-- a list of nulls is a column of as many, and one with another value none
pub nulls_read : (vs : List Value) → are_nulls vs ≡ true → null_rows (items_view vs) ≡ Some (nulls_of (length vs))
nulls_read [] h = refl
nulls_read (v ∷ vs) h = by_item (view v) (nulls_read vs) h
  where
    by_item : (d : Json) → (are_nulls vs ≡ true → null_rows (items_view vs) ≡ Some (nulls_of (length vs))) → (is_null d && are_nulls vs) ≡ true →
        null_rows (item d (items_view vs)) ≡ Some (nulls_of (suc (length vs)))
    by_item null rest h = one_more tt (length vs) (all_read as_null (items_view vs)) (rest h)
    by_item _ rest h = absurd (cc)

pub nulls_unread : (vs : List Value) → are_nulls vs ≡ false → all_read as_null (items_view vs) ≡ None
nulls_unread [] h = absurd (cc)
nulls_unread (v ∷ vs) h = by_item (view v) (nulls_unread vs) h
  where
    by_item : (d : Json) → (are_nulls vs ≡ false → all_read as_null (items_view vs) ≡ None) → (is_null d && are_nulls vs) ≡ false →
        all_read as_null (item d (items_view vs)) ≡ None
    by_item null rest h = ap (option_map (λ rows. tt ∷ rows)) (rest h)
    by_item _ rest h = refl

-- a column that is spelled is read, unless memory runs out
pub read_made : {A : Type 0} (o : Option A) (a : A) (r : Result A VortexError) → o ≡ Some a → IfOk r (λ b. b ≡ a) → IfErr r (λ e. e ≡ OutOfMemory) → IsRead o r
read_made o a (Ok b) made same full = made ∙ ap Some (sym same)
read_made o a (Err e) made same full = inl full
