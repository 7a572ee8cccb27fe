-- Columns of nested types, expanded from a constant.
use Rattle.std.proofs.Common.{◌≡◌, ◌⊎◌, inl, inr, ℕ, zero, suc, pos, ◌+◌, ◌≤◌, ◌==◌, List, [], ◌∷◌, ◌++◌, length, map, replicate, true, false, Option, Some, refl, sym, ap, subst, ◌∙◌, arith}
use Rattle.std.specs.Prelude.{option_map, unwrap_or}
use Rattle.std.specs.List.{All}
use Rattle.std.specs.Cmp.{first_so, second_so, unsigned_Decides}
use Rattle.std.proofs.lemmas.Bool.{false≢true}
use Rattle.std.proofs.lemmas.List.{map-append, length-replicate, take_all}
use Rattle.vx_value.specs.Types as type
use Rattle.vx_value.specs.Types.{DataType, Fields, nullability_of, height}
use Rattle.vx_value.specs.Decimals.{smallest_width}
use Rattle.vx_value.specs.IsOf.{is_of, is_stored, are_of, is_null}
use Rattle.vx_value.specs.Nullabilities.{with_nullability}
use Rattle.vx_value.specs.Parts.{boolean_in, integer_in, bytes_in}
use Rattle.vx_value.specs.ScalarParts.{values_in, fields_by, fields_in, storage_type, IsStruct, IsExtension}
use Rattle.vx_value.specs.Storage.{storage_of, is_nested}
use Rattle.vx_value.specs.Supported.{has_columns, have_columns}
use Rattle.vx_value.specs.Typed.{Typed}
use Rattle.vx_value.specs.Values as of
use Rattle.vx_value.specs.Values.{Value, Values}
use Rattle.vx_value.specs.Cell.{Cell, value}
use Rattle.vx_value.specs.declared.dtype.Nullability.{Nullability}
use Rattle.vx_value.specs.declared.dtype.Nullability.TheVariants.{NonNullable}
use Rattle.vx_value.specs.declared.dtype.Storage.{Storage}
use Rattle.vx_value.specs.declared.dtype.Storage.TheVariants as storage
use Rattle.vx_value.specs.declared.dtype.Storage.TheVariants.{Text, Bytes}
use Rattle.vx_value.proofs.NullabilitiesLemmas.{nested_kept}
use Rattle.vx_value.proofs.ScalarPartsLemmas.{extension_typed}
use Rattle.vx_tree.specs.Tree as enc
use Rattle.vx_tree.specs.ColumnTypes.{decimal_type, bytes_type}
use Rattle.vx_tree.specs.Tree.{Tree, node, column, slot, no_slots, slots_of, dtype, len, datum, constant, constant_of, is_columnar, is_composed, fields_shapes, struct_row}
use Rattle.vx_tree.specs.Layouts.{heads, tails, row_by_row}
use Rattle.vx_tree.specs.Columns.{empty_of, empty_fields}
use Rattle.vx_tree.specs.Views.{viewed, view_at, bytes_at, repeated}
use Rattle.vx_tree.specs.Well.{Shape, shape, shape_of, shapes, IsValidity, IsFlat, IsNode, IsWell}
use Rattle.vx_tree.specs.Cells.{rows, cells_at, valid_cells, AreClean, IsClean}
use Rattle.vx_tree.specs.Keeps.{KeepsExactly}
use Rattle.vx_tree.specs.Validities.{nullability_by, child_of}
use Rattle.vx_tree.specs.declared.array.layout.Layout.TheVariants.{Struct, Extension}
use Rattle.vx_tree.specs.declared.validity.Validity.{Validity}
use Rattle.vx_tree.proofs.ExtensionLemmas.{stored_rows}
use Rattle.vx_tree.proofs.CellsLemmas.{rows_counted}
use Rattle.vx_tree.proofs.KeepsLemmas.{rows_equal, exactly_refl}
use Rattle.vx_tree.proofs.NativesLemmas.{map_copies}
use Rattle.vx_tree.proofs.ValiditiesLemmas.{no_child}
use Rattle.vx_column.specs.Arguments.{unscaled_of}
use Rattle.vx_column.specs.Expanded.{repeated_validity, struct_expanded, expanded_stored, expanded_value, expanded, expansion}
use Rattle.vx_column.specs.Masked.{TellsAll}
use Rattle.vx_column.specs.Nulls.{validity_cells}
use Rattle.vx_column.specs.Stored.{bytes_column}
use Rattle.vx_column.proofs.ComposedLemmas.{slots_shaped, struct_rows}
use Rattle.vx_column.proofs.KeepsLemmas.{same_exactly, copies_clean}
use Rattle.vx_column.proofs.MaskedLemmas.{tells_child}
use Rattle.vx_column.proofs.NullsLemmas.{nulls_repeated}
use Rattle.vx_column.proofs.RepeatedLemmas.{validity_by, nullable_null, nullability_back, repeated_rows, repeated_cells, repeated_exactly, validity_clean}
use Rattle.vx_column.proofs.StoredLemmas.{parts_in, stored_boolean, stored_number, stored_decimal, stored_as_bytes}
use Rattle.vx_column.proofs.ValidRowsLemmas.{one_slot}

-- ---- the fields of a struct

-- each is of its type, whatever the value
abbrev of_each : ℕ → List Typed → List (Option Shape)
of_each n ss = map (λ s. Some (shape s.of_type n)) ss

fields_typed : (n : ℕ) (fs : Fields) (v : Value) → of_each n (fields_by fs v) ≡ fields_shapes n fs
fields_typed n type.no_fields v = refl
fields_typed n (type.field name t fs) (of.fields (of.item v vs)) = ap (λ l. Some (shape t n) ∷ l) (fields_typed n fs (of.fields vs))
fields_typed n (type.field name t fs) v = ap (λ l. Some (shape t n) ∷ l) (fields_typed n fs v)

-- and has columns
abbrev HasColumns : Typed → Type 0
HasColumns s = has_columns s.of_type ≡ true

more_columns : (s : Typed) (ss : List Typed) → HasColumns s → All HasColumns ss → All HasColumns (s ∷ ss)
more_columns s ss h more zero d lt = h
more_columns s ss h more (suc k) d lt = more k d (omega (arith, lt))

by_columns : (fs : Fields) (v : Value) → have_columns fs ≡ true → All HasColumns (fields_by fs v)
by_columns type.no_fields v h = λ k d lt. absurd (omega (arith, lt))
by_columns (type.field name t fs) (of.fields (of.item v vs)) h =
    more_columns _ _ (first_so (has_columns t) (have_columns fs) h) (by_columns fs (of.fields vs) (second_so (has_columns t) (have_columns fs) h))
by_columns (type.field name t fs) v h =
    more_columns _ _ (first_so (has_columns t) (have_columns fs) h) (by_columns fs v (second_so (has_columns t) (have_columns fs) h))

-- a struct is made of them
values_back : (fs : Fields) (vs : Values) → are_of fs vs ≡ true → values_in (fields_by fs (of.fields vs)) ≡ vs
values_back type.no_fields of.no_values h = refl
values_back type.no_fields (of.item v vs) h = absurd (cc)
values_back (type.field name t fs) of.no_values h = absurd (cc)
values_back (type.field name t fs) (of.item v vs) h = ap (of.item v) (values_back fs vs (second_so (is_of t v) (are_of fs vs) h))

value_back : (fs : Fields) (m : Nullability) (v : Value) → is_of (type.struct fs m) v ≡ true → is_null v ≡ false → of.fields (values_in (fields_by fs v)) ≡ v
value_back fs m of.null h k = absurd (cc)
value_back fs m (of.fields vs) h k = ap of.fields (values_back fs vs h)
value_back fs m _ h k = absurd (cc)

-- ---- n rows of constants

abbrev copies : ℕ → Typed → List Cell
copies n s = replicate n (value s.value)

abbrev one_row : List Typed → List (List Cell)
one_row ss = map (λ s. value s.value ∷ []) ss

same_row : (ss : List Typed) → struct_row (one_row ss ++ [] ∷ []) ≡ value (of.fields (values_in ss))
same_row [] = refl
same_row (s ∷ []) = refl
same_row (s ∷ r ∷ ss) = ap (enc.with_field (value s.value ∷ [])) (same_row (r ∷ ss))

first_rows : (n : ℕ) (ss : List Typed) → heads (map (copies (suc n)) ss ++ [] ∷ []) ≡ one_row ss ++ [] ∷ []
first_rows n [] = refl
first_rows n (s ∷ ss) = ap (λ l. (value s.value ∷ []) ∷ l) (first_rows n ss)

other_rows : (n : ℕ) (ss : List Typed) → tails (map (copies (suc n)) ss ++ [] ∷ []) ≡ map (copies n) ss ++ [] ∷ []
other_rows n [] = refl
other_rows n (s ∷ ss) = ap (λ l. copies n s ∷ l) (other_rows n ss)

same_rows : (n : ℕ) (ss : List Typed) → row_by_row struct_row n (map (copies n) ss ++ [] ∷ []) ≡ replicate n (value (of.fields (values_in ss)))
same_rows zero ss = refl
same_rows (suc n) ss =
    let here = ap struct_row (first_rows n ss) ∙ same_row ss in
    let rest = ap (row_by_row struct_row n) (other_rows n ss) ∙ same_rows n ss in
    λ i. here i ∷ rest i

-- ---- a struct, repeated

abbrev constants : ℕ → List Typed → List (Option Tree)
constants n ss = map (λ s. Some (constant_of s n)) ss

each_constant : (n : ℕ) (ss : List Typed) → map Some (map (λ s. constant_of s n) ss) ≡ constants n ss
each_constant n [] = refl
each_constant n (s ∷ ss) = ap (λ l. Some (constant_of s n) ∷ l) (each_constant n ss)

constants_told : (n : ℕ) (ss : List Typed) → map validity_cells (constants n ss) ≡ map (copies n) ss
constants_told n [] = refl
constants_told n (s ∷ ss) = ap (λ l. copies n s ∷ l) (constants_told n ss)

constants_shaped : (n : ℕ) (ss : List Typed) → map (option_map shape_of) (constants n ss) ≡ of_each n ss
constants_shaped n [] = refl
constants_shaped n (s ∷ ss) = ap (λ l. Some (shape s.of_type n) ∷ l) (constants_shaped n ss)

constants_clean : (n : ℕ) (ss : List Typed) (w : Option Tree) → AreClean (slots_of (w ∷ [])) → AreClean (slots_of (constants n ss ++ w ∷ []))
constants_clean n [] w h = h
constants_clean n (s ∷ ss) w h = ((copies_clean n s.value, tt), constants_clean n ss w h)

-- its validity
child_fits : (ty : DataType) (v : Value) (n : ℕ) → is_of ty v ≡ true
    → IsValidity (nullability_of ty) n (option_map shape_of (child_of (validity_by ty v) n))
child_fits ty of.null n h = subst (λ m. IsValidity m n (Some (shape (type.bool NonNullable) n))) (sym (nullable_null (nullability_of ty) h)) refl
child_fits ty _ n h = subst (λ w. IsValidity (nullability_of ty) n (option_map shape_of w)) (sym (no_child (nullability_of ty) n)) tt

abbrev pub scalar : DataType → Value → Typed
scalar ty v = record { of_type = ty; value = v }

module _ (fs : Fields) (m : Nullability) (v : Value) (n : ℕ) (typed : is_of (type.struct fs m) v ≡ true) where
  abbrev of_struct : Typed
  of_struct = scalar (type.struct fs m) v

  abbrev child : Option Tree
  child = child_of (repeated_validity of_struct) n

  abbrev parts : List Typed
  parts = fields_by fs v

  struct_fits : IsNode (type.struct fs m) n (enc.composed Struct) (shapes (slots_of (constants n parts ++ child ∷ [])))
  struct_fits = (
    fs,
    m,
    option_map shape_of child,
    refl,
    slots_shaped (constants n parts ++ child ∷ []) ∙ map-append (option_map shape_of) (constants n parts) (child ∷ [])
        ∙ ap (λ l. l ++ option_map shape_of child ∷ []) (constants_shaped n parts ∙ fields_typed n fs v),
    child_fits (type.struct fs m) v n typed,
  )

  abbrev made : Tree
  made = node (type.struct fs m) n (enc.composed Struct) (slots_of (constants n parts ++ child ∷ []))

  made_expanded : made ≡ struct_expanded of_struct n
  made_expanded = ap (λ l. node (type.struct fs m) n (enc.composed Struct) (slots_of (l ++ child ∷ []))) (sym (each_constant n parts))

  struct_exactly : KeepsExactly (constant_of of_struct n) made
  struct_exactly =
      let told : TellsAll n child = tells_child n n (repeated_validity of_struct) child refl refl (repeated_rows of_struct n) in
      let x = of.fields (values_in parts) in
      let bare : row_by_row struct_row n (map validity_cells (constants n parts) ++ [] ∷ []) ≡ map (λ y. value y) (replicate n x) =
      ap (λ l. row_by_row struct_row n (l ++ [] ∷ [])) (constants_told n parts) ∙ same_rows n parts ∙ sym (map_copies (λ y. value y) n x) in
      let shown : rows (constant_of of_struct n) ≡ rows made =
      sym (
      struct_rows n (constants n parts) child told ∙ ap (valid_cells (validity_cells child)) bare
      ∙ ap (λ css. valid_cells (cells_at css 0) (map (λ y. value y) (replicate n x))) (sym (one_slot child))
      ∙ repeated_cells (λ y. y) x (type.struct fs m) v n (value_back fs m v typed)) in
      same_exactly (constant_of of_struct n) made refl refl shown
      (constants_clean n parts child (validity_clean (type.struct fs m) v n))

-- by a scalar's type
abbrev IsExpanded : Typed → List (Option Tree) → ℕ → Type 0
IsExpanded s ys n =
    IsNode s.of_type n (enc.composed Struct) (shapes (slots_of ys))
    × KeepsExactly (constant_of s n) (node s.of_type n (enc.composed Struct) (slots_of ys))
    × (node s.of_type n (enc.composed Struct) (slots_of ys) ≡ expanded_value s.of_type s.value n)

abbrev expanded_slots : Typed → ℕ → List (Option Tree)
expanded_slots s n = constants n (fields_in s) ++ child_of (repeated_validity s) n ∷ []

expanded_struct : (ty : DataType) (v : Value) (n : ℕ) → IsStruct ty → is_of ty v ≡ true → IsExpanded (scalar ty v) (expanded_slots (scalar ty v) n) n
expanded_struct (type.struct fs m) v n h typed = (struct_fits fs m v n typed, struct_exactly fs m v n typed, made_expanded fs m v n typed)
expanded_struct _ v n h typed = absurd h

-- a column of type ty with these slots
module _ (s : Typed) (n : ℕ) (ss : List Typed) (w : Validity) (v : Option Tree) (xs ys : List (Option Tree)) (ty : DataType) (struct : IsStruct s.of_type)
    (typed : is_of s.of_type s.value ≡ true) (fields : ss ≡ fields_in s) (each : xs ≡ constants n ss) (told : w ≡ repeated_validity s)
    (last : v ≡ child_of w n) (pushed : ys ≡ xs ++ v ∷ []) (same : ty ≡ s.of_type) where
  slots_are : ys ≡ expanded_slots s n
  slots_are = pushed ∙ (λ i. (each ∙ ap (constants n) fields) i ++ (last ∙ ap (λ x. child_of x n) told) i ∷ [])

  expanded_so : IsExpanded s ys n
  expanded_so = subst (λ zs. IsExpanded s zs n) (sym slots_are) (expanded_struct s.of_type s.value n struct typed)

  pub struct_node : IsNode ty n (enc.composed Struct) (shapes (slots_of ys))
  struct_node = subst (λ t. IsNode t n (enc.composed Struct) (shapes (slots_of ys))) (sym same) expanded_so.0

  pub struct_repeated : (u : Tree) → u ≡ node ty n (enc.composed Struct) (slots_of ys)
      → KeepsExactly (constant_of s n) u × (u ≡ expanded_value s.of_type s.value n)
  struct_repeated u new =
      let whole = new ∙ ap (λ t. node t n (enc.composed Struct) (slots_of ys)) same in
      (subst (KeepsExactly (constant_of s n)) (sym whole) expanded_so.1, whole ∙ expanded_so.2)

fields_columns : (ty : DataType) (v : Value) → has_columns ty ≡ true → All HasColumns (fields_in (scalar ty v))
fields_columns (type.struct fs m) v h = by_columns fs v h
fields_columns _ v h = λ k d lt. absurd (omega (arith, lt))

pub parts_columns : (s : Typed) (ss : List Typed) → has_columns s.of_type ≡ true → ss ≡ fields_in s → All HasColumns ss
parts_columns s ss h e = subst (All HasColumns) (sym e) (fields_columns s.of_type s.value h)

-- ---- an extension, repeated

-- its storage has columns, and is of a lower type
storage_has : (ty : DataType) → IsExtension ty → has_columns ty ≡ true → has_columns (storage_type ty) ≡ true
storage_has (type.extension id t) h e = e
storage_has _ h e = absurd h

pub storage_columns : (s r : Typed) → r ≡ scalar (storage_type s.of_type) s.value → IsExtension s.of_type → has_columns s.of_type ≡ true
    → has_columns r.of_type ≡ true
storage_columns s r is h e = ap (λ (q : Typed). has_columns q.of_type) is ∙ storage_has s.of_type h e

storage_lower : (ty : DataType) → IsExtension ty → height (storage_type ty) + 2 ≤ height ty
storage_lower (type.extension id t) h = omega arith
storage_lower _ h = absurd h

pub storage_below : (s r : Typed) → r ≡ scalar (storage_type s.of_type) s.value → IsExtension s.of_type → height r.of_type + 2 ≤ height s.of_type
storage_below s r is h = subst (λ (q : Typed). height q.of_type + 2 ≤ height s.of_type) (sym is) (storage_lower s.of_type h)

-- made of the column of its storage
abbrev IsStored : Typed → List (Option Tree) → ℕ → Type 0
IsStored s ys n =
    IsNode s.of_type n (enc.composed Extension) (shapes (slots_of ys))
    × KeepsExactly (constant_of s n) (node s.of_type n (enc.composed Extension) (slots_of ys))
    × (node s.of_type n (enc.composed Extension) (slots_of ys) ≡ expanded_value s.of_type s.value n)

expanded_extension : (ty : DataType) (v : Value) (n : ℕ) (x : Tree) → IsExtension ty → KeepsExactly (constant_of (scalar (storage_type ty) v) n) x
    → x ≡ expanded_value (storage_type ty) v n → IsStored (scalar ty v) (Some x ∷ []) n
expanded_extension (type.extension id t) v n x h kept is =
    let e = type.extension id t in
    let u = node e n (enc.composed Extension) (slot x no_slots) in
    let counted : length (rows x) ≡ n = ap length (sym kept.equal) ∙ length-replicate n (value v) in
    let shown : rows (constant_of (scalar e v) n) ≡ rows u = kept.equal ∙ sym (stored_rows n (rows x) counted) in (
      (id, t, refl, λ i. Some (shape (sym kept.keeps.same_type i) (sym kept.keeps.same_len i)) ∷ []),
      same_exactly (constant_of (scalar e v) n) u refl refl shown (kept.keeps.still_clean (copies_clean n v, tt), tt),
      ap (λ y. node e n (enc.composed Extension) (slot y no_slots)) is,
    )
expanded_extension _ v n x h kept is = absurd h

-- a column of type ty with this slot, which holds the column of the scalar that is stored
module _ (s r : Typed) (n : ℕ) (x y : Tree) (ys : List (Option Tree)) (ty : DataType) (extension : IsExtension s.of_type)
    (stored : r ≡ scalar (storage_type s.of_type) s.value) (kept : KeepsExactly (constant_of r n) x) (laid : x ≡ expanded_value r.of_type r.value n)
    (given : y ≡ x) (only : ys ≡ Some y ∷ []) (same : ty ≡ s.of_type) where
  stored_so : IsStored s ys n
  stored_so =
      let below : KeepsExactly (constant_of (scalar (storage_type s.of_type) s.value) n) x = subst (λ q. KeepsExactly (constant_of q n) x) stored kept in
      let is : x ≡ expanded_value (storage_type s.of_type) s.value n = laid ∙ ap (λ (q : Typed). expanded_value q.of_type q.value n) stored in
      subst (λ zs. IsStored s zs n) (sym (only ∙ ap (λ z. Some z ∷ []) given)) (expanded_extension s.of_type s.value n x extension below is)

  pub extension_node : IsNode ty n (enc.composed Extension) (shapes (slots_of ys))
  extension_node = subst (λ t. IsNode t n (enc.composed Extension) (shapes (slots_of ys))) (sym same) stored_so.0

  pub extension_repeated : (u : Tree) → u ≡ node ty n (enc.composed Extension) (slots_of ys)
      → KeepsExactly (constant_of s n) u × (u ≡ expanded_value s.of_type s.value n)
  extension_repeated u new =
      let whole = new ∙ ap (λ t. node t n (enc.composed Extension) (slots_of ys)) same in
      (subst (KeepsExactly (constant_of s n)) (sym whole) stored_so.1, whole ∙ stored_so.2)

-- ---- any other value

pub flat_expanded : (ty : DataType) (v : Value) (n : ℕ) → is_nested ty ≡ false → expanded_stored (storage_of ty) (scalar ty v) n ≡ expanded_value ty v n
flat_expanded (type.struct fs m) v n h = absurd (cc)
flat_expanded (type.extension id t) v n h = absurd (cc)
flat_expanded _ v n h = refl

-- ---- no rows

mutual
  empty_known : (ty : DataType) → (dtype (empty_of ty) ≡ ty) × (len (empty_of ty) ≡ 0) × (rows (empty_of ty) ≡ []) × IsClean (empty_of ty)
  empty_known (type.struct fs m) = (refl, refl, refl, (tt, fields_clean fs))
  empty_known (type.extension i t) = (refl, refl, refl, (tt, ((empty_known t).3, tt)))
  empty_known type.null = (refl, refl, refl, (tt, tt))
  empty_known _ = (refl, refl, refl, (tt, tt))

  fields_clean : (fs : Fields) → AreClean (empty_fields fs)
  fields_clean type.no_fields = tt
  fields_clean (type.field name t fs) = ((empty_known t).3, fields_clean fs)

pub none_repeated : (t : Tree) (u : Tree) → IsWell t → (len t == 0) ≡ true → u ≡ empty_of (dtype t) → KeepsExactly t u
none_repeated t u well none made =
    let e = empty_known (dtype t) in
    let long : len t ≡ 0 = (unsigned_Decides (len t) 0).0 none in
    let shown : rows t ≡ [] = nothing (rows t) (rows_counted t well ∙ long) in
    subst (KeepsExactly t) (sym made) (record {
      keeps = record {
        same_type = sym e.0;
        same_len = long ∙ sym e.1;
        same_rows = rows_equal _ _ (shown ∙ sym e.2);
        still_clean = λ c. e.3;
      };
      equal = shown ∙ sym e.2;
    })
  where
    nothing : (cs : List Cell) → length cs ≡ 0 → cs ≡ []
    nothing [] h = refl
    nothing (c ∷ cs) h = absurd (omega arith)

-- a constant's type has columns
pub constant_columns : (t : Tree) (s : Typed) → constant s ≡ datum t → IsWell t → has_columns (dtype t) ≡ true → has_columns s.of_type ≡ true
constant_columns (node ty n d ss) s is well h =
    let known : IsNode ty n (constant s) (shapes ss) = subst (λ x. IsNode ty n x (shapes ss)) (sym is) well.0 in
    ap has_columns (sym known.0) ∙ h

-- ---- any constant

-- text or bytes
bytes_exactly : (ty : DataType) (v : Value) (n : ℕ) (st : Storage) → (st ≡ Text) ⊎ (st ≡ Bytes) → storage_of ty ≡ st
    → with_nullability (nullability_by (validity_by ty v)) (bytes_type st) ≡ ty → is_of ty v ≡ true
    → KeepsExactly (constant_of (scalar ty v) n) (bytes_column st (repeated n (unwrap_or (bytes_in v) [])) (repeated_validity (scalar ty v)))
bytes_exactly ty v n st known stored same typed =
    let s = scalar ty v in
    let x = unwrap_or (bytes_in v) [] in
    let all = view_at 0 (length x) in
    let there = ap (λ k. is_stored (nullability_of ty) k (parts_in ty v) v) (sym stored) ∙ typed in
    let whole : bytes_at (x ∷ []) all ≡ x = take_all (length x) x (omega arith) in
    repeated_exactly (λ y. of.bytes (bytes_at (x ∷ []) y)) (λ vs. enc.views (viewed vs (x ∷ []))) s (λ k xs tys css. refl) all n _
    (λ k. ap of.bytes whole ∙ stored_as_bytes (nullability_of ty) st (parts_in ty v) v known there k)
    (λ i. column (same i) (length-replicate n all i) (enc.views (repeated n x)) (child_of (repeated_validity s) (length-replicate n all i)))

-- a line for each type that has columns
value_exactly : (ty : DataType) (v : Value) (n : ℕ) → has_columns ty ≡ true → is_of ty v ≡ true
    → KeepsExactly (constant_of (scalar ty v) n) (expanded_value ty v n)
value_exactly (type.struct fs m) v n h typed =
    subst (KeepsExactly (constant_of (scalar (type.struct fs m) v) n)) (made_expanded fs m v n typed) (struct_exactly fs m v n typed)
value_exactly (type.extension id t) v n h typed =
    (expanded_extension (type.extension id t) v n (expanded_value t v n) tt (value_exactly t v n h (sym (extension_typed id t v) ∙ typed)) refl).1
value_exactly type.null v n h typed = nulls_repeated (scalar type.null v) n _ refl typed refl
value_exactly (type.bool m) v n h typed =
    let s = scalar (type.bool m) v in
    let x = unwrap_or (boolean_in v) false in
    let is : expanded_value (type.bool m) v n ≡ column (type.bool m) n (enc.bool (replicate n x)) (child_of (repeated_validity s) n) =
    λ i. column (type.bool (nullability_back (type.bool m) v typed i)) (length-replicate n x i) (enc.bool (replicate n x))
    (child_of (repeated_validity s) (length-replicate n x i)) in
    repeated_exactly of.boolean enc.bool s (λ k xs tys css. refl) x n _ (stored_boolean m storage.Bits (parts_in (type.bool m) v) v refl typed) is
value_exactly (type.primitive p m) v n h typed =
    let s = scalar (type.primitive p m) v in
    let x = unwrap_or (integer_in v) (pos 0) in
    let is : expanded_value (type.primitive p m) v n ≡ column (type.primitive p m) n (enc.primitive p (replicate n x)) (child_of (repeated_validity s) n) =
    λ i. column (type.primitive p (nullability_back (type.primitive p m) v typed i)) (length-replicate n x i) (enc.primitive p (replicate n x))
    (child_of (repeated_validity s) (length-replicate n x i)) in
    repeated_exactly of.integer (enc.primitive p) s (λ k xs tys css. refl) x n _
    (stored_number p m (storage.Integers p) (parts_in (type.primitive p m) v) v refl typed) is
value_exactly (type.decimal p k m) v n h typed =
    let s = scalar (type.decimal p k m) v in
    let x = unscaled_of v in
    let w = smallest_width p in
    let is : expanded_value (type.decimal p k m) v n ≡ column (type.decimal p k m) n (enc.decimals w (replicate n x)) (child_of (repeated_validity s) n) =
    λ i. column (type.decimal p k (nullability_back (type.decimal p k m) v typed i)) (length-replicate n x i) (enc.decimals w (replicate n x))
    (child_of (repeated_validity s) (length-replicate n x i)) in
    repeated_exactly (λ z. of.decimal z k) (enc.decimals w) s (λ l xs tys css. refl) x n _ (stored_decimal p k m (parts_in (type.decimal p k m) v) v typed) is
value_exactly (type.utf8 m) v n h typed =
    bytes_exactly (type.utf8 m) v n Text (inl refl) refl (ap type.utf8 (nullability_back (type.utf8 m) v typed)) typed
value_exactly (type.binary m) v n h typed =
    bytes_exactly (type.binary m) v n Bytes (inr refl) refl (ap type.binary (nullability_back (type.binary m) v typed)) typed
value_exactly _ v n h typed = absurd (false≢true h)

-- the canonical column of a tree stands for it exactly
pub expansion_exactly : (t : Tree) → IsWell t → has_columns (dtype t) ≡ true → KeepsExactly t (expansion t)
expansion_exactly (node ty n (constant s) no_slots) w h =
    subst (λ x. KeepsExactly (node x n (constant s) no_slots) (expanded s n)) (sym w.0.0) (by_count n)
  where
    has : has_columns s.of_type ≡ true
    has = ap has_columns (sym w.0.0) ∙ h

    typed : is_of s.of_type s.value ≡ true
    typed = ap (λ x. is_of x s.value) (sym w.0.0) ∙ w.0.1

    by_count : (k : ℕ) → KeepsExactly (constant_of s k) (expanded s k)
    by_count zero = none_repeated (constant_of s 0) (expanded s 0) ((refl, typed, refl), tt) refl refl
    by_count (suc k) = value_exactly s.of_type s.value (suc k) has typed
expansion_exactly (node ty n (constant s) _) w h = let none = w.0.2 in absurd (cc)
expansion_exactly t w h = exactly_refl t

-- ---- which is composed, if the type is nested

value_composed : (ty : DataType) (v : Value) (n : ℕ) → is_nested ty ≡ true → has_columns ty ≡ true
    → (is_composed (datum (empty_of ty)) ≡ true) × (is_composed (datum (expanded_value ty v n)) ≡ true)
value_composed (type.struct fs m) v n nested h = (refl, refl)
value_composed (type.extension id t) v n nested h = (refl, refl)
value_composed type.null v n nested h = absurd (false≢true nested)
value_composed (type.bool m) v n nested h = absurd (false≢true nested)
value_composed (type.primitive p m) v n nested h = absurd (false≢true nested)
value_composed (type.decimal p k m) v n nested h = absurd (false≢true nested)
value_composed (type.utf8 m) v n nested h = absurd (false≢true nested)
value_composed (type.binary m) v n nested h = absurd (false≢true nested)
value_composed _ v n nested h = absurd (false≢true h)

constant_composed : (s : Typed) (n : ℕ) → is_nested s.of_type ≡ true → has_columns s.of_type ≡ true → is_composed (datum (expanded s n)) ≡ true
constant_composed s zero nested h = (value_composed s.of_type s.value 0 nested h).0
constant_composed s (suc n) nested h = (value_composed s.of_type s.value (suc n) nested h).1

-- columns that hold their rows themselves have no such type
flat_unnested : (of_type : DataType) (k : ℕ) (ty : DataType) (n : ℕ) (ss : List (Option Shape)) → IsFlat of_type k ty n ss → is_nested of_type ≡ false
    → is_nested ty ≡ true → ⊥
flat_unnested of_type k ty n ss h plain nested =
    false≢true (sym (ap is_nested h.1 ∙ nested_kept (nullability_of ty) of_type ∙ plain) ∙ nested)

decimals_unnested : (st : Storage) → is_nested (decimal_type st) ≡ false
decimals_unnested (storage.Decimals p k) = refl
decimals_unnested _ = refl

bytes_unnested : (st : Storage) → is_nested (bytes_type st) ≡ false
bytes_unnested Text = refl
bytes_unnested _ = refl

pub expansion_composed : (t : Tree) → IsWell t → is_columnar (datum t) ≡ true → is_nested (dtype t) ≡ true → has_columns (dtype t) ≡ true
    → is_composed (datum (expansion t)) ≡ true
expansion_composed (node ty n (enc.composed l) ss) w c nested h = refl
expansion_composed (node ty n (constant s) ss) w c nested h = constant_composed s n (ap is_nested (sym w.0.0) ∙ nested) (ap has_columns (sym w.0.0) ∙ h)
expansion_composed (node ty n enc.nulls ss) w c nested h = absurd (false≢true (ap is_nested (sym w.0.0) ∙ nested))
expansion_composed (node ty n (enc.bool bs) ss) w c nested h = absurd (flat_unnested (type.bool NonNullable) (length bs) ty n (shapes ss) w.0 refl nested)
expansion_composed (node ty n (enc.primitive p zs) ss) w c nested h =
    absurd (flat_unnested (type.primitive p NonNullable) (length zs) ty n (shapes ss) w.0 refl nested)
expansion_composed (node ty n (enc.decimals k zs) ss) w c nested h =
    absurd (flat_unnested (decimal_type (storage_of ty)) (length zs) ty n (shapes ss) w.0.0 (decimals_unnested (storage_of ty)) nested)
expansion_composed (node ty n (enc.views rs) ss) w c nested h =
    absurd (flat_unnested (bytes_type (storage_of ty)) (length rs.views) ty n (shapes ss) w.0.0 (bytes_unnested (storage_of ty)) nested)
expansion_composed (node ty n _ ss) w c nested h = absurd (false≢true c)
