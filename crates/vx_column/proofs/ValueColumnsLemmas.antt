-- The columns of values: their types, lengths, rows and conditions.
use Rattle.std.proofs.Common.{◌≡◌, ℕ, ◌≤◌, List, [], ◌∷◌, ◌++◌, length, map, Bool, true, false, not, Option, Some, None, refl, sym, ap, ap₂, subst, ◌∙◌, arith, if◌then◌else◌}
use Rattle.std.specs.Prelude.{option_map}
use Rattle.std.specs.List.{list_all}
use Rattle.std.specs.Cmp.{first_so, second_so}
use Rattle.std.proofs.lemmas.Bool.{and_parts, and_from, false≢true}
use Rattle.std.proofs.lemmas.List.{length-map, map-append}
use Rattle.vx_value.specs.Types as type
use Rattle.vx_value.specs.Types.{DataType, Fields, nullability_of, is_nullable}
use Rattle.vx_value.specs.Values as of
use Rattle.vx_value.specs.Values.{Value, Values, boolean}
use Rattle.vx_value.specs.Cell.{Cell, value}
use Rattle.vx_value.specs.Defaults.{default_of, zero_of, zeros_of}
use Rattle.vx_value.specs.IsOf.{is_of, are_of, is_null}
use Rattle.vx_value.specs.Storage.{storage_of, is_nested}
use Rattle.vx_value.specs.Supported.{has_columns, have_columns}
use Rattle.vx_value.specs.declared.dtype.Nullability.{Nullability}
use Rattle.vx_value.proofs.DefaultsLemmas.{zero_typed}
use Rattle.vx_value.proofs.ScalarPartsLemmas.{extension_typed}
use Rattle.vx_value.proofs.SupportedLemmas.{first_columns, other_columns}
use Rattle.vx_tree.specs.Tree.{Tree, node, slots_of, dtype, len, datum, is_composed, is_canonical, with_field, struct_row, fields_shapes}
use Rattle.vx_tree.specs.Layouts.{heads, tails, row_by_row}
use Rattle.vx_tree.specs.Well.{shape, shape_of, shapes, IsWell, AreWell}
use Rattle.vx_tree.specs.Cells.{rows, valid_cell, valid_cells, HasNoFault, IsClean, AreClean}
use Rattle.vx_tree.specs.Cost.{cost}
use Rattle.vx_tree.specs.Validities.{child_by}
use Rattle.vx_tree.specs.declared.validity.Validity.TheVariants.{Array}
use Rattle.vx_tree.proofs.CostLemmas as turns
use Rattle.vx_tree.proofs.ExtensionLemmas.{stored_rows}
use Rattle.vx_tree.proofs.StructLemmas.{last_is}
use Rattle.vx_tree.proofs.ValiditiesLemmas.{whole}
use Rattle.vx_column.specs.Built.{built_stored}
use Rattle.vx_column.specs.Grown.{cells_read}
use Rattle.vx_column.specs.Masked.{TellsAll}
use Rattle.vx_column.specs.Nulls.{validity_cells}
use Rattle.vx_column.specs.ValueColumns.{first_part, other_parts, present, column_of, field_columns}
use Rattle.vx_column.specs.declared.rows.valid.ValidRows.TheVariants.{Bits}
use Rattle.vx_column.proofs.BuiltLemmas.{rows_built, all_shown, child_fits, built_well}
use Rattle.vx_column.proofs.BuiltColumnsLemmas.{built_long, built_clean, values_clean}
use Rattle.vx_column.proofs.ComposedLemmas.{slots_shaped, struct_rows}
use Rattle.vx_column.proofs.ValidRowsLemmas.{bits_rows, child_told, filled_clean}

abbrev cells : List Value → List Cell
cells vs = map (λ v. value v) vs

-- ---- a type that isn't nested

pub flat_column : (ty : DataType) (vs : List Value) → is_nested ty ≡ false → column_of ty vs ≡ built_stored (storage_of ty) ty vs
flat_column (type.struct fs m) vs h = absurd (cc)
flat_column (type.extension id t) vs h = absurd (cc)
flat_column _ vs h = refl

-- ---- the parts of one struct, with defaults in place of those of null

abbrev parts_of : Fields → Value → Values
parts_of type.no_fields v = of.no_values
parts_of (type.field name t fs) v = of.item (first_part t v) (parts_of fs (other_parts v))

parts_back : (fs : Fields) (vs : Values) → are_of fs vs ≡ true → parts_of fs (of.fields vs) ≡ vs
parts_back type.no_fields of.no_values h = refl
parts_back type.no_fields (of.item v vs) h = absurd (cc)
parts_back (type.field name t fs) of.no_values h = absurd (cc)
parts_back (type.field name t fs) (of.item v vs) h = ap (of.item v) (parts_back fs vs (second_so (is_of t v) (are_of fs vs) h))

-- the struct of them is the value, or stands under null
under_null : (fs : Fields) (m : Nullability) (v : Value) → is_of (type.struct fs m) v ≡ true
    → valid_cell (value (boolean (not (is_null v)))) (value (of.fields (parts_of fs v))) ≡ value v
under_null fs m of.null h = refl
under_null fs m (of.fields vs) h = ap (λ ws. value (of.fields ws)) (parts_back fs vs h)
under_null fs m _ h = absurd (cc)

-- ---- the cells of the fields, row by row

abbrev field_cells : Fields → List Value → List (List Cell)
field_cells type.no_fields vs = []
field_cells (type.field name t fs) vs = cells (map (first_part t) vs) ∷ field_cells fs (map other_parts vs)

abbrev first_cells : Fields → Value → List (List Cell)
first_cells type.no_fields v = []
first_cells (type.field name t fs) v = (value (first_part t v) ∷ []) ∷ first_cells fs (other_parts v)

first_made : (fs : Fields) (v : Value) → struct_row (first_cells fs v ++ [] ∷ []) ≡ value (of.fields (parts_of fs v))
first_made type.no_fields v = refl
first_made (type.field name t type.no_fields) v = refl
first_made (type.field name t (type.field other u fs)) v = ap (with_field (value (first_part t v) ∷ [])) (first_made (type.field other u fs) (other_parts v))

first_heads : (fs : Fields) (v : Value) (vs : List Value) → heads (field_cells fs (v ∷ vs) ++ [] ∷ []) ≡ first_cells fs v ++ [] ∷ []
first_heads type.no_fields v vs = refl
first_heads (type.field name t fs) v vs = ap (λ l. (value (first_part t v) ∷ []) ∷ l) (first_heads fs (other_parts v) (map other_parts vs))

other_tails : (fs : Fields) (v : Value) (vs : List Value) → tails (field_cells fs (v ∷ vs) ++ [] ∷ []) ≡ field_cells fs vs ++ [] ∷ []
other_tails type.no_fields v vs = refl
other_tails (type.field name t fs) v vs = ap (λ l. cells (map (first_part t) vs) ∷ l) (other_tails fs (other_parts v) (map other_parts vs))

rows_made : (fs : Fields) (vs : List Value)
    → row_by_row struct_row (length vs) (field_cells fs vs ++ [] ∷ []) ≡ map (λ v. value (of.fields (parts_of fs v))) vs
rows_made fs [] = refl
rows_made fs (v ∷ vs) =
    let here = ap struct_row (first_heads fs v vs) ∙ first_made fs v in
    let rest = ap (row_by_row struct_row (length vs)) (other_tails fs v vs) ∙ rows_made fs vs in
    λ i. here i ∷ rest i

rows_valid : (fs : Fields) (m : Nullability) (vs : List Value) → list_all (is_of (type.struct fs m)) vs ≡ true
    → valid_cells (map (λ b. value (boolean b)) (present vs)) (map (λ v. value (of.fields (parts_of fs v))) vs) ≡ cells vs
rows_valid fs m [] all = refl
rows_valid fs m (v ∷ vs) all =
    let parts = and_parts (is_of (type.struct fs m) v) (list_all (is_of (type.struct fs m)) vs) all in
    ap₂ (λ c l. c ∷ l) (under_null fs m v parts.0) (rows_valid fs m vs parts.1)

-- ---- the parts are of their types

mutual
  zero_columns : (t : DataType) → has_columns t ≡ true → is_of t (zero_of t) ≡ true
  zero_columns type.null h = refl
  zero_columns (type.bool m) h = zero_typed (type.bool m) refl
  zero_columns (type.primitive p m) h = zero_typed (type.primitive p m) refl
  zero_columns (type.decimal p s m) h = zero_typed (type.decimal p s m) refl
  zero_columns (type.utf8 m) h = zero_typed (type.utf8 m) refl
  zero_columns (type.binary m) h = zero_typed (type.binary m) refl
  zero_columns (type.struct fs m) h = zeros_columns fs h
  zero_columns (type.extension id t) h = extension_typed id t (zero_of t) ∙ zero_columns t h
  zero_columns _ h = absurd (false≢true h)

  zeros_columns : (fs : Fields) → have_columns fs ≡ true → are_of fs (zeros_of fs) ≡ true
  zeros_columns type.no_fields h = refl
  zeros_columns (type.field name t fs) h =
      and_from (is_of t (zero_of t)) (are_of fs (zeros_of fs)) (zero_columns t (first_columns name t fs h)) (zeros_columns fs (other_columns name t fs h))

default_typed : (t : DataType) → has_columns t ≡ true → is_of t (default_of t) ≡ true
default_typed t h = by_nullable (is_nullable (nullability_of t)) refl
  where
    by_nullable : (b : Bool) → is_nullable (nullability_of t) ≡ b → is_of t (if b then of.null else zero_of t) ≡ true
    by_nullable true e = e
    by_nullable false e = zero_columns t h

-- the first part of a struct, and the struct of the others
module _ (name : List ℕ) (t : DataType) (fs : Fields) (m : Nullability) where
  first_typed : has_columns t ≡ true → (v : Value) → is_of (type.struct (type.field name t fs) m) v ≡ true → is_of t (first_part t v) ≡ true
  first_typed h of.null k = default_typed t h
  first_typed h (of.fields of.no_values) k = default_typed t h
  first_typed h (of.fields (of.item v vs)) k = first_so (is_of t v) (are_of fs vs) k
  first_typed h _ k = default_typed t h

  others_typed : (v : Value) → is_of (type.struct (type.field name t fs) m) v ≡ true → is_of (type.struct fs m) (other_parts v) ≡ true
  others_typed of.null k = k
  others_typed (of.fields of.no_values) k = absurd (false≢true k)
  others_typed (of.fields (of.item v vs)) k = second_so (is_of t v) (are_of fs vs) k
  others_typed _ k = absurd (false≢true k)

all_mapped : (p q : Value → Bool) (f : Value → Value) → ((v : Value) → p v ≡ true → q (f v) ≡ true) → (vs : List Value) → list_all p vs ≡ true
    → list_all q (map f vs) ≡ true
all_mapped p q f each [] all = refl
all_mapped p q f each (v ∷ vs) all =
    let parts = and_parts (p v) (list_all p vs) all in
    and_from (q (f v)) (list_all q (map f vs)) (each v parts.0) (all_mapped p q f each vs parts.1)

-- of each struct
module _ (name : List ℕ) (t : DataType) (fs : Fields) (m : Nullability) (vs : List Value) (all : list_all (is_of (type.struct (type.field name t fs) m)) vs ≡ true)
  where
    firsts_typed : has_columns t ≡ true → list_all (is_of t) (map (first_part t) vs) ≡ true
    firsts_typed h = all_mapped (is_of (type.struct (type.field name t fs) m)) (is_of t) (first_part t) (first_typed name t fs m h) vs all

    rest_typed : list_all (is_of (type.struct fs m)) (map other_parts vs) ≡ true
    rest_typed = all_mapped (is_of (type.struct (type.field name t fs) m)) (is_of (type.struct fs m)) other_parts (others_typed name t fs m) vs all

stored_typed : (id : List ℕ) (t : DataType) (vs : List Value) → list_all (is_of (type.extension id t)) vs ≡ true → list_all (is_of t) vs ≡ true
stored_typed id t vs all = ap (λ p. list_all p vs) (λ i v. sym (extension_typed id t v) i) ∙ all

-- ---- the type, the length and the layout

pub column_typed : (ty : DataType) (vs : List Value) → has_columns ty ≡ true → dtype (column_of ty vs) ≡ ty
column_typed type.null vs h = refl
column_typed (type.bool m) vs h = refl
column_typed (type.primitive p m) vs h = refl
column_typed (type.decimal p s m) vs h = refl
column_typed (type.utf8 m) vs h = refl
column_typed (type.binary m) vs h = refl
column_typed (type.struct fs m) vs h = refl
column_typed (type.extension id t) vs h = refl
column_typed _ vs h = absurd (false≢true h)

pub column_long : (ty : DataType) (vs : List Value) → len (column_of ty vs) ≡ length vs
column_long type.null vs = refl
column_long (type.bool m) vs = built_long (type.bool m) vs
column_long (type.primitive p m) vs = built_long (type.primitive p m) vs
column_long (type.decimal p s m) vs = built_long (type.decimal p s m) vs
column_long (type.utf8 m) vs = built_long (type.utf8 m) vs
column_long (type.binary m) vs = built_long (type.binary m) vs
column_long (type.struct fs m) vs = length-map vs (λ v. not (is_null v))
column_long (type.extension id t) vs = refl
column_long _ vs = refl

pub column_composed : (ty : DataType) (vs : List Value) → is_nested ty ≡ true → has_columns ty ≡ true → is_composed (datum (column_of ty vs)) ≡ true
column_composed (type.struct fs m) vs nested h = refl
column_composed (type.extension id t) vs nested h = refl
column_composed type.null vs nested h = absurd (false≢true nested)
column_composed (type.bool m) vs nested h = absurd (false≢true nested)
column_composed (type.primitive p m) vs nested h = absurd (false≢true nested)
column_composed (type.decimal p s m) vs nested h = absurd (false≢true nested)
column_composed (type.utf8 m) vs nested h = absurd (false≢true nested)
column_composed (type.binary m) vs nested h = absurd (false≢true nested)
column_composed _ vs nested h = absurd (false≢true h)

pub column_canonical : (ty : DataType) (vs : List Value) → is_canonical (datum (column_of ty vs)) ≡ true
column_canonical type.null vs = refl
column_canonical _ vs = refl

pub column_cost : (ty : DataType) (vs : List Value) → cost (column_of ty vs) ≤ 1
column_cost ty vs = one_turn (column_of ty vs) (column_canonical ty vs)
  where
    one_turn : (t : Tree) → is_canonical (datum t) ≡ true → cost t ≤ 1
    one_turn (node s n d ss) h = omega (arith, turns.column_cost s n d ss h)

-- the columns of the fields fit a column of structs
pub fields_fit : (fs : Fields) (vs : List Value) → have_columns fs ≡ true
    → map (option_map shape_of) (map Some (field_columns fs vs)) ≡ fields_shapes (length vs) fs
fields_fit type.no_fields vs h = refl
fields_fit (type.field name t fs) vs h =
    let typed = column_typed t (map (first_part t) vs) (first_columns name t fs h) in
    let long = column_long t (map (first_part t) vs) ∙ length-map vs (first_part t) in
    let rest = fields_fit fs (map other_parts vs) (other_columns name t fs h) ∙ ap (λ n. fields_shapes n fs) (length-map vs other_parts) in
    λ i. Some (shape (typed i) (long i)) ∷ rest i

-- ---- the rows

-- the validity of bits
pub bits_tell : (bits : List Bool) → TellsAll (length bits) (child_by bits)
bits_tell bits = by_child (child_by bits) refl
  where
    by_child : (w : Option Tree) → w ≡ child_by bits → TellsAll (length bits) w
    by_child None e = tt
    by_child (Some t) e = bits_rows bits (length bits) (Array t) refl e

-- of structs, by those of their fields
struct_shown : (fs : Fields) (m : Nullability) (vs : List Value) → map validity_cells (map Some (field_columns fs vs)) ≡ field_cells fs vs
    → list_all (is_of (type.struct fs m)) vs ≡ true → rows (column_of (type.struct fs m) vs) ≡ cells vs
struct_shown fs m vs told all =
    let bits = present vs in
    let made = map (λ v. value (of.fields (parts_of fs v))) vs in
    let count : length bits ≡ length vs = length-map vs (λ v. not (is_null v)) in
    let long : length made ≡ length bits = length-map vs (λ v. value (of.fields (parts_of fs v))) ∙ sym count in
    let bare : row_by_row struct_row (length bits) (map validity_cells (map Some (field_columns fs vs)) ++ [] ∷ []) ≡ made =
    (λ i. row_by_row struct_row (count i) (told i ++ [] ∷ [])) ∙ rows_made fs vs in
    struct_rows (length bits) (map Some (field_columns fs vs)) (child_by bits) (bits_tell bits) ∙ ap (valid_cells (validity_cells (child_by bits))) bare
    ∙ child_told bits made long ∙ rows_valid fs m vs all

mutual
  pub column_rows : (ty : DataType) (vs : List Value) → has_columns ty ≡ true → list_all (is_of ty) vs ≡ true → rows (column_of ty vs) ≡ map (λ v. value v) vs
  column_rows type.null vs h all = rows_built type.null vs refl all
  column_rows (type.bool m) vs h all = rows_built (type.bool m) vs refl all
  column_rows (type.primitive p m) vs h all = rows_built (type.primitive p m) vs refl all
  column_rows (type.decimal p s m) vs h all = rows_built (type.decimal p s m) vs refl all
  column_rows (type.utf8 m) vs h all = rows_built (type.utf8 m) vs refl all
  column_rows (type.binary m) vs h all = rows_built (type.binary m) vs refl all
  column_rows (type.struct fs m) vs h all = struct_shown fs m vs (fields_rows fs m vs h all) all
  column_rows (type.extension id t) vs h all =
      let shown = column_rows t vs h (stored_typed id t vs all) in
      stored_rows (length vs) (rows (column_of t vs)) (ap length shown ∙ length-map vs (λ v. value v)) ∙ shown
  column_rows _ vs h all = absurd (false≢true h)

  fields_rows : (fs : Fields) (m : Nullability) (vs : List Value) → have_columns fs ≡ true → list_all (is_of (type.struct fs m)) vs ≡ true
      → map validity_cells (map Some (field_columns fs vs)) ≡ field_cells fs vs
  fields_rows type.no_fields m vs h all = refl
  fields_rows (type.field name t fs) m vs h all =
      let has = first_columns name t fs h in
      let here = column_rows t (map (first_part t) vs) has (firsts_typed name t fs m vs all has) in
      let rest = fields_rows fs m (map other_parts vs) (other_columns name t fs h) (rest_typed name t fs m vs all) in
      λ i. here i ∷ rest i

-- ---- no fault

mutual
  pub column_clean : (ty : DataType) (vs : List Value) → has_columns ty ≡ true → list_all (is_of ty) vs ≡ true → IsClean (column_of ty vs)
  column_clean type.null vs h all = built_clean type.null vs refl all
  column_clean (type.bool m) vs h all = built_clean (type.bool m) vs refl all
  column_clean (type.primitive p m) vs h all = built_clean (type.primitive p m) vs refl all
  column_clean (type.decimal p s m) vs h all = built_clean (type.decimal p s m) vs refl all
  column_clean (type.utf8 m) vs h all = built_clean (type.utf8 m) vs refl all
  column_clean (type.binary m) vs h all = built_clean (type.binary m) vs refl all
  column_clean (type.struct fs m) vs h all =
      (subst HasNoFault (sym (column_rows (type.struct fs m) vs h all)) (values_clean vs), fields_clean fs m vs (present vs) h all)
  column_clean (type.extension id t) vs h all = (
    subst HasNoFault (sym (column_rows (type.extension id t) vs h all)) (values_clean vs),
    (column_clean t vs h (stored_typed id t vs all), tt),
  )
  column_clean _ vs h all = absurd (false≢true h)

  fields_clean : (fs : Fields) (m : Nullability) (vs : List Value) (bits : List Bool) → have_columns fs ≡ true → list_all (is_of (type.struct fs m)) vs ≡ true
      → AreClean (slots_of (map Some (field_columns fs vs) ++ child_by bits ∷ []))
  fields_clean type.no_fields m vs bits h all = filled_clean (Bits bits)
  fields_clean (type.field name t fs) m vs bits h all =
      let has = first_columns name t fs h in (
        column_clean t (map (first_part t) vs) has (firsts_typed name t fs m vs all has),
        fields_clean fs m (map other_parts vs) bits (other_columns name t fs h) (rest_typed name t fs m vs all),
      )

-- nor has the validity, which is read when the column is appended
told_clean : (w : Option Tree) → AreClean (slots_of (w ∷ [])) → HasNoFault (validity_cells w)
told_clean None h = tt
told_clean (Some t) h = whole t h.0

pub column_told : (ty : DataType) (vs : List Value) → is_nested ty ≡ true → has_columns ty ≡ true → HasNoFault (cells_read ty (column_of ty vs))
column_told (type.struct fs m) vs nested h =
    let bits = present vs in
    subst (λ w. HasNoFault (validity_cells w)) (sym (last_is (map Some (field_columns fs vs) ++ child_by bits ∷ []) (map Some (field_columns fs vs)) (child_by bits) refl))
    (told_clean (child_by bits) (filled_clean (Bits bits)))
column_told (type.extension id t) vs nested h = tt
column_told type.null vs nested h = absurd (false≢true nested)
column_told (type.bool m) vs nested h = absurd (false≢true nested)
column_told (type.primitive p m) vs nested h = absurd (false≢true nested)
column_told (type.decimal p s m) vs nested h = absurd (false≢true nested)
column_told (type.utf8 m) vs nested h = absurd (false≢true nested)
column_told (type.binary m) vs nested h = absurd (false≢true nested)
column_told _ vs nested h = absurd (false≢true h)

-- ---- its conditions

mutual
  pub column_well : (ty : DataType) (vs : List Value) → has_columns ty ≡ true → list_all (is_of ty) vs ≡ true → IsWell (column_of ty vs)
  column_well type.null vs h all = built_well type.null vs refl all
  column_well (type.bool m) vs h all = built_well (type.bool m) vs refl all
  column_well (type.primitive p m) vs h all = built_well (type.primitive p m) vs refl all
  column_well (type.decimal p s m) vs h all = built_well (type.decimal p s m) vs refl all
  column_well (type.utf8 m) vs h all = built_well (type.utf8 m) vs refl all
  column_well (type.binary m) vs h all = built_well (type.binary m) vs refl all
  column_well (type.struct fs m) vs h all =
      let bits = present vs in
      let w = child_by bits in
      let slots = map Some (field_columns fs vs) in
      let fits = child_fits m bits w refl (all_shown (type.struct fs m) vs all) in
      let shaped : map (option_map shape_of) slots ≡ fields_shapes (length bits) fs =
      fields_fit fs vs h ∙ ap (λ n. fields_shapes n fs) (sym (length-map vs (λ v. not (is_null v)))) in
      let all_shaped : shapes (slots_of (slots ++ w ∷ [])) ≡ fields_shapes (length bits) fs ++ option_map shape_of w ∷ [] =
      slots_shaped (slots ++ w ∷ []) ∙ map-append (option_map shape_of) slots (w ∷ []) ∙ ap (λ l. l ++ option_map shape_of w ∷ []) shaped in
      ((fs, m, option_map shape_of w, refl, all_shaped, fits.0), fields_well fs m vs w h all fits.1)
  column_well (type.extension id t) vs h all =
      let slot : Some (shape_of (column_of t vs)) ∷ [] ≡ Some (shape t (length vs)) ∷ [] =
      λ i. Some (shape (column_typed t vs h i) (column_long t vs i)) ∷ [] in
      ((id, t, refl, slot), (column_well t vs h (stored_typed id t vs all), tt))
  column_well _ vs h all = absurd (false≢true h)

  fields_well : (fs : Fields) (m : Nullability) (vs : List Value) (w : Option Tree) → have_columns fs ≡ true → list_all (is_of (type.struct fs m)) vs ≡ true
      → AreWell (slots_of (w ∷ [])) → AreWell (slots_of (map Some (field_columns fs vs) ++ w ∷ []))
  fields_well type.no_fields m vs w h all last = last
  fields_well (type.field name t fs) m vs w h all last =
      let has = first_columns name t fs h in (
        column_well t (map (first_part t) vs) has (firsts_typed name t fs m vs all has),
        fields_well fs m (map other_parts vs) w (other_columns name t fs h) (rest_typed name t fs m vs all) last,
      )
