-- One row of a column of a nested type.
use Rattle.std.proofs.Common.{◌≡◌, inl, inr, ℕ, zero, suc, ◌+◌, ◌<◌, List, [], ◌∷◌, ◌++◌, length, map, replicate, get_or, take, drop, true, false, Option, Some, None, refl, sym, ◌∙◌, ap, subst, arith}
use Rattle.std.specs.Prelude.{slice_get, option_map, Result}
use Rattle.std.specs.List.{AllZip}
use Rattle.std.specs.Result.{IfOk}
use Rattle.std.proofs.Math.Seq.{drop-nil}
use Rattle.std.proofs.lemmas.List.{length-replicate, get_or-replicate}
use Rattle.std.proofs.lemmas.Option.{slice_get-get_or}
use Rattle.std.proofs.lemmas.Result.{IfOk-weaker}
use Rattle.vx_value.specs.Types as type
use Rattle.vx_value.specs.Types.{DataType, Fields, nullability_of}
use Rattle.vx_value.specs.Typed.{Typed}
use Rattle.vx_value.specs.Values.{Value, Values, boolean, fields, item, no_values}
use Rattle.vx_value.specs.Cell.{Cell, value, fault}
use Rattle.vx_value.specs.ScalarParts.{AreFields, HaveFields, values_in}
use Rattle.vx_value.specs.declared.dtype.Nullability.{Nullability}
use Rattle.vx_value.specs.declared.dtype.Nullability.TheVariants.{NonNullable, Nullable}
use Rattle.vx_value.specs.declared.error.VortexError.{VortexError}
use Rattle.vx_tree.specs.Tree as enc
use Rattle.vx_tree.specs.Tree.{Tree, node, slots_of, dtype, len, height, slots_height, laid_out}
use Rattle.vx_tree.specs.Tree.{IsStruct, fields_shapes, with_field, without_fields, struct_row, IsExtension, extension_row}
use Rattle.vx_tree.specs.Cells.{rows, slots_rows, valid_cell}
use Rattle.vx_tree.specs.Well.{Shape, shape, shape_of, shapes, IsValidity, IsWell, AreWell}
use Rattle.vx_tree.specs.declared.array.layout.Layout.{Layout}
use Rattle.vx_tree.specs.declared.array.layout.Layout.TheVariants as layout
use Rattle.vx_tree.proofs.CellsLemmas.{rows_counted}
use Rattle.vx_tree.proofs.KindsLemmas.{type_in, len_in}
use Rattle.vx_tree.proofs.LayoutsLemmas.{cells_in, made_row, cell_in}
use Rattle.vx_tree.proofs.SlotsLemmas.{IsBelow}
use Rattle.vx_column.specs.Nulls.{TellsRow, IsRowBy, validity_cells}
use Rattle.vx_column.specs.Read.{IsRow, IsUnreadRow}
use Rattle.vx_column.proofs.CellsLemmas.{IsRead, row_told}
use Rattle.vx_column.proofs.MaskedRowsLemmas.{validity_tells}

-- ---- the cells of the slots in a row

-- a row of a column is made of the slots' cells in it
composed_row : (l : Layout) (xs : List (Option Tree)) (t : Tree) (i : ℕ) → t ≡ node (dtype t) (len t) (enc.composed l) (slots_of xs) → i < len t
    → slice_get (rows t) i ≡ Some ((laid_out l).row (cells_in i (slots_rows (slots_of xs))))
composed_row l xs t i is lt = ap (λ u. slice_get (rows u) i) is ∙ made_row (laid_out l).row (len t) i (slots_rows (slots_of xs)) lt

-- ---- what a validity makes of a row

-- a cell, by the validity's cell in its row; itself if there is none
abbrev told_by : List Cell → Cell → Cell
told_by [] c = c
told_by (v ∷ vs) c = valid_cell v c

-- what there is in row i of the validity
abbrev told_in : Option Tree → ℕ → List Cell
told_in v i = take 1 (drop i (validity_cells v))

-- a validity that is there has a row i
abbrev HasRow : Option Tree → ℕ → Type 0
HasRow None i = Unit {0}
HasRow (Some t) i = i < length (rows t)

told_row : (v : Option Tree) (i : ℕ) (stored : Cell) → HasRow v i → IsRowBy v i stored (told_by (told_in v i) stored)
told_row None i stored h = subst (λ cs. IsRowBy None i stored (told_by (take 1 cs) stored)) (sym (drop-nil i)) (λ cs there. there)
told_row (Some t) i stored h =
    let there = slice_get-get_or (rows t) i fault h in
    subst (λ cs. IsRowBy (Some t) i stored (told_by cs stored)) (sym (cell_in (rows t) i (get_or (rows t) i fault) there))
    (row_told (Some t) t i (get_or (rows t) i fault) stored refl there)

-- it makes one cell
one_row : (v : Option Tree) (i : ℕ) (stored c d : Cell) → IsRowBy v i stored c → IsRowBy v i stored d → c ≡ d
one_row v i stored c d h k =
    let copies = replicate (suc i) stored in
    let long = length-replicate (suc i) stored in
    let there : slice_get copies i ≡ Some stored =
    slice_get-get_or copies i fault (omega (arith, long)) ∙ ap Some (get_or-replicate (suc i) i stored fault (omega arith)) in
    let first = h copies there in
    let second = k copies there in
    cc

-- ---- of a column of structs

-- the validity makes a row null or not, whatever its fields
with_told : (x : Value) (ws : List Cell) (vs : Values) → with_field (value x ∷ []) (told_by ws (value (fields vs))) ≡ told_by ws (value (fields (item x vs)))
with_told x [] vs = refl
with_told x (value (boolean true) ∷ ws) vs = refl
with_told x (value (boolean false) ∷ ws) vs = refl
with_told x (_ ∷ ws) vs = refl

with_fault : (cs : List Cell) → with_field cs fault ≡ fault
with_fault [] = refl
with_fault (value v ∷ []) = refl
with_fault (value v ∷ c ∷ cs) = refl
with_fault (fault ∷ cs) = refl

none_told : (ws : List Cell) → without_fields ws ≡ told_by ws (value (fields no_values))
none_told [] = refl
none_told (w ∷ ws) = refl

-- the fields' slots, and that of the validity
module _ (v : Option Tree) (i : ℕ) where
  -- their cells in row i
  abbrev cells_of : List (Option Tree) → List (List Cell)
  cells_of xs = cells_in i (slots_rows (slots_of (xs ++ v ∷ [])))

  one_more : (cs : List Cell) (xs : List (Option Tree)) → (w : Option Tree) → w ≡ v
      → struct_row (cs ∷ cells_in i (slots_rows (slots_of (xs ++ w ∷ [])))) ≡ with_field cs (struct_row (cells_in i (slots_rows (slots_of (xs ++ w ∷ [])))))
  one_more cs [] None e = refl
  one_more cs [] (Some t) e = refl
  one_more cs (None ∷ xs) w e = refl
  one_more cs (Some t ∷ xs) w e = refl

  no_more : (w : Option Tree) → struct_row (cells_in i (slots_rows (slots_of (w ∷ [])))) ≡ told_by (told_in w i) (value (fields no_values))
  no_more None = none_told (told_in None i)
  no_more (Some t) = none_told (told_in (Some t) i)

  -- of fields that are read
  struct_cell : (xs : List (Option Tree)) (ss : List Typed) → AllZip (IsRead i) xs ss
      → struct_row (cells_of xs) ≡ told_by (told_in v i) (value (fields (values_in ss)))
  struct_cell [] [] h = no_more v
  struct_cell [] (s ∷ ss) h = absurd h
  struct_cell (x ∷ xs) [] h = absurd h
  struct_cell (None ∷ xs) (s ∷ ss) h = absurd h.0
  struct_cell (Some t ∷ xs) (s ∷ ss) h =
      one_more (take 1 (drop i (rows t))) xs v refl
      ∙ (λ j. with_field (cell_in (rows t) i (value s.value) h.0.0 j) (struct_cell xs ss h.1 j))
      ∙ with_told s.value (told_in v i) (values_in ss)

  -- a fault in a field is one in the row
  struct_fault : (xs : List (Option Tree)) (k : ℕ) (c : Tree) → k < length xs → Some c ≡ get_or xs k (Some c) → slice_get (rows c) i ≡ Some fault
      → struct_row (cells_of xs) ≡ fault
  struct_fault [] k c lt e h = absurd (omega arith)
  struct_fault (None ∷ xs) zero c lt e h = absurd (cc)
  struct_fault (None ∷ xs) (suc k) c lt e h = one_more (take 1 (drop i [])) xs v refl ∙ ap (with_field (take 1 (drop i []))) (struct_fault xs k c (omega arith) e h) ∙ with_fault (take 1 (drop i []))
  struct_fault (Some t ∷ xs) zero c lt e h =
      let same : t ≡ c = cc in
      one_more (take 1 (drop i (rows t))) xs v refl
      ∙ ap (λ cs. with_field cs (struct_row (cells_of xs))) (cell_in (rows t) i fault (ap (λ u. slice_get (rows u) i) same ∙ h))
  struct_fault (Some t ∷ xs) (suc k) c lt e h =
      one_more (take 1 (drop i (rows t))) xs v refl
      ∙ ap (with_field (take 1 (drop i (rows t)))) (struct_fault xs k c (omega arith) e h)
      ∙ with_fault (take 1 (drop i (rows t)))

-- ---- their slots

some_slot : (xs : List (Option Tree)) (v : Option Tree) → shapes (slots_of (xs ++ v ∷ [])) ≡ [] → ⊥
some_slot [] None h = cc
some_slot [] (Some t) h = cc
some_slot (None ∷ xs) v h = cc
some_slot (Some t ∷ xs) v h = cc

some_shape : (n : ℕ) (fs : Fields) (w : Option Shape) → [] ≡ fields_shapes n fs ++ w ∷ [] → ⊥
some_shape n type.no_fields w h = cc
some_shape n (type.field name t fs) w h = cc

module _ (n : ℕ) (v : Option Tree) (w : Option Shape) where
  -- the slots have these shapes
  abbrev HaveShapes : Fields → List (Option Tree) → Type 0
  HaveShapes fs xs = shapes (slots_of (xs ++ v ∷ [])) ≡ fields_shapes n fs ++ w ∷ []

  -- the fields' slots hold trees of n rows
  fields_below : (fs : Fields) (xs : List (Option Tree)) (k : ℕ) (d : Option Tree) (h : ℕ) → HaveShapes fs xs → slots_height (slots_of (xs ++ v ∷ [])) < h
      → k < length xs → IsBelow n h (get_or xs k d)
  fields_below fs [] k d h e l lt = absurd (omega arith)
  fields_below type.no_fields (None ∷ xs) k d h e l lt = absurd (some_slot xs v (let rest : shapes (slots_of (xs ++ v ∷ [])) ≡ [] = cc in rest))
  fields_below type.no_fields (Some t ∷ xs) k d h e l lt = absurd (some_slot xs v (let rest : shapes (slots_of (xs ++ v ∷ [])) ≡ [] = cc in rest))
  fields_below (type.field name s fs) (None ∷ xs) k d h e l lt = absurd (cc)
  fields_below (type.field name s fs) (Some t ∷ xs) zero d h e l lt = let same : shape_of t ≡ shape s n = cc in (ap len_in same, omega arith)
  fields_below (type.field name s fs) (Some t ∷ xs) (suc k) d h e l lt =
      let rest : HaveShapes fs xs = cc in fields_below fs xs k d h rest (omega arith) (omega arith)

  -- of the fields' types
  fields_typed : (i : ℕ) (fs : Fields) (xs : List (Option Tree)) (ss : List Typed) → HaveShapes fs xs → AllZip (IsRead i) xs ss → AreFields fs ss
  fields_typed i type.no_fields [] [] e h = tt
  fields_typed i (type.field name s fs) [] [] e h = absurd (last v e)
    where
      last : (u : Option Tree) → shapes (slots_of (u ∷ [])) ≡ Some (shape s n) ∷ fields_shapes n fs ++ w ∷ [] → ⊥
      last None e = cc
      last (Some t) e = let rest : [] ≡ fields_shapes n fs ++ w ∷ [] = cc in some_shape n fs w rest
  fields_typed i fs [] (s ∷ ss) e h = absurd h
  fields_typed i fs (x ∷ xs) [] e h = absurd h
  fields_typed i fs (None ∷ xs) (s ∷ ss) e h = absurd h.0
  fields_typed i type.no_fields (Some t ∷ xs) (s ∷ ss) e h = absurd (some_slot xs v (let rest : shapes (slots_of (xs ++ v ∷ [])) ≡ [] = cc in rest))
  fields_typed i (type.field name u fs) (Some t ∷ xs) (s ∷ ss) e h =
      let same : shape_of t ≡ shape u n = cc in
      let rest : HaveShapes fs xs = cc in
      (h.0.1 ∙ ap type_in same, fields_typed i fs xs ss rest h.1)

  -- the last one is the validity's
  last_shape : (fs : Fields) (xs : List (Option Tree)) → HaveShapes fs xs → option_map shape_of v ≡ w
  last_shape type.no_fields [] e = only v e
    where
      only : (u : Option Tree) → shapes (slots_of (u ∷ [])) ≡ w ∷ [] → option_map shape_of u ≡ w
      only None e = cc
      only (Some t) e = cc
  last_shape (type.field name s fs) [] e = absurd (last v e)
    where
      last : (u : Option Tree) → shapes (slots_of (u ∷ [])) ≡ Some (shape s n) ∷ fields_shapes n fs ++ w ∷ [] → ⊥
      last None e = cc
      last (Some t) e = let rest : [] ≡ fields_shapes n fs ++ w ∷ [] = cc in some_shape n fs w rest
  last_shape type.no_fields (None ∷ xs) e = absurd (some_slot xs v (let rest : shapes (slots_of (xs ++ v ∷ [])) ≡ [] = cc in rest))
  last_shape type.no_fields (Some t ∷ xs) e = absurd (some_slot xs v (let rest : shapes (slots_of (xs ++ v ∷ [])) ≡ [] = cc in rest))
  last_shape (type.field name s fs) (None ∷ xs) e = absurd (cc)
  last_shape (type.field name s fs) (Some t ∷ xs) e = let rest : HaveShapes fs xs = cc in last_shape fs xs rest

-- it has each row
validity_well : (xs : List (Option Tree)) (v : Option Tree) (i : ℕ) (ty : DataType) → AreWell (slots_of (xs ++ v ∷ [])) → TellsRow ty v i → HasRow v i
validity_well [] None i ty h k = tt
validity_well [] (Some t) i ty h k = subst (λ n. i < n) (sym (rows_counted t h.0)) k.2
validity_well (None ∷ xs) v i ty h k = validity_well xs v i ty h k
validity_well (Some t ∷ xs) v i ty h k = validity_well xs v i ty h.1 k

validity_low : (xs : List (Option Tree)) (v : Option Tree) → slots_height (slots_of (v ∷ [])) < slots_height (slots_of (xs ++ v ∷ [])) + 1
validity_low [] v = omega arith
validity_low (None ∷ xs) v = omega (arith, validity_low xs v)
validity_low (Some t ∷ xs) v = omega (arith, validity_low xs v)

-- ---- a row of structs, read

module _ (t : Tree) (all xs : List (Option Tree)) (v : Option Tree) (i : ℕ) (parts : all ≡ xs ++ v ∷ [])
    (shown : t ≡ node (dtype t) (len t) (enc.composed layout.Struct) (slots_of all)) (well : IsStruct (dtype t) (len t) (shapes (slots_of all)))
    (lt : i < len t) where
  shapes_are : shapes (slots_of (xs ++ v ∷ [])) ≡ fields_shapes (len t) well.0 ++ well.2 ∷ []
  shapes_are = ap (λ l. shapes (slots_of l)) (sym parts) ∙ well.4

  row_is : slice_get (rows t) i ≡ Some (struct_row (cells_of v i xs))
  row_is = composed_row layout.Struct all t i shown lt ∙ ap (λ l. Some (struct_row (cells_in i (slots_rows (slots_of l))))) parts

  pub field_below : (k : ℕ) (d : Option Tree) → k < length xs → IsBelow (len t) (slots_height (slots_of all) + 1) (get_or xs k d)
  field_below k d =
      fields_below (len t) v well.2 well.0 xs k d (slots_height (slots_of all) + 1) shapes_are
      (subst (λ l. slots_height (slots_of l) < slots_height (slots_of all) + 1) parts (omega arith))

  pub field_faulted : (k : ℕ) (c : Tree) → k < length xs → Some c ≡ get_or xs k (Some c) → slice_get (rows c) i ≡ Some fault → slice_get (rows t) i ≡ Some fault
  field_faulted k c there e h = row_is ∙ ap Some (struct_fault v i xs k c there e h)

  pub fields_have : (ss : List Typed) (ty : DataType) → ty ≡ dtype t → AllZip (IsRead i) xs ss → HaveFields ty ss
  fields_have ss ty same h =
      subst (λ s. HaveFields s ss) (sym (same ∙ well.3)) (fields_typed (len t) v well.2 i well.0 xs ss shapes_are h)

  pub validity_told : (ty : DataType) → ty ≡ dtype t → TellsRow ty v i
  validity_told ty same =
      let last = last_shape (len t) v well.2 well.0 xs shapes_are in
      validity_tells well.1 (len t) v ty i (ap nullability_of (same ∙ well.3)) lt (subst (IsValidity well.1 (len t)) (sym last) well.5)

  pub validity_below : slots_height (slots_of (v ∷ [])) < slots_height (slots_of all) + 1
  validity_below = subst (λ l. slots_height (slots_of (v ∷ [])) < slots_height (slots_of l) + 1) (sym parts) (validity_low xs v)

  -- once each field is read, by what the validity makes of them
  module _ (formed : IsWell t) (ss : List Typed) (read : AllZip (IsRead i) xs ss) where
    cell_is : (c : Cell) → IsRowBy v i (value (fields (values_in ss))) c → slice_get (rows t) i ≡ Some c
    cell_is c h =
        let stored = value (fields (values_in ss)) in
        let slots_well : AreWell (slots_of (xs ++ v ∷ [])) = subst (λ l. AreWell (slots_of l)) parts (subst IsWell shown formed).1 in
        let there = validity_well xs v i (dtype t) slots_well (validity_told (dtype t) refl) in
        row_is ∙ ap Some (struct_cell v i xs ss read ∙ one_row v i stored _ c (told_row v i stored there) h)

    pub struct_is : (stored s : Typed) → stored ≡ record { of_type = dtype t; value = fields (values_in ss) } → s.of_type ≡ stored.of_type
        → IsRowBy v i (value stored.value) (value s.value) → IsRow t i s
    struct_is stored s made typed h = (
      cell_is (value s.value) (subst (λ x. IsRowBy v i (value (Typed.value x)) (value s.value)) made h),
      typed ∙ ap (λ x. Typed.of_type x) made,
    )

    pub struct_faulted : (stored : Typed) → stored ≡ record { of_type = dtype t; value = fields (values_in ss) }
        → IsRowBy v i (value stored.value) fault → slice_get (rows t) i ≡ Some fault
    struct_faulted stored made h = cell_is fault (subst (λ x. IsRowBy v i (value (Typed.value x)) fault) made h)

-- ---- of an extension

module _ (t s : Tree) (all : List (Option Tree)) (i : ℕ) (parts : all ≡ Some s ∷ [])
    (shown : t ≡ node (dtype t) (len t) (enc.composed layout.Extension) (slots_of all)) (well : IsExtension (dtype t) (len t) (shapes (slots_of all)))
    (lt : i < len t) where
  shape_is : shape_of s ≡ shape well.1 (len t)
  shape_is = let h = ap (λ l. shapes (slots_of l)) (sym parts) ∙ well.3 in cc

  pub storage_long : len s ≡ len t
  storage_long = ap len_in shape_is

  pub storage_low : height s < slots_height (slots_of all) + 1
  storage_low = subst (λ l. height s < slots_height (slots_of l) + 1) (sym parts) (omega arith)

  pub extension_row_is : (c : Cell) → slice_get (rows s) i ≡ Some c → slice_get (rows t) i ≡ Some c
  extension_row_is c h =
      composed_row layout.Extension all t i shown lt
      ∙ ap (λ l. Some (extension_row (cells_in i (slots_rows (slots_of l))))) parts
      ∙ ap (λ cs. Some (extension_row (cs ∷ []))) (cell_in (rows s) i c h)

  pub storage_typed : (ty u : DataType) → ty ≡ dtype t → u ≡ dtype s → (id : List ℕ) × (ty ≡ type.extension id u)
  storage_typed ty u same of = (well.0, same ∙ well.2 ∙ ap (type.extension well.0) (sym (of ∙ ap type_in shape_is)))
