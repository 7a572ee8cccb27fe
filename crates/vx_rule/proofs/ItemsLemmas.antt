-- What `get_item` above a filter, a slice, a masked array and a column of structs keeps: G1 to G4.
use Rattle.std.proofs.Common.{◌≡◌, ℕ, zero, suc, ◌+◌, ◌-◌, ◌<◌, List, [], ◌∷◌, ◌++◌, length, map, take, drop, get_or, Bool, true, false, if◌then◌else◌}
use Rattle.std.proofs.Common.{Option, Some, None, refl, sym, ap, subst, ◌∙◌, arith}
use Rattle.std.specs.Prelude.{option_map}
use Rattle.std.specs.Str.{bytes_eq}
use Rattle.std.specs.Cmp.{second_so}
use Rattle.std.specs.List.{range_with_len}
use Rattle.std.proofs.Math.Seq.{drop-nil}
use Rattle.std.proofs.lemmas.List.{get_or-replicate}
use Rattle.std.proofs.lemmas.List.FromFn.{length-map-range_with_len, get_or-map-range_with_len}
use Rattle.std.proofs.lemmas.Option.{slice_get-get_or}
use Rattle.vx_value.specs.Types as type
use Rattle.vx_value.specs.Types.{DataType, Fields, nullability_of}
use Rattle.vx_value.specs.Nested.{field_type, field_place}
use Rattle.vx_value.specs.Nullabilities.{with_nullability, union}
use Rattle.vx_value.specs.Values.{Value, Values, null, boolean, fields, item, no_values}
use Rattle.vx_value.specs.Cell.{Cell, value, fault}
use Rattle.vx_value.specs.declared.dtype.Nullability.{Nullability}
use Rattle.vx_value.specs.declared.dtype.Nullability.TheVariants.{NonNullable, Nullable}
use Rattle.vx_mask.specs.Places.{true_count, chosen}
use Rattle.vx_fn.specs.Apply.{apply}
use Rattle.vx_fn.specs.GetItem.{value_at_place}
use Rattle.vx_fn.specs.Meanings.{widened}
use Rattle.vx_fn.specs.ReturnTypes.{return_type}
use Rattle.vx_fn.specs.declared.function.ScalarFnRef.TheVariants as fn_of
use Rattle.vx_tree.specs.Tree as enc
use Rattle.vx_tree.specs.Tree.{Tree, Slots, node, no_slots, absent, slot, slots_of, dtype, len, slice_of, filter_of, fields_shapes, struct_row, last_tree}
use Rattle.vx_tree.specs.Layouts.{row_by_row}
use Rattle.vx_tree.specs.Cells.{rows, slots_rows, valid_cell, HasNoFault, IsClean, AreClean}
use Rattle.vx_tree.specs.Keeps.{CellKeeps, RowsKeep, Keeps, KeepsExactly}
use Rattle.vx_tree.specs.Well.{Shape, shape, shape_of, shapes, IsValidity, IsNode, IsWell, AreWell}
use Rattle.vx_tree.specs.declared.array.layout.Layout.TheVariants as layout
use Rattle.vx_tree.proofs.CellsLemmas.{rows_counted}
use Rattle.vx_tree.proofs.KeepsLemmas.{exactly_of_rows, no_fault_kept}
use Rattle.vx_tree.proofs.KindsLemmas.{type_in, len_in}
use Rattle.vx_tree.proofs.LayoutsLemmas.{cells_in, made_row, made_counted}
use Rattle.vx_tree.proofs.TypedLemmas.{CellFits, fit_at, rows_fit}
use Rattle.vx_rule.specs.Rules.{item_node, mask_node, field_in, validity_column}
use Rattle.vx_rule.proofs.FiltersLemmas.{filter_bounds, choice_natural, choice_count}
use Rattle.vx_rule.proofs.FunctionsLemmas.{one_argument}
use Rattle.vx_rule.proofs.MasksLemmas.{told_at, told_fits, told_clean}
use Rattle.vx_rule.proofs.PicksLemmas.{exactly_by, rows_are, IsSecond, first_of, masked_slots, function_picked}
use Rattle.vx_rule.proofs.RangesLemmas.{slice_bounds, part_natural, part_count}
use Rattle.vx_rule.proofs.StructRowsLemmas.{told_by, item_in, item_applied, item_row, are_slots, field_shape, field_cell, last_told, told_rows, one_cell}

-- ---- a field of a struct has a value where the struct has one

item_there : (name : List ℕ) (fs : Fields) (m : Nullability) (vs : Values) (t : DataType) → field_type name fs ≡ Some t
    → CellFits (type.struct fs m) (value (fields vs))
    → (w : Value) × (value_at_place (field_place name fs) vs ≡ value w)
item_there name type.no_fields m vs t e h = absurd (cc)
item_there name (type.field other u fs) m no_values t e h = absurd (cc (h))
item_there name (type.field other u fs) m (item v vs) t e h =
    by_test (bytes_eq name other) (λ e. item_there name fs m vs t e (second_so _ _ h)) e
  where
    later_place : (o : Option ℕ) → value_at_place (option_map suc o) (item v vs) ≡ value_at_place o vs
    later_place (Some place) = refl
    later_place None = refl

    by_test : (b : Bool) → (field_type name fs ≡ Some t → (w : Value) × (value_at_place (field_place name fs) vs ≡ value w))
        → (if b then Some u else field_type name fs) ≡ Some t
        → (w : Value) × (value_at_place (if b then Some 0 else option_map suc (field_place name fs)) (item v vs) ≡ value w)
    by_test true later e = (v, refl)
    by_test false later e = let there = later e in (there.0, later_place (field_place name fs) ∙ there.1)

-- the value of a cell that has one
item_of_value : (name : List ℕ) (fs : Fields) (m : Nullability) (x : Value) (t : DataType) → field_type name fs ≡ Some t
    → CellFits (type.struct fs m) (value x)
    → (w : Value) × (item_in name fs (value x) ≡ value w)
item_of_value name fs m null t e h = (null, refl)
item_of_value name fs m (fields vs) t e h = item_there name fs m vs t e h
item_of_value name fs m _ t e h = absurd (cc (h))

-- the argument of `get_item` is a struct with such a field
abbrev HasField : List ℕ → DataType → DataType → Type 0
HasField name s ty =
    (fs : Fields) × (m : Nullability) × (t : DataType) × (s ≡ type.struct fs m) × (field_type name fs ≡ Some t) × (ty ≡ with_nullability (union m (nullability_of t)) t)

has_field : (name : List ℕ) (s ty : DataType) → return_type (fn_of.GetItem name) (s ∷ []) ≡ Some ty → HasField name s ty
has_field name (type.struct fs m) ty e = by_type (field_type name fs) refl e
  where
    by_type : (o : Option DataType) → field_type name fs ≡ o → widened (type.struct fs m) o ≡ Some ty → HasField name (type.struct fs m) ty
    by_type None there e = absurd (cc)
    by_type (Some t) there e = (fs, m, t, refl, there, (let same : ty ≡ with_nullability (union m (nullability_of t)) t = cc in same))
has_field name _ ty e = absurd (cc)

-- ---- rows without faults

fine_more : (c : Cell) (cs : List Cell) → HasNoFault (c ∷ []) → HasNoFault cs → HasNoFault (c ∷ cs)
fine_more (value v) cs h k = k
fine_more fault cs h k = absurd h

fine_from : (s n : ℕ) (f : ℕ → Cell) → ((i : ℕ) → i < n → HasNoFault (f (s + i) ∷ [])) → HasNoFault (map f (range_with_len s n))
fine_from s zero f h = tt
fine_from s (suc n) f h =
    let here : s + 0 ≡ s = omega arith in
    fine_more (f s) (map f (range_with_len (s + 1) n)) (subst (λ j. HasNoFault (f j ∷ [])) here (h 0 (omega arith)))
    (fine_from (s + 1) n f (λ i lt. let e : s + suc i ≡ s + 1 + i = omega arith in subst (λ j. HasNoFault (f j ∷ [])) e (h (suc i) (omega (arith, lt)))))

fine_rows : (n : ℕ) (f : ℕ → Cell) → ((i : ℕ) → i < n → HasNoFault (f i ∷ [])) → HasNoFault (map f (range_with_len 0 n))
fine_rows n f h = fine_from 0 n f (λ i lt. let e : 0 + i ≡ i = omega arith in subst (λ j. HasNoFault (f j ∷ [])) (sym e) (h i lt))

fine_at : (cs : List Cell) (i : ℕ) → HasNoFault cs → i < length cs → HasNoFault (get_or cs i fault ∷ [])
fine_at [] i h lt = absurd (omega (arith, lt))
fine_at (value v ∷ cs) zero h lt = tt
fine_at (value v ∷ cs) (suc i) h lt = fine_at cs i h (omega (arith, lt))
fine_at (fault ∷ cs) i h lt = absurd h

-- ---- the node of `get_item` over c

module _ (name : List ℕ) (ty : DataType) (n : ℕ) (c : Tree) (w : IsWell (item_node name ty n c)) where
  pub item_typed : return_type (fn_of.GetItem name) (dtype c ∷ []) ≡ Some ty
  item_typed = subst (λ tys. return_type (fn_of.GetItem name) tys ≡ Some ty) (one_argument n w.0.0 c w.0.1) w.0.2

  pub item_long : len c ≡ n
  item_long = long_of w.0.0 w.0.1
    where
      long_of : (tys : List DataType) → shapes (slot c no_slots) ≡ map (λ s. Some (shape s n)) tys → len c ≡ n
      long_of [] e = absurd (cc)
      long_of (s ∷ tys) e = let is : shape_of c ≡ shape s n = cc in ap len_in is

-- one of a tree of this type is well formed
pub item_well : (name : List ℕ) (s : DataType) (c : Tree) → return_type (fn_of.GetItem name) (dtype c ∷ []) ≡ Some s → IsWell c
    → IsWell (item_node name s (len c) c)
item_well name s c e w = ((dtype c ∷ [], refl, e), (w, tt))

-- the field of a clean tree is clean
item_clean : (name : List ℕ) (s : DataType) (n : ℕ) (c : Tree) → return_type (fn_of.GetItem name) (dtype c ∷ []) ≡ Some s → len c ≡ n → IsWell c → IsClean c
    → IsClean (item_node name s n c)
item_clean name s n c e long w clean =
    let field = has_field name (dtype c) s e in
    (fine_rows n (λ i. apply (fn_of.GetItem name) (dtype c ∷ []) s (get_or (rows c) i fault ∷ [])) (at field), (clean, tt))
  where
    by_cell : (fs : Fields) (m : Nullability) (t : DataType) → field_type name fs ≡ Some t → (x : Cell) → CellFits (type.struct fs m) x → HasNoFault (x ∷ [])
        → HasNoFault (apply (fn_of.GetItem name) (type.struct fs m ∷ []) s (x ∷ []) ∷ [])
    by_cell fs m t there (value x) fit fine =
        let found = item_of_value name fs m x t there fit in
        subst (λ y. HasNoFault (y ∷ [])) (sym (item_applied name fs m s (value x) ∙ found.1)) tt
    by_cell fs m t there fault fit fine = absurd fine

    no_fault : HasNoFault (rows c)
    no_fault = own_rows c clean
      where
        own_rows : (t : Tree) → IsClean t → HasNoFault (rows t)
        own_rows (node ty n d ss) h = h.0

    at : HasField name (dtype c) s → (i : ℕ) → i < n → HasNoFault (apply (fn_of.GetItem name) (dtype c ∷ []) s (get_or (rows c) i fault ∷ []) ∷ [])
    at field i lt =
        let fs = field.0 in
        let m = field.1 in
        let is : dtype c ≡ type.struct fs m = field.3 in
        let fine = fine_at (rows c) i no_fault (omega (arith, lt, rows_counted c w, long)) in
        subst (λ y. HasNoFault (apply (fn_of.GetItem name) (y ∷ []) s (get_or (rows c) i fault ∷ []) ∷ [])) (sym is)
        (by_cell fs m field.2 field.4 (get_or (rows c) i fault) (subst (λ y. CellFits y (get_or (rows c) i fault)) is (fit_at (dtype c) (rows c) i (rows_fit c w))) fine)

-- ---- of a filter, and of a slice

pub G1_keeps : (ty fty : DataType) (n k : ℕ) (name : List ℕ) (bits : List Bool) (c : Tree)
    → IsWell (item_node name ty n (node fty k (enc.filter bits) (slot c no_slots)))
    → KeepsExactly (item_node name ty n (node fty k (enc.filter bits) (slot c no_slots))) (filter_of bits (item_node name ty (len c) c))
G1_keeps ty fty n k name bits c w =
    let child = node fty k (enc.filter bits) (slot c no_slots) in
    let bounds = filter_bounds fty k bits c w.1.0.0 in
    let below = w.1.0.1.0 in
    let typed : return_type (fn_of.GetItem name) (dtype c ∷ []) ≡ Some ty =
    subst (λ s. return_type (fn_of.GetItem name) (s ∷ []) ≡ Some ty) bounds.0 (item_typed name ty n child w) in
    let counted : n ≡ true_count bits = sym (item_long name ty n child w) ∙ bounds.1 in
    let lifted = filter_of bits (item_node name ty (len c) c) in
    let plain = item_node name ty (true_count bits) (filter_of bits c) in
    let shown : rows lifted ≡ rows plain =
    function_picked (chosen bits) (chosen bits) (choice_natural bits) (len c) (true_count bits) (choice_count bits (len c) bounds.2) (filter_of bits)
    (λ t well long. refl) (λ t well long. refl) (fn_of.GetItem name) ty (slot c no_slots) (item_well name ty c typed below) in
    subst (λ t. KeepsExactly t lifted) (λ i. item_node name ty (sym counted i) (node (sym bounds.0 i) (sym bounds.1 i) (enc.filter bits) (slot c no_slots)))
    (exactly_by plain lifted refl refl (sym shown)
    (λ d. (subst HasNoFault (sym shown) d.0, (item_clean name ty (len c) c typed refl below d.1.0.1.0, tt))))

pub G2_keeps : (ty sty : DataType) (n k a b : ℕ) (name : List ℕ) (c : Tree)
    → IsWell (item_node name ty n (node sty k (enc.slice a b) (slot c no_slots)))
    → KeepsExactly (item_node name ty n (node sty k (enc.slice a b) (slot c no_slots))) (slice_of a b (item_node name ty (len c) c))
G2_keeps ty sty n k a b name c w =
    let child = node sty k (enc.slice a b) (slot c no_slots) in
    let bounds = slice_bounds sty k a b c w.1.0.0 in
    let below = w.1.0.1.0 in
    let typed : return_type (fn_of.GetItem name) (dtype c ∷ []) ≡ Some ty =
    subst (λ s. return_type (fn_of.GetItem name) (s ∷ []) ≡ Some ty) bounds.0 (item_typed name ty n child w) in
    let counted : n ≡ b - a = sym (item_long name ty n child w) ∙ bounds.1 in
    let lifted = slice_of a b (item_node name ty (len c) c) in
    let plain = item_node name ty (b - a) (slice_of a b c) in
    let shown : rows lifted ≡ rows plain =
    function_picked (λ is. take (b - a) (drop a is)) (λ cs. take (b - a) (drop a cs)) (part_natural a b) (len c) (b - a)
    (part_count a b (len c) bounds.2 bounds.3) (slice_of a b)
    (λ t well long. refl) (λ t well long. refl) (fn_of.GetItem name) ty (slot c no_slots) (item_well name ty c typed below) in
    subst (λ t. KeepsExactly t lifted) (λ i. item_node name ty (sym counted i) (node (sym bounds.0 i) (sym bounds.1 i) (enc.slice a b) (slot c no_slots)))
    (exactly_by plain lifted refl refl (sym shown)
    (λ d. (subst HasNoFault (sym shown) d.0, (item_clean name ty (len c) c typed refl below d.1.0.1.0, tt))))

-- ---- of a masked array

mask_true : (tys : List DataType) (ty : DataType) (x : Cell) → x ≡ apply fn_of.Mask tys ty (x ∷ value (boolean true) ∷ [])
mask_true tys ty (value x) = refl
mask_true tys ty fault = refl

mask_fault : (tys : List DataType) (ty : DataType) (x : Cell) → fault ≡ apply fn_of.Mask tys ty (x ∷ fault ∷ [])
mask_fault tys ty (value x) = refl
mask_fault tys ty fault = refl

-- masking a struct masks its fields
masked_item : (name : List ℕ) (fs : Fields) (m : Nullability) (t : DataType) (tys : List DataType) (ty : DataType) → field_type name fs ≡ Some t
    → (v c : Cell) → CellFits (type.bool NonNullable) v → CellFits (type.struct fs m) c
    → item_in name fs (valid_cell v c) ≡ apply fn_of.Mask tys ty (item_in name fs c ∷ v ∷ [])
masked_item name fs m t tys ty e (value (boolean true)) c h k = mask_true tys ty (item_in name fs c)
masked_item name fs m t tys ty e (value (boolean false)) (value x) h k =
    let found = item_of_value name fs m x t e k in
    sym (ap (λ y. apply fn_of.Mask tys ty (y ∷ value (boolean false) ∷ [])) found.1)
masked_item name fs m t tys ty e (value (boolean false)) fault h k = refl
masked_item name fs m t tys ty e (value null) c h k = absurd (cc (h))
masked_item name fs m t tys ty e (value _) c h k = absurd (cc (h))
masked_item name fs m t tys ty e fault c h k = mask_fault tys ty (item_in name fs c)

pub G3_keeps : (ty mty s : DataType) (n k : ℕ) (name : List ℕ) (c : Tree) (vs : Slots)
    → IsWell (item_node name ty n (node mty k enc.masked (slot c vs))) → return_type (fn_of.GetItem name) (dtype c ∷ []) ≡ Some s
    → KeepsExactly (item_node name ty n (node mty k enc.masked (slot c vs))) (mask_node ty n (item_node name s n c) (validity_column n vs))
G3_keeps ty mty s n k name c vs w e =
    let child = node mty k enc.masked (slot c vs) in
    let truth = validity_column n vs in
    let same : k ≡ n = item_long name ty n child w in
    let parts = masked_slots mty k c vs w.1.0.0 in
    let second : IsSecond n vs = subst (λ l. IsSecond l vs) same parts.1 in
    let well = w.1.0.1.0 in
    let wells = w.1.0.1.1 in
    let long : len c ≡ n = parts.0 ∙ same in
    let rows_long : length (rows c) ≡ n = rows_counted c well ∙ long in
    let field = has_field name (dtype c) s e in
    let fs = field.0 in
    let inner : dtype c ≡ w.1.0.0.0 = ap type_in (first_of w.1.0.0.2) in
    let outer : mty ≡ type.struct fs Nullable = w.1.0.0.3 ∙ ap (with_nullability Nullable) (sym inner ∙ field.3) in
    let tys = s ∷ dtype truth ∷ [] in
    let item = λ (i : ℕ). apply (fn_of.GetItem name) (dtype c ∷ []) s (get_or (rows c) i fault ∷ []) in
    let before = λ (i : ℕ). apply (fn_of.GetItem name) (mty ∷ []) ty (get_or (rows child) i fault ∷ []) in
    let after = λ (i : ℕ). apply fn_of.Mask tys ty (get_or (rows (item_node name s n c)) i fault ∷ get_or (rows truth) i fault ∷ []) in
    let item_is = λ (i : ℕ) (lt : i < n).
    ap (λ y. apply (fn_of.GetItem name) (y ∷ []) s (get_or (rows c) i fault ∷ [])) (sym field.3) in
    let at = λ (i : ℕ) (lt : i < n).
    (λ j. apply (fn_of.GetItem name) (outer j ∷ []) ty (told_at n vs (rows c) i wells second rows_long lt j ∷ []))
    ∙ item_applied name fs Nullable ty (valid_cell (get_or (rows truth) i fault) (get_or (rows c) i fault))
    ∙ masked_item name fs field.1 field.2 tys ty field.4 (get_or (rows truth) i fault) (get_or (rows c) i fault) (told_fits n vs i wells second lt)
    (subst (λ y. CellFits y (get_or (rows c) i fault)) field.3 (fit_at (dtype c) (rows c) i (rows_fit c well)))
    ∙ ap (λ x. apply fn_of.Mask tys ty (x ∷ get_or (rows truth) i fault ∷ []))
    (sym (item_applied name fs field.1 s (get_or (rows c) i fault)) ∙ item_is i lt
    ∙ sym (get_or-map-range_with_len item 0 n i i fault lt (omega arith))) in
    let shown : rows (item_node name ty n child) ≡ rows (mask_node ty n (item_node name s n c) truth) =
    rows_are before n (map after (range_with_len 0 n)) (length-map-range_with_len after 0 n)
    (λ i lt. at i lt ∙ sym (get_or-map-range_with_len after 0 n i i fault lt (omega arith))) in
    exactly_of_rows ty n (enc.function (fn_of.GetItem name)) (enc.function fn_of.Mask) (slot child no_slots) (slot (item_node name s n c) (slot truth no_slots)) shown
    (λ d. (item_clean name s n c e long well d.0.1.0, (told_clean n vs d.0.1.1, tt)))

-- ---- of a column of structs

own_nullability : (t : DataType) → with_nullability (nullability_of t) t ≡ t
own_nullability (type.extension id t) = ap (type.extension id) (own_nullability t)
own_nullability _ = refl

-- its slots: those of the fields, and the validity
abbrev AreFieldsOf : Fields → Nullability → ℕ → Slots → Type 0
AreFieldsOf fs m n ss = (v : Option Shape) × (shapes ss ≡ fields_shapes n fs ++ v ∷ []) × IsValidity m n v

fields_of_node : (fs : Fields) (m : Nullability) (n : ℕ) (ss : Slots) → IsNode (type.struct fs m) n (enc.composed layout.Struct) (shapes ss) → AreFieldsOf fs m n ss
fields_of_node fs m n ss h =
    let fields : h.0 ≡ fs = cc in
    let nulls : h.1 ≡ m = cc in
    (h.2, h.4 ∙ ap (λ gs. fields_shapes n gs ++ h.2 ∷ []) fields, subst (λ l. IsValidity l n h.2) nulls h.5)

pub last_shape : (n : ℕ) (fs : Fields) (v : Option Shape) (ss : Slots) → shapes ss ≡ fields_shapes n fs ++ v ∷ [] → option_map shape_of (last_tree ss) ≡ v
last_shape n type.no_fields v no_slots e = absurd (cc)
last_shape n type.no_fields v (absent no_slots) e = cc
last_shape n type.no_fields v (absent (absent ss)) e = absurd (cc)
last_shape n type.no_fields v (absent (slot u ss)) e = absurd (cc)
last_shape n type.no_fields v (slot t no_slots) e = cc
last_shape n type.no_fields v (slot t (absent ss)) e = absurd (cc)
last_shape n type.no_fields v (slot t (slot u ss)) e = absurd (cc)
last_shape n (type.field name t fs) v no_slots e = absurd (cc)
last_shape n (type.field name t fs) v (absent ss) e = absurd (cc)
last_shape n (type.field name t fs) v (slot u no_slots) e = absurd (empty_field fs (let rest : [] ≡ fields_shapes n fs ++ v ∷ [] = cc in rest))
  where
    empty_field : (fs : Fields) → [] ≡ fields_shapes n fs ++ v ∷ [] → ⊥
    empty_field type.no_fields e = absurd (cc)
    empty_field (type.field name t fs) e = absurd (cc)
last_shape n (type.field name t fs) v (slot u (absent ss)) e = last_shape n fs v (absent ss) (let rest : shapes (absent ss) ≡ fields_shapes n fs ++ v ∷ [] = cc in rest)
last_shape n (type.field name t fs) v (slot u (slot x ss)) e = last_shape n fs v (slot x ss) (let rest : shapes (slot x ss) ≡ fields_shapes n fs ++ v ∷ [] = cc in rest)

-- what holds of the trees in all slots holds of the last, and of a field's
pub last_well : (ss : Slots) → AreWell ss → AreWell (slots_of (last_tree ss ∷ []))
last_well no_slots w = tt
last_well (absent no_slots) w = tt
last_well (absent (absent ss)) w = last_well (absent ss) w
last_well (absent (slot t ss)) w = last_well (slot t ss) w
last_well (slot t no_slots) w = (w.0, tt)
last_well (slot t (absent ss)) w = last_well (absent ss) w.1
last_well (slot t (slot u ss)) w = last_well (slot u ss) w.1

last_clean : (ss : Slots) → AreClean ss → AreClean (slots_of (last_tree ss ∷ []))
last_clean no_slots c = tt
last_clean (absent no_slots) c = tt
last_clean (absent (absent ss)) c = last_clean (absent ss) c
last_clean (absent (slot t ss)) c = last_clean (slot t ss) c
last_clean (slot t no_slots) c = (c.0, tt)
last_clean (slot t (absent ss)) c = last_clean (absent ss) c.1
last_clean (slot t (slot u ss)) c = last_clean (slot u ss) c.1

module _ (name : List ℕ) where
  field_well : (fs : Fields) (ss : Slots) (c : Tree) → field_in name fs ss ≡ Some c → AreWell ss → IsWell c
  field_well type.no_fields ss c e w = absurd (cc)
  field_well (type.field other t fs) no_slots c e w = absurd (cc)
  field_well (type.field other t fs) (absent ss) c e w = absurd (cc)
  field_well (type.field other t fs) (slot u ss) c e w = by_test (bytes_eq name other) (λ e. field_well fs ss c e w.1) e
    where
      by_test : (b : Bool) → (field_in name fs ss ≡ Some c → IsWell c) → (if b then Some u else field_in name fs ss) ≡ Some c → IsWell c
      by_test true later e = let same : u ≡ c = cc in subst IsWell same w.0
      by_test false later e = later e

  field_clean : (fs : Fields) (ss : Slots) (c : Tree) → field_in name fs ss ≡ Some c → AreClean ss → IsClean c
  field_clean type.no_fields ss c e d = absurd (cc)
  field_clean (type.field other t fs) no_slots c e d = absurd (cc)
  field_clean (type.field other t fs) (absent ss) c e d = absurd (cc)
  field_clean (type.field other t fs) (slot u ss) c e d = by_test (bytes_eq name other) (λ e. field_clean fs ss c e d.1) e
    where
      by_test : (b : Bool) → (field_in name fs ss ≡ Some c → IsClean c) → (if b then Some u else field_in name fs ss) ≡ Some c → IsClean c
      by_test true later e = let same : u ≡ c = cc in subst IsClean same d.0
      by_test false later e = later e

-- rows that keep what a function of their places gives
kept_from : (s : ℕ) (f : ℕ → Cell) (ds : List Cell) → ((i : ℕ) → i < length ds → CellKeeps (f (s + i)) (get_or ds i fault))
    → RowsKeep (map f (range_with_len s (length ds))) ds
kept_from s f [] h = tt
kept_from s f (d ∷ ds) h =
    let here : s + 0 ≡ s = omega arith in (
      subst (λ j. CellKeeps (f j) d) here (h 0 (omega arith)),
      kept_from (s + 1) f ds (λ i lt. let e : s + suc i ≡ s + 1 + i = omega arith in subst (λ j. CellKeeps (f j) (get_or ds i fault)) e (h (suc i) (omega (arith, lt)))),
    )

kept_rows : (n : ℕ) (f : ℕ → Cell) (ds : List Cell) → length ds ≡ n → ((i : ℕ) → i < n → CellKeeps (f i) (get_or ds i fault))
    → RowsKeep (map f (range_with_len 0 n)) ds
kept_rows n f ds long h =
    subst (λ m. RowsKeep (map f (range_with_len 0 m)) ds) long
    (kept_from 0 f ds (λ i lt. let e : 0 + i ≡ i = omega arith in subst (λ j. CellKeeps (f j) (get_or ds i fault)) (sym e) (h i (omega (arith, lt, long)))))

-- the field in each row, null if the validity says so
item_kept : (name : List ℕ) (ty : DataType) (n i : ℕ) (fs : Fields) (m : Nullability) (ss : Slots) (c : Tree) → field_in name fs ss ≡ Some c → AreFieldsOf fs m n ss
    → IsWell c → i < n
    → CellKeeps (apply (fn_of.GetItem name) (type.struct fs m ∷ []) ty (get_or (row_by_row struct_row n (slots_rows ss)) i fault ∷ []))
    (told_by (take 1 (drop i (told_rows (last_tree ss)))) (get_or (rows c) i fault))
item_kept name ty n i fs m ss c e are well lt =
    let css = slots_rows ss in
    let there = slice_get-get_or (row_by_row struct_row n css) i fault (subst (λ k. i < k) (sym (made_counted struct_row n css)) lt) in
    let made = made_row struct_row n i css lt in
    let row_is : get_or (row_by_row struct_row n css) i fault ≡ struct_row (cells_in i css) = cc in
    let sized : len c ≡ n = (field_shape name n fs are.0 ss c e are.1).1 in
    let within : i < length (rows c) = omega (arith, lt, rows_counted c well, sized) in
    let kept = item_row name fs (cells_in i css) (get_or (rows c) i fault) (are_slots n i fs are.0 ss are.1) (field_cell name i fs ss c e within) in
    let given : apply (fn_of.GetItem name) (type.struct fs m ∷ []) ty (get_or (row_by_row struct_row n css) i fault ∷ []) ≡ item_in name fs (struct_row (cells_in i css)) =
    ap (λ x. apply (fn_of.GetItem name) (type.struct fs m ∷ []) ty (x ∷ [])) row_is ∙ item_applied name fs m ty (struct_row (cells_in i css)) in
    subst (λ x. CellKeeps x (told_by (take 1 (drop i (told_rows (last_tree ss)))) (get_or (rows c) i fault))) (sym given)
    (subst (λ ws. CellKeeps (item_in name fs (struct_row (cells_in i css))) (told_by ws (get_or (rows c) i fault))) (last_told i ss) kept)

module _ (ty : DataType) (n k : ℕ) (name : List ℕ) (fs : Fields) (m : Nullability) (ss : Slots) (c : Tree) (found : field_in name fs ss ≡ Some c)
    (w : IsWell (item_node name ty n (node (type.struct fs m) k (enc.composed layout.Struct) ss))) where
  abbrev structs : Tree
  structs = node (type.struct fs m) k (enc.composed layout.Struct) ss

  long : k ≡ n
  long = item_long name ty n structs w

  pub are : AreFieldsOf fs m n ss
  are = subst (λ j. AreFieldsOf fs m j ss) long (fields_of_node fs m k ss w.1.0.0)

  well : IsWell c
  well = field_well name fs ss c found w.1.0.1

  pub shape_is : (field_type name fs ≡ Some (dtype c)) × (len c ≡ n)
  shape_is = field_shape name n fs are.0 ss c found are.1

  -- the result's type
  pub result_type : ty ≡ with_nullability (union m (nullability_of (dtype c))) (dtype c)
  result_type =
      let typed = item_typed name ty n structs w in
      let given : widened (type.struct fs m) (Some (dtype c)) ≡ Some ty = ap (widened (type.struct fs m)) (sym shape_is.0) ∙ typed in
      cc

  row_kept : (i : ℕ) → i < n → CellKeeps (apply (fn_of.GetItem name) (type.struct fs m ∷ []) ty (get_or (rows structs) i fault ∷ []))
      (told_by (take 1 (drop i (told_rows (last_tree ss)))) (get_or (rows c) i fault))
  row_kept i lt =
      subst (λ j. CellKeeps (apply (fn_of.GetItem name) (type.struct fs m ∷ []) ty (get_or (row_by_row struct_row j (slots_rows ss)) i fault ∷ []))
      (told_by (take 1 (drop i (told_rows (last_tree ss)))) (get_or (rows c) i fault))) (sym long) (item_kept name ty n i fs m ss c found are well lt)

pub G4_keeps : (ty : DataType) (n k : ℕ) (name : List ℕ) (fs : Fields) (ss : Slots) (c : Tree) → field_in name fs ss ≡ Some c
    → IsWell (item_node name ty n (node (type.struct fs NonNullable) k (enc.composed layout.Struct) ss))
    → Keeps (item_node name ty n (node (type.struct fs NonNullable) k (enc.composed layout.Struct) ss)) c
G4_keeps ty n k name fs ss c found w =
    let structs = node (type.struct fs NonNullable) k (enc.composed layout.Struct) ss in
    let here = are ty n k name fs NonNullable ss c found w in
    let sized = shape_is ty n k name fs NonNullable ss c found w in
    let unmasked : last_tree ss ≡ None = absent_validity here.0 (last_tree ss) (last_shape n fs here.0 ss here.1) here.2 in
    let kept = λ (i : ℕ) (lt : i < n).
    subst (λ v. CellKeeps (apply (fn_of.GetItem name) (type.struct fs NonNullable ∷ []) ty (get_or (rows structs) i fault ∷ []))
    (told_by (take 1 (drop i (told_rows v))) (get_or (rows c) i fault))) unmasked (row_kept ty n k name fs NonNullable ss c found w i lt) in
    record {
      same_type = result_type ty n k name fs NonNullable ss c found w ∙ own_nullability (dtype c);
      same_len = sym sized.1;
      same_rows =
          kept_rows n (λ i. apply (fn_of.GetItem name) (type.struct fs NonNullable ∷ []) ty (get_or (rows structs) i fault ∷ [])) (rows c)
          (rows_counted c (well ty n k name fs NonNullable ss c found w) ∙ sized.1)
          (λ i lt. subst (λ cs. CellKeeps (apply (fn_of.GetItem name) (type.struct fs NonNullable ∷ []) ty (get_or (rows structs) i fault ∷ []))
          (told_by (take 1 cs) (get_or (rows c) i fault))) (drop-nil i) (kept i lt));
      still_clean = λ d. field_clean name fs ss c found d.1.0.1;
    }
  where
    absent_validity : (v : Option Shape) (x : Option Tree) → option_map shape_of x ≡ v → IsValidity NonNullable n v → x ≡ None
    absent_validity v None e h = refl
    absent_validity None (Some u) e h = absurd (cc)
    absent_validity (Some s) (Some u) e h = absurd h

-- a cell by a validity's cell is its mask
valid_as_mask : (tys : List DataType) (ty : DataType) (v c : Cell) → CellFits (type.bool NonNullable) v → valid_cell v c ≡ apply fn_of.Mask tys ty (c ∷ v ∷ [])
valid_as_mask tys ty (value (boolean true)) c h = mask_true tys ty c
valid_as_mask tys ty (value (boolean false)) (value x) h = refl
valid_as_mask tys ty (value (boolean false)) fault h = refl
valid_as_mask tys ty (value null) c h = absurd (cc (h))
valid_as_mask tys ty (value _) c h = absurd (cc (h))
valid_as_mask tys ty fault c h = mask_fault tys ty c

-- the validity's cell in row i, true if there is no validity
told_as_valid : (n i : ℕ) (v : Option Tree) (c : Cell) → AreWell (slots_of (v ∷ [])) → IsSecond n (slots_of (v ∷ [])) → i < n
    → told_by (take 1 (drop i (told_rows v))) c ≡ valid_cell (get_or (rows (validity_column n (slots_of (v ∷ [])))) i fault) c
told_as_valid n i None c w h lt =
    ap (λ cs. told_by (take 1 cs) c) (drop-nil i) ∙ sym (ap (λ x. valid_cell x c) (get_or-replicate n i (value (boolean true)) fault lt))
told_as_valid n i (Some u) c w h lt =
    ap (λ ws. told_by ws c) (one_cell (rows u) i (omega (arith, lt, rows_counted u w.0, ap len_in h)))

-- the validity of nullable structs of n rows
pub second_by : (n : ℕ) (v : Option Shape) (x : Option Tree) → option_map shape_of x ≡ v → IsValidity Nullable n v → IsSecond n (slots_of (x ∷ []))
second_by n v None e h = tt
second_by n None (Some u) e h = absurd (cc)
second_by n (Some s) (Some u) e h = let same : shape_of u ≡ s = cc in same ∙ h

pub G4_masked_keeps : (ty : DataType) (n k : ℕ) (name : List ℕ) (fs : Fields) (ss : Slots) (c : Tree) → field_in name fs ss ≡ Some c
    → IsWell (item_node name ty n (node (type.struct fs Nullable) k (enc.composed layout.Struct) ss))
    → Keeps (item_node name ty n (node (type.struct fs Nullable) k (enc.composed layout.Struct) ss))
    (mask_node ty n c (validity_column n (slots_of (last_tree ss ∷ []))))
G4_masked_keeps ty n k name fs ss c found w =
    let structs = node (type.struct fs Nullable) k (enc.composed layout.Struct) ss in
    let vs = slots_of (last_tree ss ∷ []) in
    let truth = validity_column n vs in
    let here = are ty n k name fs Nullable ss c found w in
    let wells : AreWell vs = last_well ss w.1.0.1 in
    let second : IsSecond n vs = second_by n here.0 (last_tree ss) (last_shape n fs here.0 ss here.1) here.2 in
    let tys = dtype c ∷ dtype truth ∷ [] in
    let before = λ (i : ℕ). apply (fn_of.GetItem name) (type.struct fs Nullable ∷ []) ty (get_or (rows structs) i fault ∷ []) in
    let after = λ (i : ℕ). apply fn_of.Mask tys ty (get_or (rows c) i fault ∷ get_or (rows truth) i fault ∷ []) in
    let masked = λ (i : ℕ) (lt : i < n).
    told_as_valid n i (last_tree ss) (get_or (rows c) i fault) wells second lt
    ∙ valid_as_mask tys ty (get_or (rows truth) i fault) (get_or (rows c) i fault) (told_fits n vs i wells second lt)
    ∙ sym (get_or-map-range_with_len after 0 n i i fault lt (omega arith)) in
    let kept : RowsKeep (map before (range_with_len 0 n)) (map after (range_with_len 0 n)) =
    kept_rows n before (map after (range_with_len 0 n)) (length-map-range_with_len after 0 n)
    (λ i lt. subst (CellKeeps (before i)) (masked i lt) (row_kept ty n k name fs Nullable ss c found w i lt)) in
    record {
      same_type = refl;
      same_len = refl;
      same_rows = kept;
      still_clean = λ d. (
        no_fault_kept (map before (range_with_len 0 n)) (map after (range_with_len 0 n)) kept d.0,
        (field_clean name fs ss c found d.1.0.1, (told_clean n vs (last_clean ss d.1.0.1), tt)),
      );
    }
