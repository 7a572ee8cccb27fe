-- What a filter of a column of structs and a struct of arguments keep: F4 and P1.
use Rattle.std.proofs.Common.{◌≡◌, ℕ, suc, List, [], ◌∷◌, ◌++◌, length, map, Bool, true, false, if◌then◌else◌, Option, Some, None, refl, sym, ap, subst, get_or, ◌<◌, ◌∙◌, arith}
use Rattle.std.specs.Prelude.{◌==◌, option_map}
use Rattle.std.specs.Str.{bytes_eq}
use Rattle.vx_value.specs.Types as type
use Rattle.vx_value.specs.Types.{DataType, Fields, nullability_of}
use Rattle.vx_value.specs.Nullabilities.{with_nullability}
use Rattle.vx_value.specs.declared.dtype.Nullability.TheVariants.{Nullable}
use Rattle.vx_value.specs.Nested.{are_fields, field_type, field_place}
use Rattle.vx_value.specs.declared.dtype.Nullability.{Nullability}
use Rattle.vx_mask.specs.Places.{true_count}
use Rattle.vx_fn.specs.Apply.{apply}
use Rattle.vx_fn.specs.Meanings.{widened}
use Rattle.vx_fn.specs.ReturnTypes.{return_type}
use Rattle.vx_fn.proofs.GetItemLemmas.{no_place}
use Rattle.vx_fn.specs.Pack.{fields_with, pack_type, on_named}
use Rattle.vx_fn.specs.declared.function.ScalarFnRef.TheVariants as fn_of
use Rattle.vx_fn.specs.declared.functions.pack.PackOptions.{PackOptions}
use Rattle.vx_tree.specs.Tree as enc
use Rattle.vx_tree.specs.Tree.{Tree, Slots, node, no_slots, absent, slot, slots, slots_of, dtype, len, datum, is_struct, IsStruct, all_long, last_tree, fields_shapes, struct_row, types_in}
use Rattle.vx_tree.specs.Slots.{map_slots}
use Rattle.vx_tree.specs.Parts.{choice_of}
use Rattle.vx_tree.specs.Layouts.{row_by_row}
use Rattle.vx_tree.specs.Cells.{slots_rows, row_at, AreClean}
use Rattle.vx_tree.specs.Keeps.{KeepsExactly}
use Rattle.vx_tree.specs.Well.{Shape, shape, shapes, IsNode, IsWell, AreWell}
use Rattle.vx_tree.specs.Validities.{HasRows}
use Rattle.vx_tree.specs.declared.validity.Validity.TheVariants as validity
use Rattle.vx_tree.specs.declared.array.layout.Layout.TheVariants as layout
use Rattle.vx_tree.proofs.ComposedLemmas.{composed_choice, composed_long}
use Rattle.vx_tree.proofs.KeepsLemmas.{exactly_of_rows}
use Rattle.vx_tree.proofs.KindsLemmas.{type_in, len_in}
use Rattle.vx_tree.proofs.LayoutsLemmas.{made_counted}
use Rattle.vx_tree.proofs.StructLemmas.{last_is}
use Rattle.vx_rule.specs.Calls.{IsCallOf}
use Rattle.vx_rule.specs.Items.{HasItem, IsFieldColumn}
use Rattle.vx_rule.specs.Rules.{structs_at, with_absent, field_in, item_node, validity_column}
use Rattle.vx_rule.proofs.FiltersLemmas.{of_filter}
use Rattle.vx_rule.proofs.ItemsLemmas.{are, shape_is, result_type, last_shape, last_well, second_by}
use Rattle.vx_rule.proofs.ItemNodesLemmas.{given_long}
use Rattle.vx_rule.proofs.PicksLemmas.{rows_are, slots_long, IsSecond}
use Rattle.vx_rule.proofs.StructRowsLemmas.{packed_at, absent_shapes}

pub F4_keeps : (ty sty : DataType) (n k : ℕ) (bits : List Bool) (ss : Slots)
    → IsWell (node ty n (enc.filter bits) (slot (node sty k (enc.composed layout.Struct) ss) no_slots))
    → KeepsExactly (node ty n (enc.filter bits) (slot (node sty k (enc.composed layout.Struct) ss) no_slots)) (structs_at bits sty ss)
F4_keeps ty sty n k bits ss w =
    of_filter ty n bits (node sty k (enc.composed layout.Struct) ss) (structs_at bits sty ss) w
    (λ long. (composed_choice layout.Struct sty k bits ss w.1.0 long).1)

-- ---- a struct of arguments

absent_clean : (ss : Slots) → AreClean ss → AreClean (with_absent ss)
absent_clean no_slots c = tt
absent_clean (absent ss) c = absent_clean ss c
absent_clean (slot t ss) c = (c.0, absent_clean ss c.1)

pub P1_keeps : (ty : DataType) (n : ℕ) (options : PackOptions) (ss : Slots) → IsWell (node ty n (enc.function (fn_of.Pack options)) ss)
    → KeepsExactly (node ty n (enc.function (fn_of.Pack options)) ss) (node ty n (enc.composed layout.Struct) (with_absent ss))
P1_keeps ty n options ss w =
    exactly_of_rows ty n (enc.function (fn_of.Pack options)) (enc.composed layout.Struct) ss (with_absent ss)
    (rows_are (λ i. apply (fn_of.Pack options) (types_in (shapes ss)) ty (row_at (slots_rows ss) i)) n (row_by_row struct_row n (slots_rows (with_absent ss)))
    (made_counted struct_row n (slots_rows (with_absent ss)))
    (λ i lt. sym (packed_at n i ss (slots_long n w.0.0 ss w.0.1 w.1) lt)))
    (absent_clean ss)

-- the columns of the arguments are those of the fields
arguments_shapes : (n : ℕ) (names : List (List ℕ)) (tys : List DataType) → length tys ≡ length names
    → map (λ s. Some (shape s n)) tys ≡ fields_shapes n (fields_with names tys)
arguments_shapes n [] [] e = refl
arguments_shapes n [] (t ∷ tys) e = absurd (omega (arith, e))
arguments_shapes n (name ∷ names) [] e = absurd (omega (arith, e))
arguments_shapes n (name ∷ names) (t ∷ tys) e = ap (λ l. Some (shape t n) ∷ l) (arguments_shapes n names tys (omega (arith, e)))

packed_type : (m : Nullability) (names : List (List ℕ)) (tys : List DataType) (ty : DataType) → pack_type m names tys ≡ Some ty
    → ty ≡ type.struct (fields_with names tys) m
packed_type m names tys ty e = by_test (length tys == length names) (are_fields (fields_with names tys)) e
  where
    by_test : (b c : Bool) → (if b then (if c then Some (type.struct (fields_with names tys) m) else None) else None) ≡ Some ty
        → ty ≡ type.struct (fields_with names tys) m
    by_test true true e = cc
    by_test true false e = absurd (cc)
    by_test false c e = absurd (cc)

-- so they are a column of structs
pub packed_node : (ty : DataType) (n : ℕ) (options : PackOptions) (ss : Slots) → IsNode ty n (enc.function (fn_of.Pack options)) (shapes ss)
    → IsNode ty n (enc.composed layout.Struct) (shapes (with_absent ss))
packed_node ty n options ss h =
    let names = options.names in
    let tys = h.0 in (
      fields_with names tys,
      options.nullability,
      None,
      packed_type options.nullability names tys ty h.2,
      absent_shapes ss ∙ ap (λ l. l ++ None ∷ []) (h.1 ∙ arguments_shapes n names tys (on_named options.nullability names tys ty h.2)),
      tt,
    )

-- ---- a column of structs, by its slots

pub struct_shape : (x : Tree) (xs : List (Option Tree)) → is_struct (datum x) ≡ true → slots_of xs ≡ slots x
    → x ≡ node (dtype x) (len x) (enc.composed layout.Struct) (slots_of xs)
struct_shape (node ty n (enc.composed layout.Struct) ss) xs h e = ap (node ty n (enc.composed layout.Struct)) (sym e)
struct_shape (node ty n (enc.composed layout.Extension) ss) xs h e = absurd (cc (h))
struct_shape (node ty n _ ss) xs h e = absurd (cc (h))

module _ (x : Tree) (xs : List (Option Tree)) (h : is_struct (datum x) ≡ true) (e : slots_of xs ≡ slots x) (well : IsWell x) where
  here : IsWell (node (dtype x) (len x) (enc.composed layout.Struct) (slots_of xs))
  here = subst IsWell (struct_shape x xs h e) well

  pub structs_long : (n : ℕ) → n ≡ len x → all_long n (shapes (slots_of xs)) ≡ true
  structs_long n sized =
      ap (λ k. all_long k (shapes (slots_of xs))) sized ∙ composed_long layout.Struct (dtype x) (len x) (shapes (slots_of xs)) here.0

  pub structs_chosen : (bits : List Bool) (ys : List (Option Tree)) (n : ℕ) → length bits ≡ len x → slots_of ys ≡ map_slots (choice_of bits) (slots_of xs)
      → n ≡ true_count bits
      → IsNode (dtype x) n (enc.composed layout.Struct) (shapes (slots_of ys))
  structs_chosen bits ys n long made counted =
      subst (λ y. y) (λ i. IsNode (dtype x) (sym counted i) (enc.composed layout.Struct) (shapes (sym made i)))
      (composed_choice layout.Struct (dtype x) (len x) bits (slots_of xs) here long).0

  -- its fields, and the validity behind them
  pub structs_node : IsStruct (dtype x) (len x) (shapes (slots_of xs))
  structs_node = here.0

-- ---- the slot of a field

-- the place of a field is that of a slot
slot_found : (name : List ℕ) (n : ℕ) (fs : Fields) (v : Option Shape) (xs : List (Option Tree)) (place : ℕ) → Some place ≡ field_place name fs
    → shapes (slots_of xs) ≡ fields_shapes n fs ++ v ∷ []
    → place < length xs
slot_found name n type.no_fields v xs place e h = absurd (cc)
slot_found name n (type.field other t fs) v [] place e h = absurd (cc)
slot_found name n (type.field other t fs) v (None ∷ xs) place e h = absurd (cc)
slot_found name n (type.field other t fs) v (Some u ∷ xs) place e h =
    let rest : shapes (slots_of xs) ≡ fields_shapes n fs ++ v ∷ [] = cc in
    by_test (bytes_eq name other) (field_place name fs) (λ p same. slot_found name n fs v xs p same rest) e
  where
    by_test : (b : Bool) (o : Option ℕ) → ((p : ℕ) → Some p ≡ o → p < length xs) → Some place ≡ (if b then Some 0 else option_map suc o)
        → place < length (Some u ∷ xs)
    by_test true o later e = let first : place ≡ 0 = cc in omega arith
    by_test false (Some p) later e =
        let next : place ≡ suc p = cc in
        let within : p < length xs = later p refl in
        omega arith
    by_test false None later e = absurd (cc)

-- which holds its column
abbrev HoldsField : List ℕ → Fields → List (Option Tree) → Option Tree → Type 0
HoldsField name fs xs s = (c : Tree) × (s ≡ Some c) × (field_in name fs (slots_of xs) ≡ Some c)

slot_held : (name : List ℕ) (n : ℕ) (fs : Fields) (v : Option Shape) (xs : List (Option Tree)) (place : ℕ) (s : Option Tree) → Some place ≡ field_place name fs
    → shapes (slots_of xs) ≡ fields_shapes n fs ++ v ∷ [] → s ≡ get_or xs place s
    → HoldsField name fs xs s
slot_held name n type.no_fields v xs place s e h at = absurd (cc)
slot_held name n (type.field other t fs) v [] place s e h at = absurd (cc)
slot_held name n (type.field other t fs) v (None ∷ xs) place s e h at = absurd (cc)
slot_held name n (type.field other t fs) v (Some u ∷ xs) place s e h at =
    let rest : shapes (slots_of xs) ≡ fields_shapes n fs ++ v ∷ [] = cc in
    by_test (bytes_eq name other) (field_place name fs) (λ p same there. slot_held name n fs v xs p s same rest there) e at
  where
    by_test : (b : Bool) (o : Option ℕ) → ((p : ℕ) → Some p ≡ o → s ≡ get_or xs p s → HoldsField name fs xs s)
        → Some place ≡ (if b then Some 0 else option_map suc o) → s ≡ get_or (Some u ∷ xs) place s
        → (c : Tree) × (s ≡ Some c) × ((if b then Some u else field_in name fs (slots_of xs)) ≡ Some c)
    by_test true o later e at =
        let first : place ≡ 0 = cc in
        (u, at ∙ ap (λ p. get_or (Some u ∷ xs) p s) first, refl)
    by_test false (Some p) later e at =
        let next : place ≡ suc p = cc in
        later p refl (at ∙ ap (λ q. get_or (Some u ∷ xs) q s) next)
    by_test false None later e at = absurd (cc)

-- x is a column of structs with these fields, and has one of this name
module _ (name : List ℕ) (x : Tree) (xs : List (Option Tree)) (fs : Fields) (m : Nullability) (typed : dtype x ≡ type.struct fs m)
    (h : is_struct (datum x) ≡ true) (e : slots_of xs ≡ slots x) (well : IsWell x) where
  pub fields_are : (v : Option Shape) × (shapes (slots_of xs) ≡ fields_shapes (len x) fs ++ v ∷ [])
  fields_are =
      let given = structs_node x xs h e well in
      let same : given.0 ≡ fs = cc (given.3, typed) in
      (given.2, given.4 ∙ ap (λ gs. fields_shapes (len x) gs ++ given.2 ∷ []) same)

  pub place_held : (place : ℕ) → Some place ≡ field_place name fs → place < length xs
  place_held place at = slot_found name (len x) fs fields_are.0 xs place at fields_are.1

  pub field_held : (place : ℕ) (s : Option Tree) → Some place ≡ field_place name fs → s ≡ get_or xs place s → HoldsField name fs xs s
  field_held place s at there = slot_held name (len x) fs fields_are.0 xs place s at fields_are.1 there

-- a field that is read has a place
pub has_place : (name : List ℕ) (x : Tree) (fs : Fields) (m : Nullability) → dtype x ≡ type.struct fs m → HasItem name x → field_place name fs ≡ None → ⊥
has_place name x fs m typed has none =
    let given : widened (type.struct fs m) (field_type name fs) ≡ Some has.0 =
    ap (λ s. return_type (fn_of.GetItem name) (s ∷ [])) (sym typed) ∙ has.1 in
    let missing : None ≡ Some has.0 = sym (ap (widened (type.struct fs m)) (no_place name fs none)) ∙ given in
    absurd (cc)

-- what the mask of a field of nullable structs is made of: the field is as long as the parent, the validity tells of as many rows, the masked field has
-- the parent's type, and the validity is the last slot
abbrev IsMaskedField : Tree → Tree → Tree → Option Tree → List (Option Tree) → Type 0
IsMaskedField t c told v xs =
    (len c ≡ len t) × HasRows (validity.Array told) (len t) × (with_nullability Nullable (dtype c) ≡ dtype t) × (v ≡ last_tree (slots_of xs))

last_has_rows : (n : ℕ) (v : Option Tree) → AreWell (slots_of (v ∷ [])) → IsSecond n (slots_of (v ∷ [])) → (told : Tree)
    → told ≡ validity_column n (slots_of (v ∷ []))
    → HasRows (validity.Array told) n
last_has_rows n None w h told e = subst (λ y. HasRows (validity.Array y) n) (sym e) (((refl, refl, refl), tt), refl, refl)
last_has_rows n (Some u) w h told e = subst (λ y. HasRows (validity.Array y) n) (sym e) (w.0, ap type_in h, ap len_in h)

pub masked_field_known : (name : List ℕ) (t x c : Tree) (xs rest : List (Option Tree)) (v : Option Tree) → IsCallOf (fn_of.GetItem name) (x ∷ []) t
    → is_struct (datum x) ≡ true → slots_of xs ≡ slots x → IsWell x → nullability_of (dtype x) ≡ Nullable → IsFieldColumn name x c
    → xs ≡ rest ++ v ∷ [] → (told : Tree) → told ≡ validity_column (len t) (slots_of (v ∷ []))
    → IsMaskedField t c told v xs
masked_field_known name t x c xs rest v call h e well nulls field split told tells =
    let fs = field.0 in
    let typed : dtype x ≡ type.struct fs Nullable = field.1 ∙ ap (type.struct fs) nulls in
    let found : field_in name fs (slots_of xs) ≡ Some c = ap (field_in name fs) e ∙ field.2 in
    let is : x ≡ node (type.struct fs Nullable) (len x) (enc.composed layout.Struct) (slots_of xs) =
    struct_shape x xs h e ∙ ap (λ ty. node ty (len x) (enc.composed layout.Struct) (slots_of xs)) typed in
    let long = given_long name t x call in
    let w : IsWell (item_node name (dtype t) (len t) (node (type.struct fs Nullable) (len x) (enc.composed layout.Struct) (slots_of xs))) =
    (subst (λ y. IsNode (dtype t) (len t) (enc.function (fn_of.GetItem name)) (shapes (slot y no_slots))) is call.1, (subst IsWell is well, tt)) in
    let shaped = shape_is (dtype t) (len t) (len x) name fs Nullable (slots_of xs) c found w in
    let here = are (dtype t) (len t) (len x) name fs Nullable (slots_of xs) c found w in
    let last : v ≡ last_tree (slots_of xs) = sym (last_is xs rest v split) in
    let second : IsSecond (len t) (slots_of (last_tree (slots_of xs) ∷ [])) =
    second_by (len t) here.0 (last_tree (slots_of xs)) (last_shape (len t) fs here.0 (slots_of xs) here.1) here.2 in
    let whole = last_well (slots_of xs) (subst IsWell is well).1 in (
      shaped.1,
      last_has_rows (len t) v (subst (λ y. AreWell (slots_of (y ∷ []))) (sym last) whole) (subst (λ y. IsSecond (len t) (slots_of (y ∷ []))) (sym last) second) told
          tells,
      sym (result_type (dtype t) (len t) (len x) name fs Nullable (slots_of xs) c found w),
      last,
    )
