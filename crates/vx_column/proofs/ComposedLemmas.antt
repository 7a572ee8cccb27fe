-- Columns of nested types: with some of their rows made null, and filtered.
use Rattle.std.proofs.Common.{◌≡◌, ℕ, zero, suc, List, [], ◌∷◌, ◌++◌, length, map, take, drop, get_or, Bool, true, false, ◌==◌, ◌<◌, Option, Some, None, refl, sym, ap, subst, ◌∙◌, arith}
use Rattle.std.specs.Prelude.{option_map}
use Rattle.std.specs.Cmp.{unsigned_Decides, first_so, second_so}
use Rattle.std.proofs.lemmas.List.{map-append}
use Rattle.vx_value.specs.Types.{DataType}
use Rattle.vx_value.specs.Nullabilities.{with_nullability}
use Rattle.vx_value.specs.Values.{null, boolean, fields, no_values}
use Rattle.vx_value.specs.Cell.{Cell, value, fault}
use Rattle.vx_value.specs.declared.dtype.Nullability.{Nullability}
use Rattle.vx_value.specs.declared.dtype.Nullability.TheVariants.{NonNullable, Nullable}
use Rattle.vx_tree.specs.Tree as enc
use Rattle.vx_mask.specs.Places.{true_count}
use Rattle.vx_tree.specs.Tree.{Tree, node, slots_of, dtype, len, masked_of, filter_of, all_long, fields_shapes, with_field, struct_row}
use Rattle.vx_tree.specs.Layouts.{heads, tails, row_by_row}
use Rattle.vx_tree.specs.Well.{Shape, shape, shape_of, shapes, IsValidity, IsNode, IsWell, AreWell}
use Rattle.vx_tree.specs.Cells.{rows, slots_rows, valid_cell, valid_cells, HasNoFault, IsClean, AreClean}
use Rattle.vx_tree.specs.Keeps.{KeepsExactly}
use Rattle.vx_tree.specs.Parts.{choice_of, HasLen}
use Rattle.vx_tree.specs.Slots.{map_slots}
use Rattle.vx_tree.specs.declared.array.layout.Layout.{Layout}
use Rattle.vx_tree.specs.declared.array.layout.Layout.TheVariants.{Struct, Extension}
use Rattle.vx_tree.proofs.CellsLemmas.{rows_counted}
use Rattle.vx_tree.proofs.ComposedLemmas.{composed_long, composed_choice}
use Rattle.vx_tree.proofs.ExtensionLemmas.{stored_rows}
use Rattle.vx_tree.proofs.KeepsLemmas.{rows_equal}
use Rattle.vx_tree.proofs.KindsLemmas.{type_in, len_in}
use Rattle.vx_tree.proofs.LayoutsLemmas.{made_counted}
use Rattle.vx_column.specs.Masked.{TellsAll, IsBoth}
use Rattle.vx_column.specs.Nulls.{validity_cells}
use Rattle.vx_column.proofs.CellsLemmas.{masked_rows}

-- ---- the slots, of which the last is the validity's

slots_told : (xs : List (Option Tree)) → slots_rows (slots_of xs) ≡ map validity_cells xs
slots_told [] = refl
slots_told (None ∷ xs) = ap (λ l. [] ∷ l) (slots_told xs)
slots_told (Some t ∷ xs) = ap (λ l. rows t ∷ l) (slots_told xs)

pub slots_shaped : (xs : List (Option Tree)) → shapes (slots_of xs) ≡ map (option_map shape_of) xs
slots_shaped [] = refl
slots_shaped (None ∷ xs) = ap (λ l. None ∷ l) (slots_shaped xs)
slots_shaped (Some t ∷ xs) = ap (λ l. Some (shape_of t) ∷ l) (slots_shaped xs)

-- two lists are the same only if their last elements are, and the others
last_same : {X : Type 0} (xs ys : List X) (x y : X) → xs ++ x ∷ [] ≡ ys ++ y ∷ [] → (xs ≡ ys) × (x ≡ y)
last_same [] [] x y h = (refl, cc)
last_same [] (z ∷ []) x y h = absurd (cc)
last_same [] (z ∷ w ∷ ys) x y h = absurd (cc)
last_same (z ∷ []) [] x y h = absurd (cc)
last_same (z ∷ w ∷ xs) [] x y h = absurd (cc)
last_same (z ∷ xs) (w ∷ ys) x y h =
    let first : z ≡ w = cc in
    let rest = last_same xs ys x y (cc) in
    (λ i. first i ∷ rest.0 i, rest.1)

well_last : (xs : List (Option Tree)) (w : Option Tree) → AreWell (slots_of (xs ++ w ∷ [])) → AreWell (slots_of (w ∷ []))
well_last [] w h = h
well_last (None ∷ xs) w h = well_last xs w h
well_last (Some t ∷ xs) w h = well_last xs w h.1

clean_last : (xs : List (Option Tree)) (v w : Option Tree) → (AreClean (slots_of (v ∷ [])) → AreClean (slots_of (w ∷ [])))
    → AreClean (slots_of (xs ++ v ∷ [])) → AreClean (slots_of (xs ++ w ∷ []))
clean_last [] v w f h = f h
clean_last (None ∷ xs) v w f h = clean_last xs v w f h
clean_last (Some t ∷ xs) v w f h = (h.0, clean_last xs v w f h.1)

pub slots_clean : (t : Tree) → IsClean t → AreClean (enc.slots t)
slots_clean (node ty n d ss) h = h.1

-- the last slot holds the validity of n rows
told_of : (m : Nullability) (n : ℕ) (w : Option Tree) → IsValidity m n (option_map shape_of w) → AreWell (slots_of (w ∷ [])) → TellsAll n w
told_of m n None h k = tt
told_of NonNullable n (Some t) h k = absurd h
told_of Nullable n (Some t) h k = (k.0, ap type_in h, ap len_in h)

pub validity_of_told : (n : ℕ) (w : Option Tree) → TellsAll n w → IsValidity Nullable n (option_map shape_of w)
validity_of_told n None h = tt
validity_of_told n (Some t) h = λ i. shape (h.1 i) (h.2 i)

-- ---- each row of a struct is null if the validity says so

-- a struct, or a fault
abbrev IsMade : Cell → Type 0
IsMade fault = Unit {0}
IsMade (value (fields vs)) = Unit {0}
IsMade _ = ⊥

field_made : (cs : List Cell) (x : Cell) → IsMade x → IsMade (with_field cs x)
field_made [] (value (fields vs)) h = tt
field_made [] fault h = tt
field_made (fault ∷ cs) (value (fields vs)) h = tt
field_made (fault ∷ cs) fault h = tt
field_made (value w ∷ []) (value (fields vs)) h = tt
field_made (value w ∷ []) fault h = tt
field_made (value w ∷ d ∷ cs) (value (fields vs)) h = tt
field_made (value w ∷ d ∷ cs) fault h = tt
field_made _ (value _) h = absurd h

row_made : (hs : List (List Cell)) → IsMade (struct_row (hs ++ [] ∷ []))
row_made [] = tt
row_made (c ∷ []) = field_made c (value (fields no_values)) tt
row_made (c ∷ d ∷ hs) = field_made c _ (row_made (d ∷ hs))

field_valid : (v : Cell) (cs : List Cell) (x : Cell) → IsMade x → with_field cs (valid_cell v x) ≡ valid_cell v (with_field cs x)
field_valid (value (boolean true)) cs x h = refl
field_valid (value (boolean false)) [] (value (fields vs)) h = refl
field_valid (value (boolean false)) [] fault h = refl
field_valid (value (boolean false)) (fault ∷ cs) (value (fields vs)) h = refl
field_valid (value (boolean false)) (fault ∷ cs) fault h = refl
field_valid (value (boolean false)) (value w ∷ []) (value (fields vs)) h = refl
field_valid (value (boolean false)) (value w ∷ []) fault h = refl
field_valid (value (boolean false)) (value w ∷ d ∷ cs) (value (fields vs)) h = refl
field_valid (value (boolean false)) (value w ∷ d ∷ cs) fault h = refl
field_valid (value (boolean false)) cs (value _) h = absurd h
field_valid _ [] x h = refl
field_valid _ (fault ∷ cs) x h = refl
field_valid _ (value w ∷ []) x h = refl
field_valid _ (value w ∷ d ∷ cs) x h = refl

row_valid : (hs : List (List Cell)) (v : Cell) → struct_row (hs ++ (v ∷ []) ∷ []) ≡ valid_cell v (struct_row (hs ++ [] ∷ []))
row_valid [] v = refl
row_valid (c ∷ []) v = field_valid v c (value (fields no_values)) tt
row_valid (c ∷ d ∷ hs) v = ap (with_field c) (row_valid (d ∷ hs) v) ∙ field_valid v c (struct_row (d ∷ hs ++ [] ∷ [])) (row_made (d ∷ hs))

rows_valid : (n : ℕ) (css : List (List Cell)) (vs : List Cell) → length vs ≡ n
    → row_by_row struct_row n (css ++ vs ∷ []) ≡ valid_cells vs (row_by_row struct_row n (css ++ [] ∷ []))
rows_valid zero css [] h = refl
rows_valid zero css (v ∷ vs) h = absurd (omega arith)
rows_valid (suc n) css [] h = absurd (omega arith)
rows_valid (suc n) css (v ∷ vs) h =
    let first : heads (css ++ (v ∷ vs) ∷ []) ≡ heads css ++ (v ∷ []) ∷ [] = map-append (take 1) css ((v ∷ vs) ∷ []) in
    let others : tails (css ++ (v ∷ vs) ∷ []) ≡ tails css ++ vs ∷ [] = map-append (drop 1) css ((v ∷ vs) ∷ []) in
    let first_bare : heads (css ++ [] ∷ []) ≡ heads css ++ [] ∷ [] = map-append (take 1) css ([] ∷ []) in
    let others_bare : tails (css ++ [] ∷ []) ≡ tails css ++ [] ∷ [] = map-append (drop 1) css ([] ∷ []) in
    let here : struct_row (heads (css ++ (v ∷ vs) ∷ [])) ≡ valid_cell v (struct_row (heads (css ++ [] ∷ []))) =
    ap struct_row first ∙ row_valid (heads css) v ∙ ap (λ hs. valid_cell v (struct_row hs)) (sym first_bare) in
    let rest : row_by_row struct_row n (tails (css ++ (v ∷ vs) ∷ [])) ≡ valid_cells vs (row_by_row struct_row n (tails (css ++ [] ∷ []))) =
    ap (row_by_row struct_row n) others ∙ rows_valid n (tails css) vs (omega arith) ∙ ap (λ l. valid_cells vs (row_by_row struct_row n l)) (sym others_bare) in
    λ i. here i ∷ rest i

-- the rows of a column of structs, by its validity
pub struct_rows : (n : ℕ) (xs : List (Option Tree)) (w : Option Tree) → TellsAll n w
    → row_by_row struct_row n (slots_rows (slots_of (xs ++ w ∷ [])))
    ≡ valid_cells (validity_cells w) (row_by_row struct_row n (map validity_cells xs ++ [] ∷ []))
struct_rows n xs w h =
    ap (row_by_row struct_row n) (slots_told (xs ++ w ∷ []) ∙ map-append validity_cells xs (w ∷ [])) ∙ by_validity w h
  where
    by_validity : (w : Option Tree) → TellsAll n w → row_by_row struct_row n (map validity_cells xs ++ validity_cells w ∷ [])
        ≡ valid_cells (validity_cells w) (row_by_row struct_row n (map validity_cells xs ++ [] ∷ []))
    by_validity None h = refl
    by_validity (Some t) h = rows_valid n (map validity_cells xs) (rows t) (rows_counted t h.0 ∙ h.2)

-- ---- a column of structs with more of its rows made null

module _ (t : Tree) (xs ss : List (Option Tree)) (own : Option Tree) (parted : ss ≡ xs ++ own ∷ [])
    (is : t ≡ node (dtype t) (len t) (enc.composed Struct) (slots_of ss)) (well : IsWell t) where
  known : IsWell (node (dtype t) (len t) (enc.composed Struct) (slots_of (xs ++ own ∷ [])))
  known = subst (λ ys. IsWell (node (dtype t) (len t) (enc.composed Struct) (slots_of ys))) parted (subst IsWell is well)

  split : (map (option_map shape_of) xs ≡ fields_shapes (len t) known.0.0) × (option_map shape_of own ≡ known.0.2)
  split =
      last_same (map (option_map shape_of) xs) (fields_shapes (len t) known.0.0) (option_map shape_of own) known.0.2
      (sym (map-append (option_map shape_of) xs (own ∷ [])) ∙ sym (slots_shaped (xs ++ own ∷ [])) ∙ known.0.4)

  -- its validity
  pub own_told : TellsAll (len t) own
  own_told = told_of known.0.1 (len t) own (subst (IsValidity known.0.1 (len t)) (sym split.1) known.0.5) (well_last xs own known.1)

  -- the same fields with a validity, as a nullable column
  pub nullable_node : (ys : List (Option Tree)) (w : Option Tree) (ty : DataType) (n : ℕ) → n ≡ len t → ty ≡ with_nullability Nullable (dtype t)
      → ys ≡ xs ++ w ∷ [] → TellsAll n w → IsNode ty n (enc.composed Struct) (shapes (slots_of ys))
  nullable_node ys w ty n sized typed made told =
      let shaped : shapes (slots_of ys) ≡ fields_shapes n known.0.0 ++ option_map shape_of w ∷ [] =
      ap (λ l. shapes (slots_of l)) made ∙ slots_shaped (xs ++ w ∷ []) ∙ map-append (option_map shape_of) xs (w ∷ [])
      ∙ ap (λ l. l ++ option_map shape_of w ∷ []) (split.0 ∙ ap (λ k. fields_shapes k known.0.0) (sym sized)) in
      (known.0.0, Nullable, option_map shape_of w, typed ∙ ap (with_nullability Nullable) known.0.3, shaped, validity_of_told n w told)

  pub struct_masked : (child w : Option Tree) (u : Tree) (ys : List (Option Tree)) (ty : DataType) (n : ℕ) → n ≡ len t → ty ≡ with_nullability Nullable (dtype t)
      → TellsAll n w → IsBoth n own child w → ys ≡ xs ++ w ∷ [] → u ≡ node ty n (enc.composed Struct) (slots_of ys) → KeepsExactly (masked_of t child) u
  struct_masked child w u ys ty n sized typed told both made new =
      let bare = row_by_row struct_row n (map validity_cells xs ++ [] ∷ []) in
      let whole = node ty n (enc.composed Struct) (slots_of (xs ++ w ∷ [])) in
      let own_n : TellsAll n own = subst (λ k. TellsAll k own) (sym sized) own_told in
      let stored : rows t ≡ valid_cells (validity_cells own) bare =
      ap rows (is ∙ (λ i. node (dtype t) (sym sized i) (enc.composed Struct) (slots_of (parted i)))) ∙ struct_rows n xs own own_n in
      let shown : rows (masked_of t child) ≡ rows whole =
      masked_rows (masked_of t child) t child refl ∙ ap (valid_cells (validity_cells child)) stored
      ∙ both.told bare (made_counted struct_row n (map validity_cells xs ++ [] ∷ []))
      ∙ sym (struct_rows n xs w told) in
      let under : enc.slots t ≡ slots_of (xs ++ own ∷ []) = ap enc.slots is ∙ ap slots_of parted in
      subst (KeepsExactly (masked_of t child)) (sym (new ∙ ap (λ l. node ty n (enc.composed Struct) (slots_of l)) made))
      (record {
        keeps = record {
          same_type = sym typed;
          same_len = sym sized;
          same_rows = rows_equal _ _ shown;
          still_clean =
              λ k. (subst HasNoFault shown k.0, clean_last xs own w (λ c. both.clean c k.1.1) (subst AreClean under (slots_clean t k.1.0)));
        };
        equal = shown;
      })

-- ---- a column of an extension type with more of its rows made null

module _ (t c : Tree) (ss : List (Option Tree)) (stored : ss ≡ Some c ∷ [])
    (is : t ≡ node (dtype t) (len t) (enc.composed Extension) (slots_of ss)) (well : IsWell t) where
  one : IsWell (node (dtype t) (len t) (enc.composed Extension) (slots_of (Some c ∷ [])))
  one = subst (λ ys. IsWell (node (dtype t) (len t) (enc.composed Extension) (slots_of ys))) stored (subst IsWell is well)

  same_shape : shape_of c ≡ shape one.0.1 (len t)
  same_shape = first_of one.0.3
    where
      first_of : {s r : Shape} → Some s ∷ [] ≡ Some r ∷ [] → s ≡ r
      first_of h = cc

  -- its storage has as many rows
  storage_len : len c ≡ len t
  storage_len = ap len_in same_shape

  pub extension_masked : (child w : Option Tree) (v u : Tree) (ys : List (Option Tree)) (ty : DataType) (n : ℕ) → n ≡ len t
      → ty ≡ with_nullability Nullable (dtype t) → w ≡ child → v ≡ masked_of c w → IsWell v → ys ≡ Some v ∷ []
      → u ≡ node ty n (enc.composed Extension) (slots_of ys) → KeepsExactly (masked_of t child) u
  extension_masked child w v u ys ty n sized typed same masks good made new =
      let below = masked_of c child in
      let whole = node ty n (enc.composed Extension) (slots_of (Some below ∷ [])) in
      let told : v ≡ below = masks ∙ ap (masked_of c) same in
      let long : len c ≡ n = storage_len ∙ sym sized in
      let plain : rows t ≡ rows c =
      ap rows (is ∙ (λ i. node (dtype t) (sym sized i) (enc.composed Extension) (slots_of (stored i))))
      ∙ stored_rows n (rows c) (rows_counted c one.1.0 ∙ long) in
      let fewer : rows (masked_of t child) ≡ rows below =
      masked_rows (masked_of t child) t child refl ∙ ap (valid_cells (validity_cells child)) plain ∙ sym (masked_rows below c child refl) in
      let shown : rows (masked_of t child) ≡ rows whole =
      fewer ∙ sym (stored_rows n (rows below) (rows_counted below (subst IsWell told good) ∙ long)) in
      let under : enc.slots t ≡ slots_of (Some c ∷ []) = ap enc.slots is ∙ ap slots_of stored in
      subst (KeepsExactly (masked_of t child)) (sym (new ∙ ap (λ l. node ty n (enc.composed Extension) (slots_of l)) (made ∙ ap (λ x. Some x ∷ []) told)))
      (record {
        keeps = record {
          same_type = sym typed;
          same_len = sym sized;
          same_rows = rows_equal _ _ shown;
          still_clean =
              λ k. (subst HasNoFault shown k.0, ((subst HasNoFault fewer k.0, ((subst AreClean under (slots_clean t k.1.0)).0, k.1.1)), tt));
        };
        equal = shown;
      })

-- ---- a nested column's rows at the true bits of a mask

-- it has as many rows in each slot
pub composed_slots : (l : Layout) (t : Tree) (n : ℕ) (xs : List (Option Tree)) → t ≡ node (dtype t) (len t) (enc.composed l) (slots_of xs) → IsWell t
    → n ≡ len t → all_long n (shapes (slots_of xs)) ≡ true
composed_slots l t n xs is well sized =
    ap (λ k. all_long k (shapes (slots_of xs))) sized ∙ composed_long l (dtype t) (len t) (shapes (slots_of xs)) (subst IsWell is well).0

pub long_at : (n : ℕ) (xs : List (Option Tree)) (i : ℕ) (d : Option Tree) → all_long n (shapes (slots_of xs)) ≡ true → i < length xs → HasLen n (get_or xs i d)
long_at n [] i d h lt = absurd (omega (arith, lt))
long_at n (None ∷ xs) zero d h lt = tt
long_at n (None ∷ xs) (suc i) d h lt = long_at n xs i d h (omega (arith, lt))
long_at n (Some t ∷ xs) zero d h lt = sym ((unsigned_Decides (len t) n).0 (first_so (len t == n) _ h))
long_at n (Some t ∷ xs) (suc i) d h lt = long_at n xs i d (second_so (len t == n) _ h) (omega (arith, lt))

module _ (l : Layout) (t : Tree) (bits : List Bool) (xs ys : List (Option Tree)) (is : t ≡ node (dtype t) (len t) (enc.composed l) (slots_of xs))
    (well : IsWell t) (long : length bits ≡ len t) (made : slots_of ys ≡ map_slots (choice_of bits) (slots_of xs)) where
  choice : IsNode (dtype t) (true_count bits) (enc.composed l) (shapes (map_slots (choice_of bits) (slots_of xs)))
      × KeepsExactly (filter_of bits (node (dtype t) (len t) (enc.composed l) (slots_of xs)))
      (node (dtype t) (true_count bits) (enc.composed l) (map_slots (choice_of bits) (slots_of xs)))
  choice = composed_choice l (dtype t) (len t) bits (slots_of xs) (subst IsWell is well) long

  pub chosen_node : (ty : DataType) (n : ℕ) → ty ≡ dtype t → n ≡ true_count bits → IsNode ty n (enc.composed l) (shapes (slots_of ys))
  chosen_node ty n typed counted =
      subst (λ x. x) (λ i. IsNode (sym typed i) (sym counted i) (enc.composed l) (shapes (sym made i))) choice.0

  pub chosen_kept : (ty : DataType) (n : ℕ) (u : Tree) → ty ≡ dtype t → n ≡ true_count bits → u ≡ node ty n (enc.composed l) (slots_of ys)
      → KeepsExactly (filter_of bits t) u
  chosen_kept ty n u typed counted new =
      let whole : u ≡ node (dtype t) (true_count bits) (enc.composed l) (map_slots (choice_of bits) (slots_of xs)) =
      new ∙ (λ i. node (typed i) (counted i) (enc.composed l) (made i)) in
      subst (λ x. x) (λ i. KeepsExactly (filter_of bits (sym is i)) (sym whole i)) choice.1
