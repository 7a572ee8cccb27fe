-- Ranges and choices of columns of nested types.
use Rattle.std.proofs.Common.{◌≡◌, ◌≤◌, ℕ, ◌-◌, Bool, true, List, [], ◌∷◌, ◌++◌, length, map, take, drop, Option, Some, None, refl, sym, ap, subst, ◌∙◌}
use Rattle.std.specs.Prelude.{◌==◌}
use Rattle.std.specs.Cmp.{unsigned_Decides, first_so, second_so}
use Rattle.std.proofs.Math.Seq.{take-nil, drop-nil}
use Rattle.std.proofs.lemmas.Bool.{and_from}
use Rattle.vx_value.specs.Types as type
use Rattle.vx_value.specs.Types.{DataType, Fields}
use Rattle.vx_value.specs.Cell.{Cell}
use Rattle.vx_value.specs.declared.dtype.Nullability.{Nullability}
use Rattle.vx_value.specs.declared.dtype.Nullability.TheVariants.{NonNullable, Nullable}
use Rattle.vx_mask.specs.Places.{true_count, chosen}
use Rattle.vx_mask.proofs.PlacesLemmas.{chosen-nil}
use Rattle.vx_tree.specs.Tree as enc
use Rattle.vx_tree.specs.Tree.{Tree, Data, Slots, node, no_slots, absent, slot, slots_of, dtype, len, slice_of, filter_of, all_long, fields_shapes, laid_out}
use Rattle.vx_tree.specs.Layouts.{row_by_row}
use Rattle.vx_tree.specs.Slots.{map_slots}
use Rattle.vx_tree.specs.Well.{Shape, shape, shapes, IsValidity, IsNode, IsWell, AreWell}
use Rattle.vx_tree.specs.Cells.{rows, slots_rows, node_cells, cells_at, HasNoFault, IsClean, AreClean}
use Rattle.vx_tree.specs.Keeps.{KeepsExactly}
use Rattle.vx_tree.specs.Parts.{part_of, choice_of, column_range}
use Rattle.vx_tree.specs.Validities.{HaveRange}
use Rattle.vx_tree.specs.declared.array.layout.Layout.{Layout}
use Rattle.vx_tree.specs.declared.array.layout.Layout.TheVariants as layout
use Rattle.vx_tree.proofs.KindsLemmas.{len_in}
use Rattle.vx_tree.proofs.KeepsLemmas.{rows_equal}
use Rattle.vx_tree.proofs.LayoutsLemmas.{made_part, made_choice}
use Rattle.vx_tree.proofs.PartsLemmas.{part_exact, choice_exact}
use Rattle.vx_tree.proofs.TellsLemmas.{chosen_clean}
use Rattle.vx_tree.proofs.ValiditiesLemmas.{part_clean, whole}

-- ---- the slots are as long as the column

validity_long : (m : Nullability) (n : ℕ) (v : Option Shape) → IsValidity m n v → all_long n (v ∷ []) ≡ true
validity_long m n None h = refl
validity_long NonNullable n (Some s) h = absurd h
validity_long Nullable n (Some (shape ty k)) h = and_from (k == n) true ((unsigned_Decides k n).1 (ap len_in h)) refl

fields_long : (fs : Fields) (m : Nullability) (n : ℕ) (v : Option Shape) → IsValidity m n v → all_long n (fields_shapes n fs ++ v ∷ []) ≡ true
fields_long type.no_fields m n v h = validity_long m n v h
fields_long (type.field name t fs) m n v h = and_from (n == n) _ ((unsigned_Decides n n).1 refl) (fields_long fs m n v h)

-- a line for each layout
pub composed_long : (l : Layout) (ty : DataType) (n : ℕ) (ss : List (Option Shape)) → IsNode ty n (enc.composed l) ss → all_long n ss ≡ true
composed_long layout.Struct ty n ss h = ap (all_long n) h.4 ∙ fields_long h.0 h.1 n h.2 h.5
composed_long layout.Extension ty n ss h = ap (all_long n) h.3 ∙ and_from (n == n) true ((unsigned_Decides n n).1 refl) refl

-- each slot has a range of the column's rows
ranges : (n a b : ℕ) (xs : List (Option Tree)) → all_long n (shapes (slots_of xs)) ≡ true → a ≤ b → b ≤ n → HaveRange a b xs
ranges n a b [] e h k = tt
ranges n a b (None ∷ xs) e h k = (tt, ranges n a b xs e h k)
ranges n a b (Some t ∷ xs) e h k =
    let long : len t ≡ n = (unsigned_Decides (len t) n).0 (first_so _ _ e) in
    ((h, subst (λ m. b ≤ m) (sym long) k), ranges n a b xs (second_so (len t == n) _ e) h k)

pub composed_ranges : (l : Layout) (ty : DataType) (n a b : ℕ) (xs : List (Option Tree)) → IsNode ty n (enc.composed l) (shapes (slots_of xs)) → a ≤ b → b ≤ n
    → HaveRange a b xs
composed_ranges l ty n a b xs h = ranges n a b xs (composed_long l ty n (shapes (slots_of xs)) h)

-- ---- another number of rows

-- the same slots, of k rows
abbrev pub resized : ℕ → List (Option Shape) → List (Option Shape)
resized k [] = []
resized k (None ∷ ss) = None ∷ resized k ss
resized k (Some (shape ty m) ∷ ss) = Some (shape ty k) ∷ resized k ss

fields_resized : (fs : Fields) (n k : ℕ) (ss : List (Option Shape)) → resized k (fields_shapes n fs ++ ss) ≡ fields_shapes k fs ++ resized k ss
fields_resized type.no_fields n k ss = refl
fields_resized (type.field name t fs) n k ss = ap (λ l. Some (shape t k) ∷ l) (fields_resized fs n k ss)

validity_resized : (m : Nullability) (n k : ℕ) (v : Option Shape) → IsValidity m n v → (w : Option Shape) × (resized k (v ∷ []) ≡ w ∷ []) × IsValidity m k w
validity_resized m n k None h = (None, refl, tt)
validity_resized NonNullable n k (Some s) h = absurd h
validity_resized Nullable n k (Some (shape ty j)) h = (Some (shape ty k), refl, ap (λ s. resized_shape k s) h)
  where
    resized_shape : ℕ → Shape → Shape
    resized_shape k (shape ty j) = shape ty k

-- a line for each layout
pub composed_resized : (l : Layout) (ty : DataType) (n k : ℕ) (ss : List (Option Shape)) → IsNode ty n (enc.composed l) ss
    → IsNode ty k (enc.composed l) (resized k ss)
composed_resized layout.Struct ty n k ss h =
    let v = validity_resized h.1 n k h.2 h.5 in
    (h.0, h.1, v.0, h.3, ap (resized k) h.4 ∙ fields_resized h.0 n k (h.2 ∷ []) ∙ ap (λ l. fields_shapes k h.0 ++ l) v.1, v.2)
composed_resized layout.Extension ty n k ss h = (h.0, h.1, h.2, ap (resized k) h.3)

-- ---- some of the rows: those of a node of these data, or of what f gives in its place

module _ (d : Data) (n k : ℕ) (f : Tree → Tree) (some : List Cell → List Cell) where
  abbrev part : Tree → Tree
  part t = node (dtype t) k d (slot t no_slots)

  module _ (cells : (ty : DataType) (tys : List DataType) (css : List (List Cell)) → node_cells ty k d tys css ≡ some (cells_at css 0)) (empty : some [] ≡ [])
      (kept : (t : Tree) → IsWell t → len t ≡ n → KeepsExactly (part t) (f t)) (clean : (t : Tree) → IsClean t → IsClean (part t)) where
    -- of a slot, and of those after it
    here : (t : Tree) (ss : Slots) → all_long n (shapes (slot t ss)) ≡ true → len t ≡ n
    here t ss h = (unsigned_Decides (len t) n).0 (first_so (len t == n) _ h)

    more : (t : Tree) (ss : Slots) → all_long n (shapes (slot t ss)) ≡ true → all_long n (shapes ss) ≡ true
    more t ss h = second_so (len t == n) _ h

    mapped_shapes : (ss : Slots) → AreWell ss → all_long n (shapes ss) ≡ true → shapes (map_slots f ss) ≡ resized k (shapes ss)
    mapped_shapes no_slots w h = refl
    mapped_shapes (absent ss) w h = ap (λ l. None ∷ l) (mapped_shapes ss w h)
    mapped_shapes (slot t ss) w h =
        let keeps = (kept t w.0 (here t ss h)).keeps in
        λ i. Some (shape (sym keeps.same_type i) (sym keeps.same_len i)) ∷ mapped_shapes ss w.1 (more t ss h) i

    mapped_rows : (ss : Slots) → AreWell ss → all_long n (shapes ss) ≡ true → map some (slots_rows ss) ≡ slots_rows (map_slots f ss)
    mapped_rows no_slots w h = refl
    mapped_rows (absent ss) w h = λ i. empty i ∷ mapped_rows ss w h i
    mapped_rows (slot t ss) w h =
        let shown : some (rows t) ≡ rows (f t) = sym (cells (dtype t) _ (rows t ∷ [])) ∙ (kept t w.0 (here t ss h)).equal in
        λ i. shown i ∷ mapped_rows ss w.1 (more t ss h) i

    mapped_clean : (ss : Slots) → AreWell ss → all_long n (shapes ss) ≡ true → AreClean ss → AreClean (map_slots f ss)
    mapped_clean no_slots w h c = tt
    mapped_clean (absent ss) w h c = mapped_clean ss w h c
    mapped_clean (slot t ss) w h c =
        ((kept t w.0 (here t ss h)).keeps.still_clean (clean t c.0), mapped_clean ss w.1 (more t ss h) c.1)

    -- the column of the slots' rows keeps the column's
    composed_some : (l : Layout) (ty : DataType) (ss : Slots) → IsWell (node ty n (enc.composed l) ss)
        → ((css : List (List Cell)) → some (row_by_row (laid_out l).row n css) ≡ row_by_row (laid_out l).row k (map some css))
        → IsNode ty k (enc.composed l) (shapes (map_slots f ss))
        × KeepsExactly (part (node ty n (enc.composed l) ss)) (node ty k (enc.composed l) (map_slots f ss))
    composed_some l ty ss w made =
        let t = node ty n (enc.composed l) ss in
        let long = composed_long l ty n (shapes ss) w.0 in
        let shown : rows (part t) ≡ row_by_row (laid_out l).row k (slots_rows (map_slots f ss)) =
        cells ty _ (rows t ∷ []) ∙ made (slots_rows ss) ∙ ap (row_by_row (laid_out l).row k) (mapped_rows ss w.1 long) in (
          subst (IsNode ty k (enc.composed l)) (sym (mapped_shapes ss w.1 long)) (composed_resized l ty n k (shapes ss) w.0),
          record {
            keeps = record {
              same_type = refl;
              same_len = refl;
              same_rows = rows_equal _ _ shown;
              still_clean = λ c. (subst HasNoFault shown c.0, mapped_clean ss w.1 long c.1.0.1);
            };
            equal = shown;
          },
        )

-- ---- a range, and a choice

pub composed_part : (l : Layout) (ty : DataType) (n a b : ℕ) (ss : Slots) → IsWell (node ty n (enc.composed l) ss) → a ≤ b → b ≤ n
    → IsNode ty (b - a) (enc.composed l) (shapes (map_slots (part_of a b) ss))
    × KeepsExactly (slice_of a b (node ty n (enc.composed l) ss)) (column_range a b (node ty n (enc.composed l) ss))
composed_part l ty n a b ss w h k =
    composed_some (enc.slice a b) n (b - a) (part_of a b) (λ cs. take (b - a) (drop a cs)) (λ ty tys css. refl)
    (ap (take (b - a)) (drop-nil a) ∙ take-nil (b - a))
    (λ t well long. part_exact a b t well h (subst (λ m. b ≤ m) (sym long) k)) (part_clean a b) l ty ss w
    (λ css. made_part (laid_out l).row a b n css h k)

pub composed_choice : (l : Layout) (ty : DataType) (n : ℕ) (bits : List Bool) (ss : Slots) → IsWell (node ty n (enc.composed l) ss) → length bits ≡ n
    → IsNode ty (true_count bits) (enc.composed l) (shapes (map_slots (choice_of bits) ss))
    × KeepsExactly (filter_of bits (node ty n (enc.composed l) ss)) (node ty (true_count bits) (enc.composed l) (map_slots (choice_of bits) ss))
composed_choice l ty n bits ss w h =
    composed_some (enc.filter bits) n (true_count bits) (choice_of bits) (chosen bits) (λ ty tys css. refl) (chosen-nil bits)
    (λ t well long. choice_exact bits t well (h ∙ sym long)) (λ t c. (chosen_clean bits (rows t) (whole t c), (c, tt))) l ty ss w
    (λ css. ap (λ m. chosen bits (row_by_row (laid_out l).row m css)) (sym h) ∙ made_choice (laid_out l).row bits css)
