-- Slots replaced: found by their numbers, and nodes over slots of the same shapes.
use Rattle.std.proofs.Common.{◌≡◌, ◌≢◌, ℕ, zero, suc, ◌+◌, ◌<◌, ◌≤◌, List, [], ◌∷◌, length, get_or, set, true, Option, Some, None, refl, sym, ap, arith, subst, ◌∙◌}
use Rattle.std.proofs.lemmas.Option.{slice_get_read, slice_get_past}
use Rattle.std.specs.Cmp.{unsigned_Decides}
use Rattle.std.specs.Prelude.{◌==◌, option_map, slice_get}
use Rattle.vx_value.specs.Types.{DataType, same_type_Decides}
use Rattle.vx_value.specs.declared.error.VortexError.TheVariants.{InvalidArgument}
use Rattle.vx_value.specs.declared.error.ArgKind.TheVariants.{SlotCount}
use Rattle.vx_tree.specs.Tree.{Tree, Data, Slots, node, no_slots, absent, slot, slots, slots_of}
use Rattle.vx_tree.specs.Well.{Shape, shape, shape_of, shapes, IsNode, IsNodeOf, IsWell}
use Rattle.vx_tree.specs.Conditions.{first_of_both, unless}
use Rattle.vx_tree.specs.Slots.{set_slot, put}
use Rattle.vx_tree.specs.Replacements.{with_slots, kept_refusal, slot_refusal, found_refusal, first_refusal, each_refusal, with_slot_refusal, with_slots_refusal}
use Rattle.vx_tree.specs.declared.replace.Kept.TheVariants.{Presence, Dtype, Len}
use Rattle.vx_tree.proofs.ConditionsLemmas.{first_none, second_none, unless_none, some_unless}
use Rattle.vx_tree.proofs.SlotsLemmas.{slot_filled, count_slots}

-- ---- what isn't refused has the same shapes

pub same_shape : (i : ℕ) (s r : Option Shape) →
    kept_refusal Presence i s r ≡ None → kept_refusal Dtype i s r ≡ None → kept_refusal Len i s r ≡ None → s ≡ r
same_shape i None None p d l = refl
same_shape i None (Some r) p d l = absurd (cc)
same_shape i (Some s) None p d l = absurd (cc)
same_shape i (Some (shape s m)) (Some (shape r n)) p d l =
    let typed : s ≡ r = (same_type_Decides s r).0 (unless_none _ _ d) in
    let counted : m ≡ n = (unsigned_Decides m n).0 (unless_none _ _ l) in
    λ j. Some (shape (typed j) (counted j))

slot_kept : (i : ℕ) (s r : Option Shape) → slot_refusal i s r ≡ None → s ≡ r
slot_kept i s r h =
    let present = kept_refusal Presence i s r in
    let typed = kept_refusal Dtype i s r in
    let counted = kept_refusal Len i s r in
    let later : first_of_both typed counted ≡ None = second_none present (first_of_both typed counted) h in
    same_shape i s r (first_none present (first_of_both typed counted) h) (first_none typed counted later) (second_none typed counted later)

same_shapes : (i : ℕ) (ss rs : List (Option Shape)) → length rs ≡ length ss →
    first_refusal Presence i ss rs ≡ None → first_refusal Dtype i ss rs ≡ None → first_refusal Len i ss rs ≡ None → rs ≡ ss
same_shapes i [] [] e p d l = refl
same_shapes i [] (r ∷ rs) e p d l = absurd (omega arith)
same_shapes i (s ∷ ss) [] e p d l = absurd (omega arith)
same_shapes i (s ∷ ss) (r ∷ rs) e p d l =
    let here : s ≡ r = same_shape i s r (first_none _ _ p) (first_none _ _ d) (first_none _ _ l) in
    let more : rs ≡ ss = same_shapes (i + 1) ss rs (omega arith) (second_none _ _ p) (second_none _ _ d) (second_none _ _ l) in
    λ j. sym here j ∷ more j

-- ---- one slot

shape_found : (ss : List (Option Tree)) (i : ℕ) (x : Option Tree) → slice_get ss i ≡ Some x → slice_get (shapes (slots_of ss)) i ≡ Some (option_map shape_of x)
shape_found [] i x h = absurd (cc)
shape_found (None ∷ ss) zero None h = refl
shape_found (None ∷ ss) zero (Some t) h = absurd (cc)
shape_found (None ∷ ss) (suc i) x h = shape_found ss i x h
shape_found (Some u ∷ ss) zero None h = absurd (cc)
shape_found (Some u ∷ ss) zero (Some t) h = let q : u ≡ t = cc in ap (λ z. Some (Some (shape_of z))) q
shape_found (Some u ∷ ss) (suc i) x h = shape_found ss i x h

none_found : (ss : List (Option Tree)) (i : ℕ) → slice_get ss i ≡ None → slice_get (shapes (slots_of ss)) i ≡ None
none_found [] i h = refl
none_found (None ∷ ss) zero h = absurd (cc)
none_found (None ∷ ss) (suc i) h = none_found ss i h
none_found (Some u ∷ ss) zero h = absurd (cc)
none_found (Some u ∷ ss) (suc i) h = none_found ss i h

module _ (xs : List (Option Tree)) (i : ℕ) (c t : Tree) (e : slots_of xs ≡ slots t) where
  pub slot_found : (x : Option Tree) → i < length xs → x ≡ get_or xs i x → with_slot_refusal i c t ≡ slot_refusal i (option_map shape_of x) (Some (shape_of c))
  slot_found x h g =
      ap (λ z. found_refusal i (slice_get (shapes z) i) (Some (shape_of c))) (sym e)
      ∙ ap (λ z. found_refusal i z (Some (shape_of c))) (shape_found xs i x (slice_get_read xs (length xs) i x refl h g))

  pub slot_not_found : length xs ≤ i → with_slot_refusal i c t ≡ Some (InvalidArgument SlotCount)
  slot_not_found h =
      ap (λ z. found_refusal i (slice_get (shapes z) i) (Some (shape_of c))) (sym e)
      ∙ ap (λ z. found_refusal i z (Some (shape_of c))) (none_found xs i (slice_get_past xs i h))

set_alike : (i j : ℕ) (c : Tree) (ss : Slots) → found_refusal j (slice_get (shapes ss) i) (Some (shape_of c)) ≡ None → shapes (set_slot i c ss) ≡ shapes ss
set_alike i j c no_slots h = refl
set_alike zero j c (absent ss) h = absurd (cc)
set_alike zero j c (slot t ss) h =
    ap (λ z. z ∷ shapes ss) (sym (slot_kept j (Some (shape_of t)) (Some (shape_of c)) h))
set_alike (suc i) j c (absent ss) h = ap (λ l. None ∷ l) (set_alike i j c ss h)
set_alike (suc i) j c (slot t ss) h = ap (λ l. Some (shape_of t) ∷ l) (set_alike i j c ss h)

slot_fits : (i : ℕ) (c t : Tree) → with_slot_refusal i c t ≡ None → IsNodeOf t → IsNodeOf (put i c t)
slot_fits i c (node ty n d ss) h w = subst (IsNode ty n d) (sym (set_alike i i c ss h)) w

slot_there : (i j : ℕ) (c : Tree) (xs : List (Option Tree)) → found_refusal j (slice_get (shapes (slots_of xs)) i) (Some (shape_of c)) ≡ None → i < length xs
slot_there i j c [] h = absurd (cc)
slot_there zero j c (None ∷ xs) h = omega arith
slot_there zero j c (Some t ∷ xs) h = omega arith
slot_there (suc i) j c (None ∷ xs) h = omega (arith, slot_there i j c xs h)
slot_there (suc i) j c (Some t ∷ xs) h = omega (arith, slot_there i j c xs h)

-- ---- all slots

module _ (xs ys : List (Option Tree)) (t : Tree) (e : slots_of ys ≡ slots t) where
  compared : with_slots_refusal (slots_of xs) t
      ≡ first_of_both (unless (length xs == length ys) (InvalidArgument SlotCount)) (each_refusal (shapes (slots_of ys)) (shapes (slots_of xs)))
  compared =
      ap (λ z. first_of_both (unless (length (shapes (slots_of xs)) == length (shapes z)) (InvalidArgument SlotCount))
      (each_refusal (shapes z) (shapes (slots_of xs)))) (sym e)
      ∙ ap (λ z. first_of_both (unless (length (shapes (slots_of xs)) == z) (InvalidArgument SlotCount))
      (each_refusal (shapes (slots_of ys)) (shapes (slots_of xs)))) (count_slots ys)
      ∙ ap (λ z. first_of_both (unless (z == length ys) (InvalidArgument SlotCount)) (each_refusal (shapes (slots_of ys)) (shapes (slots_of xs))))
      (count_slots xs)

  pub slots_counted : length xs ≡ length ys → with_slots_refusal (slots_of xs) t ≡ each_refusal (shapes (slots_of ys)) (shapes (slots_of xs))
  slots_counted h =
      let same : (length xs == length ys) ≡ true = (unsigned_Decides (length xs) (length ys)).1 h in
      compared ∙ ap (λ b. first_of_both (unless b (InvalidArgument SlotCount)) (each_refusal (shapes (slots_of ys)) (shapes (slots_of xs)))) same

  pub slots_miscounted : length xs ≢ length ys → with_slots_refusal (slots_of xs) t ≡ Some (InvalidArgument SlotCount)
  slots_miscounted h =
      let fewer = some_unless (length xs == length ys) (InvalidArgument SlotCount) (λ b. h ((unsigned_Decides (length xs) (length ys)).0 b)) in
      compared ∙ ap (λ z. first_of_both z (each_refusal (shapes (slots_of ys)) (shapes (slots_of xs)))) fewer

slots_fit : (rs : Slots) (t : Tree) → with_slots_refusal rs t ≡ None → IsNodeOf t → IsNodeOf (with_slots rs t)
slots_fit rs (node ty n d ss) h w =
    let counted : length (shapes rs) ≡ length (shapes ss) = (unsigned_Decides _ _).0 (unless_none _ _ (first_none _ _ h)) in
    let each : each_refusal (shapes ss) (shapes rs) ≡ None = second_none _ _ h in
    let later : first_of_both (first_refusal Dtype 0 (shapes ss) (shapes rs)) (first_refusal Len 0 (shapes ss) (shapes rs)) ≡ None = second_none _ _ each in
    let alike : shapes rs ≡ shapes ss = same_shapes 0 (shapes ss) (shapes rs) counted (first_none _ _ each) (first_none _ _ later) (second_none _ _ later) in
    subst (IsNode ty n d) (sym alike) w

-- ---- of a node of the program

module _ (ty : DataType) (n : ℕ) (d : Data) (xs : List (Option Tree)) (t : Tree) (e : node ty n d (slots_of xs) ≡ t) where
  pub slot_within : (i : ℕ) (c : Tree) → with_slot_refusal i c t ≡ None → i < length xs
  slot_within i c h = slot_there i i c xs (subst (λ z. with_slot_refusal i c z ≡ None) (sym e) h)

  root : IsWell t → IsNodeOf t
  root w = subst IsNodeOf e (subst IsWell (sym e) w).0

  pub slot_replaced : IsWell t → (i : ℕ) (c : Tree) → with_slot_refusal i c t ≡ None → IsNodeOf (node ty n d (slots_of (set xs i (Some c))))
  slot_replaced w i c h = subst IsNodeOf (sym (slot_filled ty n d xs i c t e)) (slot_fits i c t h (root w))

  pub all_put : (rs : Slots) → node ty n d rs ≡ with_slots rs t
  all_put rs = ap (with_slots rs) e

  pub all_replaced : IsWell t → (rs : Slots) → with_slots_refusal rs t ≡ None → IsNodeOf (node ty n d rs)
  all_replaced w rs h = subst IsNodeOf (sym (all_put rs)) (slots_fit rs t h (root w))
