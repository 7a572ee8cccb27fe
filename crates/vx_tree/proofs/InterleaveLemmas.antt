-- Interleaved arrays: their parts, and what their constructor makes.
use Rattle.std.proofs.Common.{◌≡◌, ℕ, ◌+◌, ◌<◌, ◌≤◌, List, [], ◌∷◌, length, get_or, drop, map, true, Option, Some, None, refl, sym, ap, subst, ◌∙◌, arith}
use Rattle.std.specs.Cmp.{unsigned_Decides}
use Rattle.vx_value.specs.Types.{DataType}
use Rattle.vx_value.specs.declared.error.VortexError.TheVariants.{InvalidArgument}
use Rattle.vx_value.specs.declared.error.ArgKind.TheVariants.{SlotCount}
use Rattle.vx_tree.specs.Tree as enc
use Rattle.vx_tree.specs.Conditions.{first_of_both}
use Rattle.vx_tree.specs.Tree.{Tree, node, slot, slots_of, filled_slots, len, dtype, first_type, interleave_of, indices_refusal, present_refusal, interleave_refusal, interleaved_refusal}
use Rattle.vx_tree.specs.Well.{Shape, shape, shape_of, shapes, IsNode}
use Rattle.vx_tree.specs.SlotTypes.{is_index, of_lengths, lengths_in, missing_refusal, type_refusal}
use Rattle.vx_tree.proofs.ConditionsLemmas.{none_refused, first_none, second_none, unless_none, none_unless}
use Rattle.vx_tree.proofs.SlotTypesLemmas.{of_type_kept, none_missing, none_other, filled_map}

pub kept : (ty : DataType) (n : ℕ) (ss : List (Option Shape)) → interleave_refusal ty n ss ≡ None → IsNode ty n enc.interleave ss
kept ty n [] h = absurd (cc)
kept ty n (a ∷ []) h = absurd (cc)
kept ty n (a ∷ r ∷ []) h = absurd (cc)
kept ty n (None ∷ r ∷ v ∷ vs) h = absurd (cc)
kept ty n (Some a ∷ None ∷ v ∷ vs) h = absurd (cc)
kept ty n (Some a ∷ Some r ∷ None ∷ vs) h = absurd (cc)
kept ty n (Some (shape c i) ∷ Some (shape d k) ∷ Some (shape s m) ∷ vs) h =
    let more = Some (shape s m) ∷ vs in
    let present : missing_refusal 2 more ≡ None = first_none _ _ h in
    let here : indices_refusal ty n (Some (shape c i)) (Some (shape d k)) more ≡ None = second_none _ _ h in
    let second = second_none _ _ here in
    let third = second_none _ _ second in
    let fourth = second_none _ _ third in
    let paired : k ≡ i = (unsigned_Decides k i).0 (unless_none _ _ (first_none _ _ fourth)) in
    let counted : n ≡ i = (unsigned_Decides n i).0 (unless_none _ _ (second_none _ _ fourth)) in
    let values = of_type_kept ty 2 2 more present (first_none _ _ third) in
    let all : Some (shape c i) ∷ Some (shape d k) ∷ more ≡ Some (shape c n) ∷ Some (shape d n) ∷ of_lengths ty (m ∷ lengths_in vs) =
    λ j. Some (shape c (sym counted j)) ∷ Some (shape d ((paired ∙ sym counted) j)) ∷ values j in
    (c, d, m, lengths_in vs, all, unless_none _ _ (first_none _ _ here), unless_none _ _ (first_none _ _ second))

pub taken : (ty : DataType) (n : ℕ) (ss : List (Option Shape)) → IsNode ty n enc.interleave ss → interleave_refusal ty n ss ≡ None
taken ty n ss h =
    let ms = h.2 ∷ h.3 in
    let more = of_lengths ty ms in
    let same = none_unless _ _ ((unsigned_Decides n n).1 refl) in
    let again = none_unless _ _ ((unsigned_Decides n n).1 refl) in
    let here : indices_refusal ty n (Some (shape h.0 n)) (Some (shape h.1 n)) more ≡ None =
    none_refused _ _ (none_unless _ _ h.5) (none_refused _ _ (none_unless _ _ h.6) (none_refused _ _ (none_other ty 2 ms) (none_refused _ _ same again))) in
    let e : interleave_refusal ty n (Some (shape h.0 n) ∷ Some (shape h.1 n) ∷ more) ≡ None = none_refused _ _ (none_missing ty 2 ms) here in
    subst (λ l. interleave_refusal ty n l ≡ None) (sym h.4) e

-- ---- as the code asks

pub interleave_slot_count : (xs : List (Option Tree)) → length xs < 3 → (ty : DataType) (n : ℕ)
    → interleave_refusal ty n (shapes (slots_of xs)) ≡ Some (InvalidArgument SlotCount)
interleave_slot_count [] h ty n = refl
interleave_slot_count (None ∷ []) h ty n = refl
interleave_slot_count (Some t ∷ []) h ty n = refl
interleave_slot_count (None ∷ None ∷ []) h ty n = refl
interleave_slot_count (None ∷ Some u ∷ []) h ty n = refl
interleave_slot_count (Some t ∷ None ∷ []) h ty n = refl
interleave_slot_count (Some t ∷ Some u ∷ []) h ty n = refl
interleave_slot_count (x ∷ y ∷ z ∷ xs) h ty n = absurd (omega (arith, h))

pub interleave_by_slots : (xs : List (Option Tree)) → 3 ≤ length xs → (ty : DataType) (n : ℕ)
    → interleave_refusal ty n (shapes (slots_of xs)) ≡ first_of_both (missing_refusal 0 (shapes (slots_of xs))) (present_refusal ty n (shapes (slots_of xs)))
interleave_by_slots [] h ty n = absurd (omega (arith, h))
interleave_by_slots (x ∷ []) h ty n = absurd (omega (arith, h))
interleave_by_slots (x ∷ y ∷ []) h ty n = absurd (omega (arith, h))
interleave_by_slots (None ∷ None ∷ None ∷ xs) h ty n = refl
interleave_by_slots (None ∷ None ∷ Some v ∷ xs) h ty n = refl
interleave_by_slots (None ∷ Some u ∷ None ∷ xs) h ty n = refl
interleave_by_slots (None ∷ Some u ∷ Some v ∷ xs) h ty n = refl
interleave_by_slots (Some t ∷ None ∷ None ∷ xs) h ty n = refl
interleave_by_slots (Some t ∷ None ∷ Some v ∷ xs) h ty n = refl
interleave_by_slots (Some t ∷ Some u ∷ None ∷ xs) h ty n = refl
interleave_by_slots (Some t ∷ Some u ∷ Some v ∷ xs) h ty n = refl

-- ---- the slots of these indices and values
module _ (ty : DataType) (n : ℕ) (xs : List (Option Tree)) (a r : Tree) (ts : List Tree) (typed : ty ≡ first_type ts) (counted : n ≡ len a)
    (listed : xs ≡ Some a ∷ Some r ∷ map Some ts) where
  slots_are : slots_of xs ≡ slot a (slot r (filled_slots ts))
  slots_are = ap slots_of listed ∙ ap (λ l. slot a (slot r l)) (filled_map ts)

  pub interleave_made : node ty n enc.interleave (slots_of xs) ≡ interleave_of a r ts
  interleave_made = λ i. node (typed i) (counted i) enc.interleave (slots_are i)

  pub interleave_refused : interleave_refusal ty n (shapes (slots_of xs)) ≡ interleaved_refusal a r ts
  interleave_refused = λ i. interleave_refusal (typed i) (counted i) (shapes (slots_are i))

-- what the constructor needs
pub ruleset interleaves = (interleave_made, interleave_refused)
