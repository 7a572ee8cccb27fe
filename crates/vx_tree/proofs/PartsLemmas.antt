-- Rows of a tree as its parent's slot holds them, and the range of a canonical column.
use Rattle.std.proofs.Common.{◌≡◌, ◌≤◌, ℕ, zero, suc, ◌-◌, Bool, List, [], ◌∷◌, length, replicate, Option, Some, None, true, refl, sym, ap, ◌∙◌, subst}
use Rattle.std.specs.Prelude.{option_map}
use Rattle.vx_value.specs.Types.{DataType}
use Rattle.vx_value.specs.Values.{Value}
use Rattle.vx_value.specs.Cell.{value}
use Rattle.vx_mask.specs.Places.{true_count}
use Rattle.vx_mask.proofs.ChosenLemmas.{chosen-replicate}
use Rattle.vx_tree.specs.Tree as enc
use Rattle.vx_tree.specs.Tree.{Tree, Data, node, slots, slots_of, dtype, len, datum, column, slice_of, filter_of, constant_of, is_flat}
use Rattle.vx_tree.specs.Cells.{HasNoFault}
use Rattle.vx_tree.specs.Slots.{map_slots}
use Rattle.vx_tree.specs.Well.{IsWell, AreWell, IsNode, shapes}
use Rattle.vx_tree.specs.Columns.{data_range}
use Rattle.vx_tree.specs.Keeps.{KeepsExactly}
use Rattle.vx_tree.specs.Parts.{part_of, choice_of, column_range}
use Rattle.vx_tree.specs.Validities.{HasRange, IsValidityPart}
use Rattle.vx_tree.proofs.SlotsLemmas.{no_shapes}
use Rattle.vx_tree.proofs.KeepsLemmas.{exactly_refl, column_exactly}
use Rattle.vx_tree.proofs.ValiditiesLemmas.{constant_part}
use Rattle.vx_tree.proofs.FlatLemmas.{flat_has_range, flat_range_kept}

-- a part has the rows of the slice
pub part_exact : (a b : ℕ) (t : Tree) → IsWell t → a ≤ b → b ≤ len t → KeepsExactly (slice_of a b t) (part_of a b t)
part_exact a b (node ty n (enc.constant v) ss) w h k =
    subst (λ t. KeepsExactly (slice_of a b t) (constant_of v (b - a))) (λ i. node (sym w.0.0 i) n (enc.constant v) (sym (no_shapes ss w.0.2) i))
    (constant_part v n a b h k)
part_exact a b (node ty n d ss) w h k = exactly_refl (slice_of a b (node ty n d ss))

copies_whole : (n : ℕ) (v : Value) → HasNoFault (replicate n (value v))
copies_whole zero v = tt
copies_whole (suc n) v = copies_whole n v

-- a choice has the rows of the filter
pub choice_exact : (bits : List Bool) (t : Tree) → IsWell t → length bits ≡ len t → KeepsExactly (filter_of bits t) (choice_of bits t)
choice_exact bits (node ty n (enc.constant v) ss) w h =
    subst (λ t. KeepsExactly (filter_of bits t) (constant_of v (true_count bits))) (λ i. node (sym w.0.0 i) n (enc.constant v) (sym (no_shapes ss w.0.2) i))
    (column_exactly (filter_of bits (constant_of v n)) (constant_of v (true_count bits)) refl refl (chosen-replicate bits n (value v.value) h)
    (copies_whole (true_count bits) v.value, tt))
choice_exact bits (node ty n d ss) w h = exactly_refl (filter_of bits (node ty n d ss))

in_validity : (a b : ℕ) (v w : Option Tree) → AreWell (slots_of (v ∷ [])) → HasRange a b v → w ≡ option_map (part_of a b) v → IsValidityPart a b v w
in_validity a b None w g h e = e
in_validity a b (Some t) w g h e = (part_of a b t, e, part_exact a b t g.0 h.0 h.1)

slots_well : (t : Tree) → IsWell t → AreWell (slots t)
slots_well (node ty n d ss) w = w.1

-- the part of a flat column's validity
pub slot_part : (a b : ℕ) (v w : Option Tree) (t : Tree) → IsWell t → slots t ≡ slots_of (v ∷ []) → a ≤ b → b ≤ len t → is_flat (datum t) ≡ true
    → w ≡ option_map (part_of a b) v → IsValidityPart a b v w
slot_part a b v w t well s h k flat e = in_validity a b v w (subst AreWell s (slots_well t well)) (flat_has_range t v a b well flat s h k) e

mapped_slot : (f : Tree → Tree) (v : Option Tree) → slots_of (option_map f v ∷ []) ≡ map_slots f (slots_of (v ∷ []))
mapped_slot f None = refl
mapped_slot f (Some t) = refl

-- its range
pub flat_range_is : (a b : ℕ) (v w : Option Tree) (t : Tree) → slots t ≡ slots_of (v ∷ []) → w ≡ option_map (part_of a b) v
    → column (dtype t) (b - a) (data_range a b (datum t)) w ≡ column_range a b t
flat_range_is a b v w (node ty n d ss) s e =
    ap (node ty (b - a) (data_range a b d)) (ap (λ x. slots_of (x ∷ [])) e ∙ mapped_slot (part_of a b) v ∙ ap (map_slots (part_of a b)) (sym s))

-- a column of these parts may stand, keeps the slice, and is its range
abbrev pub IsCut : ℕ → ℕ → Tree → Option Tree → DataType → Data → Type 0
IsCut a b t w ty d =
    IsNode ty (b - a) d (shapes (slots_of (w ∷ []))) × KeepsExactly (slice_of a b t) (column ty (b - a) d w) × (column ty (b - a) d w ≡ column_range a b t)

pub flat_cut : (a b : ℕ) (t : Tree) (v w : Option Tree) (ty : DataType) (d e : Data) → IsWell t → slots t ≡ slots_of (v ∷ []) → a ≤ b → b ≤ len t
    → is_flat (datum t) ≡ true → w ≡ option_map (part_of a b) v → ty ≡ dtype t → d ≡ data_range a b e → e ≡ datum t → IsCut a b t w ty d
flat_cut a b t v w ty d e well s h k flat told typed part whole =
    let held : d ≡ data_range a b (datum t) = part ∙ ap (data_range a b) whole in
    let kept = flat_range_kept t v w a b well flat s k (slot_part a b v w t well s h k flat told) in
    subst (λ x. x) (λ i. IsCut a b t w (sym typed i) (sym held i)) (kept.0, kept.1, flat_range_is a b v w t s told)
