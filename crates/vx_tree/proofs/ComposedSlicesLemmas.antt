-- Slices of nested columns, slot by slot.
use Rattle.std.proofs.Common.{◌≡◌, ◌≤◌, ◌<◌, ℕ, ◌+◌, ◌-◌, List, [], ◌∷◌, length, map, ◌++◌, take, drop, get_or, Option, Some, None, refl, sym, ap, subst, ◌∙◌}
use Rattle.std.specs.Prelude.{option_map}
use Rattle.std.proofs.lemmas.List.{drop_more, take_more, map-append}
use Rattle.vx_tree.specs.Tree as enc
use Rattle.vx_tree.specs.Tree.{Tree, Data, node, dtype, len, datum, slots, slots_of, slice_of}
use Rattle.vx_tree.specs.Slots.{map_slots}
use Rattle.vx_tree.specs.Parts.{part_of, column_range}
use Rattle.vx_tree.specs.Well.{IsNode, IsWell, shapes}
use Rattle.vx_tree.specs.Keeps.{KeepsExactly}
use Rattle.vx_tree.specs.Validities.{HasRange, HaveRange}
use Rattle.vx_tree.specs.declared.array.layout.Layout.{Layout}
use Rattle.vx_tree.proofs.ComposedLemmas.{composed_part, composed_ranges}

pub mapped : (f : Tree → Tree) (xs : List (Option Tree)) → slots_of (map (option_map f) xs) ≡ map_slots f (slots_of xs)
mapped f [] = refl
mapped f (None ∷ xs) = ap enc.absent (mapped f xs)
mapped f (Some t ∷ xs) = ap (enc.slot (f t)) (mapped f xs)

-- the next slot's tree has the range, and so have those after it
pub next_range : (a b : ℕ) (xs : List (Option Tree)) (i : ℕ) (x : Option Tree) → i < length xs → x ≡ get_or xs i x → HaveRange a b (drop i xs)
    → HasRange a b x × HaveRange a b (drop (i + 1) xs)
next_range a b xs i x h is all =
    let both : HaveRange a b (get_or xs i x ∷ drop (i + 1) xs) = subst (HaveRange a b) (drop_more xs i x h) all in
    (subst (HasRange a b) (sym is) both.0, both.1)

-- a nested column's slots have each range of its rows, and the slices of them make the column of the range
pub sliced : (l : Layout) (t : Tree) (a b : ℕ) (xs : List (Option Tree)) → IsWell t → enc.composed l ≡ datum t → slots_of xs ≡ slots t → a ≤ b → b ≤ len t
    → HaveRange a b xs
    × (IsNode (dtype t) (b - a) (enc.composed l) (shapes (map_slots (part_of a b) (slots_of xs)))
    × (KeepsExactly (slice_of a b t) (node (dtype t) (b - a) (enc.composed l) (map_slots (part_of a b) (slots_of xs)))
    × (node (dtype t) (b - a) (enc.composed l) (map_slots (part_of a b) (slots_of xs)) ≡ column_range a b t)))
sliced l (node ty n d ss) a b xs w e f p q =
    let same : node ty n (enc.composed l) (slots_of xs) ≡ node ty n d ss = λ i. node ty n (e i) (f i) in
    let whole : IsWell (node ty n (enc.composed l) (slots_of xs)) = subst IsWell (sym same) w in
    let part = composed_part l ty n a b (slots_of xs) whole p q in
    let kept = subst (λ t. KeepsExactly (slice_of a b t) (column_range a b (node ty n (enc.composed l) (slots_of xs)))) same part.1 in
    (composed_ranges l ty n a b xs whole.0 p q, (part.0, (kept, ap (column_range a b) same)))

pub grown : (f : Tree → Tree) (xs ys zs : List (Option Tree)) (i : ℕ) (x w : Option Tree) → ys ≡ map (option_map f) (take i xs) → i < length xs → x ≡ get_or xs i x
    → w ≡ option_map f x → zs ≡ ys ++ w ∷ [] → zs ≡ map (option_map f) (take (i + 1) xs)
grown f xs ys zs i x w so h is made more =
    more ∙ (λ j. so j ++ (made ∙ ap (option_map f) is) j ∷ []) ∙ sym (ap (map (option_map f)) (take_more xs i x h) ∙ map-append (option_map f) (take i xs) (get_or xs i x ∷ []))
