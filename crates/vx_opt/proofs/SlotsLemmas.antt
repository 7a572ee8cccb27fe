-- The slots of a root, by number.
use Rattle.std.proofs.Common.{◌≡◌, ℕ, zero, suc, ◌<◌, List, [], ◌∷◌, length, get_or, Option, Some, None, refl, sym, ◌∙◌, ap, subst, arith}
use Rattle.vx_tree.specs.Tree.{Tree, node, slots, slots_of}
use Rattle.vx_tree.specs.Slots.{HoldsAt, HasSlot, IsPresentAt, IsPresent, count_slots}
use Rattle.vx_tree.proofs.SlotsLemmas.{present_bound, present_some}

slots-length : (xs : List (Option Tree)) → count_slots (slots_of xs) ≡ length xs
slots-length [] = refl
slots-length (None ∷ xs) = omega (arith, slots-length xs)
slots-length (Some t ∷ xs) = omega (arith, slots-length xs)

holds_some : (xs : List (Option Tree)) (i : ℕ) (c : Tree) (d : Option Tree) → i < length xs → get_or xs i d ≡ Some c → HoldsAt i c (slots_of xs)
holds_some [] i c d h e = absurd (omega arith)
holds_some (None ∷ xs) zero c d h e = absurd (cc)
holds_some (None ∷ xs) (suc i) c d h e = holds_some xs i c d (omega arith) e
holds_some (Some t ∷ xs) zero c d h e = cc
holds_some (Some t ∷ xs) (suc i) c d h e = holds_some xs i c d (omega arith) e

-- ---- xs are the slots of t

pub counted_slots : (xs : List (Option Tree)) (t : Tree) → slots_of xs ≡ slots t → length xs ≡ count_slots (slots t)
counted_slots xs t e = sym (slots-length xs) ∙ ap count_slots e

pub child_found : (xs : List (Option Tree)) (t c : Tree) (i : ℕ) (k : Option Tree) → slots_of xs ≡ slots t → i < length xs → get_or xs i k ≡ Some c
    → HasSlot i c t
child_found xs (node ty n d ss) c i k e w h = subst (HoldsAt i c) e (holds_some xs i c k w h)

pub no_child : (xs : List (Option Tree)) (t : Tree) (i : ℕ) (k : Option Tree) → slots_of xs ≡ slots t → get_or xs i k ≡ None → IsPresent i t → ⊥
no_child xs (node ty n d ss) i k e h p = present_some xs i k (subst (IsPresentAt i) (sym e) p) h

pub within_slots : (xs : List (Option Tree)) (t : Tree) (i : ℕ) → slots_of xs ≡ slots t → IsPresent i t → i < length xs
within_slots xs (node ty n d ss) i e p = present_bound xs i (subst (IsPresentAt i) (sym e) p)
