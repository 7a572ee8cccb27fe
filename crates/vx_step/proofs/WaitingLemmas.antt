-- Slots that are columns, and those that are to become one.
use Rattle.std.proofs.Common.{◌≡◌, ℕ, zero, suc, ◌<◌, List, [], ◌∷◌, ◌++◌, length, get_or, take, Bool, true, false, Option, Some, None, refl, sym, ◌∙◌, ap, arith}
use Rattle.std.proofs.Math.Bool.{not}
use Rattle.vx_tree.specs.Tree.{Tree, slots_of, filled_slots, datum, is_columnar, all_present}
use Rattle.vx_tree.specs.Well.{shapes}
use Rattle.vx_tree.specs.Refusals.{is_present}
use Rattle.vx_tree.proofs.CallsLemmas.{filled_more}
use Rattle.vx_step.specs.Steps.{AwaitsAt}
use Rattle.vx_step.specs.Waiting.{AreColumns, HoldsColumn, waits, trees_of}
use Rattle.vx_step.specs.declared.steps.SlotTarget.TheVariants.{Columnar}

pub not_false : (b : Bool) → not b ≡ false → b ≡ true
not_false true h = refl
not_false false h = absurd (cc)

pub not_true : (b : Bool) → not b ≡ true → b ≡ false
not_true true h = absurd (cc)
not_true false h = refl

present_at : (xs : List (Option Tree)) (i : ℕ) (d : Option Tree) → all_present (shapes (slots_of xs)) ≡ true → i < length xs → is_present (get_or xs i d) ≡ true
present_at [] i d h k = absurd (omega arith)
present_at (None ∷ xs) i d h k = absurd (cc)
present_at (Some t ∷ xs) zero d h k = refl
present_at (Some t ∷ xs) (suc i) d h k = present_at xs i d h (omega arith)

holds : (s : Option Tree) → is_present s ≡ true → waits s ≡ false → HoldsColumn s
holds None h k = absurd (cc)
holds (Some t) h k = not_false (is_columnar (datum t)) k

columns_add : (xs : List (Option Tree)) (s : Option Tree) → AreColumns (slots_of xs) → HoldsColumn s → AreColumns (slots_of (xs ++ s ∷ []))
columns_add [] None h k = absurd k
columns_add [] (Some t) h k = (k, tt)
columns_add (None ∷ xs) s h k = absurd h
columns_add (Some u ∷ xs) s h k = (h.0, columns_add xs s h.1 k)

-- one slot more that doesn't wait
pub settled_more : (all xs : List (Option Tree)) (i : ℕ) (s : Option Tree) → all_present (shapes (slots_of all)) ≡ true → i < length all → s ≡ get_or all i s
    → AreColumns (slots_of xs) → waits s ≡ false → AreColumns (slots_of (xs ++ s ∷ []))
settled_more all xs i s h lt e cols w =
    columns_add xs s cols (holds s (ap is_present e ∙ present_at all i s h lt) w)

-- and one that does
pub waits_at : (xs : List (Option Tree)) (i : ℕ) (d : Option Tree) → i < length xs → AreColumns (slots_of (take i xs)) → waits (get_or xs i d) ≡ true
    → AwaitsAt Columnar i (slots_of xs)
waits_at [] i d k cols h = absurd (omega arith)
waits_at (None ∷ xs) zero d k cols h = absurd (cc)
waits_at (None ∷ xs) (suc i) d k cols h = absurd cols
waits_at (Some t ∷ xs) zero d k cols h = not_true (is_columnar (datum t)) h
waits_at (Some t ∷ xs) (suc i) d k cols h = (cols.0, waits_at xs i d (omega arith) cols.1 h)

pub holds_at : (xs : List (Option Tree)) (i : ℕ) (d : Option Tree) → AreColumns (slots_of xs) → i < length xs → HoldsColumn (get_or xs i d)
holds_at [] i d h k = absurd (omega arith)
holds_at (None ∷ xs) i d h k = absurd h
holds_at (Some t ∷ xs) zero d h k = h.0
holds_at (Some t ∷ xs) (suc i) d h k = holds_at xs i d h.1 (omega arith)

-- the columns of the slots, one more
pub columns_more : (xs : List (Option Tree)) (s : Option Tree) (ts us : List Tree) → filled_slots ts ≡ slots_of xs → HoldsColumn s → us ≡ ts ++ trees_of s
    → filled_slots us ≡ slots_of (xs ++ s ∷ [])
columns_more xs None ts us h k e = absurd k
columns_more xs (Some t) ts us h k e = ap filled_slots e ∙ sym (filled_more ts t xs (sym h))
