-- Which slots hold trees, with one slot more.
use Rattle.std.proofs.Common.{◌≡◌, ℕ, ◌+◌, List, [], ◌∷◌, ◌++◌, length, Option, Some, None, true, false, refl, ap, ◌∙◌, arith}
use Rattle.std.specs.Prelude.{is_some}
use Rattle.vx_tree.specs.Tree.{Tree, slots_of}
use Rattle.vx_tree.specs.Slots.{present_from}

-- the number of a slot that holds a tree
abbrev number_at : ℕ → Option Tree → List ℕ
number_at n None = []
number_at n (Some t) = n ∷ []

present_end : (k : ℕ) (xs : List (Option Tree)) (s : Option Tree) → present_from k (slots_of (xs ++ s ∷ [])) ≡ present_from k (slots_of xs) ++ number_at
    (k + length xs) s
present_end k [] None = refl
present_end k [] (Some t) = ap (λ n. n ∷ []) (let e : k ≡ k + 0 = omega arith in e)
present_end k (None ∷ xs) s = present_end (k + 1) xs s ∙ ap (λ n. present_from (k + 1) (slots_of xs) ++ number_at n s)
    (let e : k + 1 + length xs ≡ k + length (None ∷ xs) = omega arith in e)
present_end k (Some t ∷ xs) s =
    ap (λ ns. k ∷ ns) (present_end (k + 1) xs s ∙ ap (λ n. present_from (k + 1) (slots_of xs) ++ number_at n s)
    (let e : k + 1 + length xs ≡ k + length (Some t ∷ xs) = omega arith in e))

pub present_more : (xs : List (Option Tree)) (s : Option Tree) (i : ℕ) (t : Tree) → length xs ≡ i → s ≡ Some t
    → present_from 0 (slots_of (xs ++ s ∷ [])) ≡ present_from 0 (slots_of xs) ++ i ∷ []
present_more xs s i t e h =
    present_end 0 xs s ∙ (λ j. present_from 0 (slots_of xs) ++ number_at (0 + length xs) (h j))
    ∙ ap (λ n. present_from 0 (slots_of xs) ++ n ∷ []) (let z : 0 + length xs ≡ i = omega (arith, e) in z)

append_none : (ns : List ℕ) → ns ++ [] ≡ ns
append_none [] = refl
append_none (n ∷ ns) = ap (λ xs. n ∷ xs) (append_none ns)

pub absent_more : (xs : List (Option Tree)) (s : Option Tree) → s ≡ None → present_from 0 (slots_of (xs ++ s ∷ [])) ≡ present_from 0 (slots_of xs)
absent_more xs s h = present_end 0 xs s ∙ (λ j. present_from 0 (slots_of xs) ++ number_at (0 + length xs) (h j)) ∙ append_none (present_from 0 (slots_of xs))

pub some_is : (s : Option Tree) → is_some s ≡ true → (t : Tree) × (s ≡ Some t)
some_is None h = absurd (cc (h))
some_is (Some t) h = (t, refl)

pub none_is : (s : Option Tree) → is_some s ≡ false → s ≡ None
none_is None h = refl
none_is (Some t) h = absurd (cc (h))
