-- Counts and places of true bits, and choices by them: of lists one after the other, of copies, of choices of choices.
use Rattle.std.proofs.Common.{◌≡◌, ◌<◌, ◌≤◌, ◌+◌, ℕ, zero, suc, Bool, true, false, not, List, [], ◌∷◌, ◌++◌, length, take, drop, replicate, arith, refl, sym, ◌∙◌, ap, subst, inl, inr}
use Rattle.std.specs.Prelude.{◌↔◌, Option, None, Some, IsSome, is_some}
use Rattle.std.specs.List.{list_all}
use Rattle.std.specs.Option.{option_map}
use Rattle.std.proofs.lemmas.Bool.{cases_lt, false≢true}
use Rattle.std.proofs.lemmas.List.{drop_all}
use Rattle.vx_mask.specs.Logic.{bit_row}
use Rattle.vx_mask.specs.Places.{true_count, true_place, combined, chosen}

-- ---- counts
pub true_count-nil : 0 ≡ true_count []
unfolding true_count
true_count-nil = refl

pub true_count-append : (xs ys : List Bool) → true_count (xs ++ ys) ≡ true_count xs + true_count ys
unfolding true_count
true_count-append [] ys = omega arith
true_count-append (true ∷ xs) ys = omega (arith, true_count-append xs ys)
true_count-append (false ∷ xs) ys = true_count-append xs ys

pub true_count-le-length : (xs : List Bool) → true_count xs ≤ length xs
unfolding true_count
true_count-le-length [] = omega arith
true_count-le-length (true ∷ xs) = omega (arith, true_count-le-length xs)
true_count-le-length (false ∷ xs) = omega (arith, true_count-le-length xs)

pub true_count-trues : (n : ℕ) → true_count (replicate n true) ≡ n
unfolding true_count
true_count-trues zero = refl
true_count-trues (suc n) = ap suc (true_count-trues n)

pub true_count-falses : (n : ℕ) → true_count (replicate n false) ≡ 0
unfolding true_count
true_count-falses zero = refl
true_count-falses (suc n) = true_count-falses n

-- every bit is true exactly if the count is the length, and every bit is false exactly if the count is 0
pub all_true_yes : (xs : List Bool) → true_count xs ≡ length xs → list_all (λ bit. bit) xs ≡ true
unfolding true_count
all_true_yes [] h = refl
all_true_yes (true ∷ xs) h = all_true_yes xs (omega arith)
all_true_yes (false ∷ xs) h = absurd (omega (arith, true_count-le-length xs))

pub all_true_no : (xs : List Bool) → true_count xs < length xs → list_all (λ bit. bit) xs ≡ false
unfolding true_count
all_true_no [] h = absurd (omega arith)
all_true_no (true ∷ xs) h = all_true_no xs (omega arith)
all_true_no (false ∷ xs) h = refl

pub all_false_yes : (xs : List Bool) → true_count xs ≡ 0 → list_all not xs ≡ true
unfolding true_count
all_false_yes [] h = refl
all_false_yes (true ∷ xs) h = absurd (omega arith)
all_false_yes (false ∷ xs) h = all_false_yes xs h

pub all_false_no : (xs : List Bool) → 0 < true_count xs → list_all not xs ≡ false
unfolding true_count
all_false_no [] h = absurd (omega arith)
all_false_no (true ∷ xs) h = refl
all_false_no (false ∷ xs) h = all_false_no xs h

-- ---- places
after_suc : (n : ℕ) (o : Option ℕ) → option_map suc (option_map (λ p. n + p) o) ≡ option_map (λ p. suc n + p) o
after_suc n None = refl
after_suc n (Some p) = let e : suc (n + p) ≡ suc n + p = omega arith in ap Some e

after_none : (o : Option ℕ) → option_map (λ p. 0 + p) o ≡ o
after_none None = refl
after_none (Some p) = let e : 0 + p ≡ p = omega arith in ap Some e

pub true_place-left : (xs ys : List Bool) (k : ℕ) → k < true_count xs → true_place (xs ++ ys) k ≡ true_place xs k
unfolding true_count true_place
true_place-left [] ys k h = absurd (omega arith)
true_place-left (true ∷ xs) ys zero h = refl
true_place-left (true ∷ xs) ys (suc k) h = ap (option_map suc) (true_place-left xs ys k (omega arith))
true_place-left (false ∷ xs) ys k h = ap (option_map suc) (true_place-left xs ys k h)

pub true_place-right : (xs ys : List Bool) (j k : ℕ) → j ≡ true_count xs + k → true_place (xs ++ ys) j ≡ option_map (λ p. length xs + p) (true_place ys k)
unfolding true_count true_place
true_place-right [] ys j k h = let e : j ≡ k = omega arith in ap (true_place ys) e ∙ sym (after_none (true_place ys k))
true_place-right (true ∷ xs) ys zero k h = absurd (omega arith)
true_place-right (true ∷ xs) ys (suc j) k h =
    ap (option_map suc) (true_place-right xs ys j k (omega arith)) ∙ after_suc (length xs) (true_place ys k)
true_place-right (false ∷ xs) ys j k h =
    ap (option_map suc) (true_place-right xs ys j k h) ∙ after_suc (length xs) (true_place ys k)

pub true_place-past : (xs : List Bool) (k : ℕ) → true_count xs ≤ k → true_place xs k ≡ None
unfolding true_count true_place
true_place-past [] k h = refl
true_place-past (true ∷ xs) zero h = absurd (omega arith)
true_place-past (true ∷ xs) (suc k) h = ap (option_map suc) (true_place-past xs k (omega arith))
true_place-past (false ∷ xs) k h = ap (option_map suc) (true_place-past xs k h)

pub true_place-trues : (n k : ℕ) → k < n → true_place (replicate n true) k ≡ Some k
unfolding true_place
true_place-trues zero k h = absurd (omega arith)
true_place-trues (suc n) zero h = refl
true_place-trues (suc n) (suc k) h = ap (option_map suc) (true_place-trues n k (omega arith))

-- ---- combined
pub length-combined : (xs ys : List Bool) → length (combined xs ys) ≡ length xs
unfolding combined
length-combined [] ys = refl
length-combined (false ∷ xs) ys = ap suc (length-combined xs ys)
length-combined (true ∷ xs) [] = ap suc (length-combined xs [])
length-combined (true ∷ xs) (y ∷ ys) = ap suc (length-combined xs ys)

pub combined-append : (xs ys zs : List Bool) → combined (xs ++ ys) zs ≡ combined xs zs ++ combined ys (drop (true_count xs) zs)
unfolding true_count combined
combined-append [] ys zs = refl
combined-append (false ∷ xs) ys zs = ap (λ l. false ∷ l) (combined-append xs ys zs)
combined-append (true ∷ xs) ys [] =
    ap (λ l. false ∷ l) (combined-append xs ys [] ∙ ap (λ l. combined xs [] ++ combined ys l) (drop_all {X = Bool} (true_count xs) [] (omega arith)))
combined-append (true ∷ xs) ys (z ∷ zs) = ap (λ l. z ∷ l) (combined-append xs ys zs)

-- only as many bits are read as are replaced
pub combined-read : (xs ys zs : List Bool) → take (true_count xs) ys ≡ take (true_count xs) zs → combined xs ys ≡ combined xs zs
unfolding true_count combined
combined-read [] ys zs h = refl
combined-read (false ∷ xs) ys zs h = ap (λ l. false ∷ l) (combined-read xs ys zs h)
combined-read (true ∷ xs) [] [] h = refl
combined-read (true ∷ xs) [] (z ∷ zs) h = absurd (cc)
combined-read (true ∷ xs) (y ∷ ys) [] h = absurd (cc)
combined-read (true ∷ xs) (y ∷ ys) (z ∷ zs) h =
    let first : y ≡ z = cc in
    let rest : take (true_count xs) ys ≡ take (true_count xs) zs = cc in
    ap (λ b. b ∷ combined xs ys) first ∙ ap (λ l. z ∷ l) (combined-read xs ys zs rest)

pub combined-trues : (xs : List Bool) (n : ℕ) → true_count xs ≤ n → combined xs (replicate n true) ≡ xs
unfolding true_count combined
combined-trues [] n h = refl
combined-trues (false ∷ xs) n h = ap (λ l. false ∷ l) (combined-trues xs n h)
combined-trues (true ∷ xs) zero h = absurd (omega arith)
combined-trues (true ∷ xs) (suc n) h = ap (λ l. true ∷ l) (combined-trues xs n (omega arith))

pub combined-falses : (xs : List Bool) (n : ℕ) → combined xs (replicate n false) ≡ replicate (length xs) false
unfolding combined
combined-falses [] n = refl
combined-falses (false ∷ xs) n = ap (λ l. false ∷ l) (combined-falses xs n)
combined-falses (true ∷ xs) zero = ap (λ l. false ∷ l) (combined-falses xs zero)
combined-falses (true ∷ xs) (suc n) = ap (λ l. false ∷ l) (combined-falses xs n)

pub combined-of_trues : (ys : List Bool) (n : ℕ) → length ys ≡ n → combined (replicate n true) ys ≡ ys
unfolding combined
combined-of_trues [] zero h = refl
combined-of_trues [] (suc n) h = absurd (omega arith)
combined-of_trues (y ∷ ys) zero h = absurd (omega arith)
combined-of_trues (y ∷ ys) (suc n) h = ap (λ l. y ∷ l) (combined-of_trues ys n (omega arith))

pub combined-of_falses : (n : ℕ) (ys : List Bool) → combined (replicate n false) ys ≡ replicate n false
unfolding combined
combined-of_falses zero ys = refl
combined-of_falses (suc n) ys = ap (λ l. false ∷ l) (combined-of_falses n ys)

pub true_count-combined : (xs ys : List Bool) → length ys ≤ true_count xs → true_count (combined xs ys) ≡ true_count ys
unfolding true_count combined
true_count-combined [] [] h = refl
true_count-combined [] (y ∷ ys) h = absurd (omega arith)
true_count-combined (false ∷ xs) ys h = true_count-combined xs ys h
true_count-combined (true ∷ xs) [] h = true_count-combined xs [] (omega arith)
true_count-combined (true ∷ xs) (true ∷ ys) h = ap suc (true_count-combined xs ys (omega arith))
true_count-combined (true ∷ xs) (false ∷ ys) h = true_count-combined xs ys (omega arith)

-- ---- chosen
pub chosen-nil : {A : Type 0} (bits : List Bool) → chosen {A = A} bits [] ≡ []
unfolding chosen
chosen-nil [] = refl
chosen-nil (true ∷ bits) = refl
chosen-nil (false ∷ bits) = refl

pub chosen-combined : {A : Type 0} (outer inner : List Bool) (items : List A) → chosen (combined outer inner) items ≡ chosen inner (chosen outer items)
unfolding combined chosen
chosen-combined [] inner items = sym (chosen-nil inner)
chosen-combined (b ∷ outer) inner [] = chosen-nil (combined (b ∷ outer) inner) ∙ sym (chosen-nil inner)
chosen-combined (false ∷ outer) inner (x ∷ items) = chosen-combined outer inner items
chosen-combined (true ∷ outer) [] (x ∷ items) = chosen-combined outer [] items
chosen-combined (true ∷ outer) (true ∷ inner) (x ∷ items) = ap (λ l. x ∷ l) (chosen-combined outer inner items)
chosen-combined (true ∷ outer) (false ∷ inner) (x ∷ items) = chosen-combined outer inner items

pub length-chosen : {A : Type 0} (bits : List Bool) (items : List A) → length bits ≤ length items → length (chosen bits items) ≡ true_count bits
unfolding true_count chosen
length-chosen [] items h = refl
length-chosen (b ∷ bits) [] h = absurd (omega arith)
length-chosen (true ∷ bits) (x ∷ items) h = ap suc (length-chosen bits items (omega arith))
length-chosen (false ∷ bits) (x ∷ items) h = length-chosen bits items (omega arith)

-- ---- a place by its bit, and by the bits before it
under_suc : (o : Option ℕ) (p : ℕ) → option_map suc o ≡ Some (suc p) → o ≡ Some p
under_suc None p h = absurd (cc)
under_suc (Some q) p h = let e : suc q ≡ suc p = cc in let e' : q ≡ p = omega arith in ap Some e'

no_zero : (o : Option ℕ) → option_map suc o ≡ Some 0 → ⊥
no_zero None h = absurd (cc)
no_zero (Some q) h = let e : suc q ≡ 0 = cc in omega arith

pub place_is : (bits : List Bool) (k p : ℕ) → true_place bits k ≡ Some p → (p < length bits) × (bit_row bits p ≡ true) × (true_count (take p bits) ≡ k)
unfolding true_count true_place
place_is [] k p h = absurd (cc)
place_is (true ∷ bits) zero zero h = (omega arith, refl, refl)
place_is (true ∷ bits) zero (suc p) h = let e : 0 ≡ suc p = cc in absurd (omega arith)
place_is (true ∷ bits) (suc k) zero h = absurd (no_zero (true_place bits k) h)
place_is (true ∷ bits) (suc k) (suc p) h =
    let rest = place_is bits k p (under_suc (true_place bits k) p h) in
    (omega arith, rest.1, ap suc rest.2)
place_is (false ∷ bits) k zero h = absurd (no_zero (true_place bits k) h)
place_is (false ∷ bits) k (suc p) h =
    let rest = place_is bits k p (under_suc (true_place bits k) p h) in
    (omega arith, rest.1, rest.2)

pub place_from : (bits : List Bool) (k p : ℕ) → p < length bits → bit_row bits p ≡ true → true_count (take p bits) ≡ k → true_place bits k ≡ Some p
unfolding true_count true_place
place_from [] k p h set before = absurd (omega arith)
place_from (true ∷ bits) zero zero h set before = refl
place_from (true ∷ bits) (suc k) zero h set before = absurd (omega arith)
place_from (false ∷ bits) k zero h set before = absurd (cc)
place_from (true ∷ bits) zero (suc p) h set before = absurd (omega arith)
place_from (true ∷ bits) (suc k) (suc p) h set before = ap (option_map suc) (place_from bits k p (omega arith) set (omega arith))
place_from (false ∷ bits) k (suc p) h set before = ap (option_map suc) (place_from bits k p (omega arith) set before)

pub place_some : (bits : List Bool) (k : ℕ) → k < true_count bits → (p : ℕ) × (true_place bits k ≡ Some p)
unfolding true_count true_place
place_some [] k h = absurd (omega arith)
place_some (true ∷ bits) zero h = (0, refl)
place_some (true ∷ bits) (suc k) h = let rest = place_some bits k (omega arith) in (suc rest.0, ap (option_map suc) rest.1)
place_some (false ∷ bits) k h = let rest = place_some bits k h in (suc rest.0, ap (option_map suc) rest.1)

pub place_some_below : (bits : List Bool) (k : ℕ) → IsSome (true_place bits k) ↔ (k < true_count bits)
place_some_below bits k = (
  λ some. elim (cases_lt k (true_count bits)) [
    | inl lt ↦ lt
    | inr ge ↦ absurd (false≢true (subst IsSome (true_place-past bits k ge) some))
  ],
  λ below. let found = place_some bits k below in ap is_some found.1,
)
