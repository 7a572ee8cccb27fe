-- Choices by bits: item by item, of lists one after the other, by counts and runs, of copies and of what a function gives.
use Rattle.std.specs.Prelude.{Option, None, Some, slice_get}
use Rattle.std.specs.Option.{option_map, option_and_then}
use Rattle.std.proofs.Common.{◌≡◌, ◌<◌, ◌≤◌, ◌+◌, ◌-◌, ℕ, zero, suc, Bool, true, false, List, [], ◌∷◌, ◌++◌, length, take, drop, map, replicate, slice_range}
use Rattle.std.proofs.Common.{arith, refl, sym, ◌∙◌, ap, ap₂, inl, inr}
use Rattle.std.proofs.Math.Seq.{drop-nil}
use Rattle.std.proofs.lemmas.Bool.{cases_lt, false≢true}
use Rattle.std.proofs.lemmas.List.{append-nil, get_or-take, get_or-drop, get_or_past, length-take, length-drop, take-append-drop, take_all, length-replicate}
use Rattle.vx_mask.specs.Logic.{bit_row}
use Rattle.vx_mask.specs.Places.{true_count, true_place, chosen, IsRun}
use Rattle.vx_mask.proofs.PlacesLemmas.{chosen-nil, true_count-trues, true_count-le-length}

-- ---- item by item
place_after : {A : Type 0} (x : A) (items : List A) (o : Option ℕ) → option_and_then (slice_get items) o ≡ option_and_then (slice_get (x ∷ items))
    (option_map suc o)
place_after x items None = refl
place_after x items (Some p) = refl

place_none : {A : Type 0} (o : Option ℕ) → None ≡ option_and_then (slice_get {X = A} []) o
place_none None = refl
place_none (Some p) = refl

pub chosen-item : {A : Type 0} (bits : List Bool) (items : List A) (k : ℕ) → slice_get (chosen bits items) k ≡ option_and_then (slice_get items)
    (true_place bits k)
unfolding chosen true_place
chosen-item [] items k = refl
chosen-item (bit ∷ bits) [] k = ap (λ l. slice_get l k) (chosen-nil (bit ∷ bits)) ∙ place_none (true_place (bit ∷ bits) k)
chosen-item (true ∷ bits) (x ∷ items) zero = refl
chosen-item (true ∷ bits) (x ∷ items) (suc k) = chosen-item bits items k ∙ place_after x items (true_place bits k)
chosen-item (false ∷ bits) (x ∷ items) k = chosen-item bits items k ∙ place_after x items (true_place bits k)

-- ---- of lists one after the other
pub chosen-append : {A : Type 0} (xs ys : List Bool) (items : List A) → chosen (xs ++ ys) items ≡ chosen xs items ++ chosen ys (drop (length xs) items)
unfolding chosen
chosen-append [] ys items = refl
chosen-append (x ∷ xs) ys [] = chosen-nil (x ∷ (xs ++ ys)) ∙ sym (ap₂ (λ l r. l ++ r) (chosen-nil (x ∷ xs))
    (ap (chosen ys) (drop-nil (length (x ∷ xs))) ∙ chosen-nil ys))
chosen-append (true ∷ xs) ys (y ∷ items) = ap (λ l. y ∷ l) (chosen-append xs ys items)
chosen-append (false ∷ xs) ys (y ∷ items) = chosen-append xs ys items

pub chosen-parts : {A : Type 0} (xs ys : List Bool) (items more : List A) → length xs ≡ length items
    → chosen (xs ++ ys) (items ++ more) ≡ chosen xs items ++ chosen ys more
unfolding chosen
chosen-parts [] ys [] more h = refl
chosen-parts [] ys (y ∷ items) more h = absurd (omega arith)
chosen-parts (x ∷ xs) ys [] more h = absurd (omega arith)
chosen-parts (true ∷ xs) ys (y ∷ items) more h = ap (λ l. y ∷ l) (chosen-parts xs ys items more (omega arith))
chosen-parts (false ∷ xs) ys (y ∷ items) more h = chosen-parts xs ys items more (omega arith)

-- ---- all items or none
pub chosen-all : {A : Type 0} (bits : List Bool) (items : List A) → true_count bits ≡ length bits → chosen bits items ≡ take (length bits) items
unfolding true_count chosen
chosen-all [] items h = refl
chosen-all (bit ∷ bits) [] h = chosen-nil (bit ∷ bits)
chosen-all (true ∷ bits) (x ∷ items) h = ap (λ l. x ∷ l) (chosen-all bits items (omega arith))
chosen-all (false ∷ bits) (x ∷ items) h = absurd (omega (arith, true_count-le-length bits))

pub chosen-none : {A : Type 0} (bits : List Bool) (items : List A) → true_count bits ≡ 0 → chosen bits items ≡ []
unfolding true_count chosen
chosen-none [] items h = refl
chosen-none (bit ∷ bits) [] h = chosen-nil (bit ∷ bits)
chosen-none (true ∷ bits) (x ∷ items) h = absurd (omega arith)
chosen-none (false ∷ bits) (x ∷ items) h = chosen-none bits items h

-- a choice of all items is the list
pub chosen-trues : {A : Type 0} (n : ℕ) (items : List A) → length items ≡ n → chosen (replicate n true) items ≡ items
chosen-trues n items size =
    let long = length-replicate n true in
    chosen-all (replicate n true) items (true_count-trues n ∙ sym long) ∙ take_all (length (replicate n true)) items (omega arith)

-- ---- of what a function gives, and of copies
pub chosen_map : {A B : Type 0} (f : A → B) (bits : List Bool) (items : List A) → chosen bits (map f items) ≡ map f (chosen bits items)
unfolding chosen
chosen_map f [] items = refl
chosen_map f (bit ∷ bits) [] = chosen-nil (bit ∷ bits) ∙ sym (ap (map f) (chosen-nil (bit ∷ bits)))
chosen_map f (true ∷ bits) (x ∷ items) = ap (λ l. f x ∷ l) (chosen_map f bits items)
chosen_map f (false ∷ bits) (x ∷ items) = chosen_map f bits items

pub chosen-replicate : {A : Type 0} (bits : List Bool) (n : ℕ) (x : A) → length bits ≡ n → chosen bits (replicate n x) ≡ replicate (true_count bits) x
unfolding true_count chosen
chosen-replicate [] n x h = refl
chosen-replicate (bit ∷ bits) zero x h = absurd (omega arith)
chosen-replicate (true ∷ bits) (suc n) x h = ap (λ l. x ∷ l) (chosen-replicate bits n x (omega arith))
chosen-replicate (false ∷ bits) (suc n) x h = chosen-replicate bits n x (omega arith)

-- ---- by a run
all_set : (bits : List Bool) → ((i : ℕ) → i < length bits → bit_row bits i ≡ true) → true_count bits ≡ length bits
unfolding true_count
all_set [] h = refl
all_set (true ∷ bits) h = ap suc (all_set bits (λ i lt. h (suc i) (omega arith)))
all_set (false ∷ bits) h = absurd (false≢true (h 0 (omega arith)))

none_set : (bits : List Bool) → ((i : ℕ) → bit_row bits i ≡ true → ⊥) → true_count bits ≡ 0
unfolding true_count
none_set [] h = refl
none_set (true ∷ bits) h = absurd (h 0 refl)
none_set (false ∷ bits) h = none_set bits (λ i set. h (suc i) set)

pub run_within : (bits : List Bool) (a b : ℕ) → IsRun bits a b → b ≤ length bits
run_within bits a b run = elim (cases_lt (length bits) b) [
  | inl lt ↦ absurd (false≢true (sym (get_or_past bits (b - 1) false (omega arith)) ∙ (run.1 (b - 1)).1 (omega (arith, run.0), omega (arith, run.0))))
  | inr ge ↦ ge
]

-- a choice of consecutive items is a slice
pub run_chosen : {A : Type 0} (bits : List Bool) (items : List A) (a b : ℕ) → IsRun bits a b → chosen bits items ≡ slice_range items a b
run_chosen bits items a b run =
    let within = run_within bits a b run in
    let before = take a bits in
    let from = drop a bits in
    let part = take (b - a) from in
    let after = drop (b - a) from in
    let front : length before ≡ a = omega (arith, length-take a bits, run.0) in
    let long : length part ≡ b - a = omega (arith, length-take (b - a) from, length-drop a bits) in
    let before_none = none_set before (λ i set. elim (cases_lt i a) [
      | inl lt ↦ absurd (omega (arith, ((run.1 i).0 (sym (get_or-take a bits i false lt) ∙ set)).0))
      | inr ge ↦ absurd (false≢true (sym (get_or_past before i false (omega arith)) ∙ set))
    ]) in
    let part_all = all_set part (λ i lt.
    get_or-take (b - a) from i false (omega arith) ∙ get_or-drop a bits i false ∙ (run.1 (a + i)).1 (omega arith, omega arith)) in
    let after_none = none_set after (λ i set.
    let place : a + (b - a + i) ≡ b + i = omega (arith, run.0) in
    let row = sym (get_or-drop (b - a) from i false ∙ get_or-drop a bits (b - a + i) false) ∙ set in
    absurd (omega (arith, run.0, ((run.1 (a + (b - a + i))).0 row).1))) in
    ap (λ l. chosen l items) (sym (take-append-drop a bits) ∙ ap (λ l. before ++ l) (sym (take-append-drop (b - a) from)))
    ∙ chosen-append before (part ++ after) items ∙ ap₂ (λ l n. l ++ chosen (part ++ after) (drop n items)) (chosen-none before items before_none) front
    ∙ chosen-append part after (drop a items)
    ∙ ap₂ (λ l r. l ++ r) (chosen-all part (drop a items) part_all ∙ ap (λ n. take n (drop a items)) long) (chosen-none after _ after_none)
    ∙ append-nil (slice_range items a b)
