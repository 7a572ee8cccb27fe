-- Parts of parts of lists, and lists that are made row by row.
use Rattle.std.specs.Prelude.{slice_get}
use Rattle.std.proofs.Common.{◌≡◌, ◌<◌, ◌≤◌, ◌+◌, ◌-◌, ℕ, zero, suc, List, [], ◌∷◌, ◌++◌, length, take, drop, slice_range, map, replicate}
use Rattle.std.proofs.Common.{arith, refl, sym, ◌∙◌, ap, ap₂}
use Rattle.std.specs.List.{range_with_len}
use Rattle.std.proofs.lemmas.List.{take_all, drop-take, drop-drop, take-take, length-take}
use Rattle.std.proofs.lemmas.Option.{none-some}

-- the items from s + a to s + b are those from a to b of the n items from s on
pub part_of_part : {X : Type 0} (xs : List X) (s n a b : ℕ) → a ≤ b → b ≤ length (take n (drop s xs))
    → take (b - a) (drop (s + a) xs) ≡ slice_range (take n (drop s xs)) a b
part_of_part xs s n a b order bounds =
    let short : length (take n (drop s xs)) ≤ n = omega (arith, length-take n (drop s xs)) in
    let long : n ≡ a + (n - a) = omega arith in
    let within : b - a ≤ n - a = omega arith in
    rw (long, drop-take a (n - a) (drop s xs), take-take (b - a) (n - a) (drop a (drop s xs)) within, drop-drop a s xs) refl

same_from : {X : Type 0} (f g : ℕ → X) (s n : ℕ) → ((i : ℕ) → i < s + n → f i ≡ g i) → map f (range_with_len s n) ≡ map g (range_with_len s n)
same_from f g s zero h = refl
same_from f g s (suc n) h =
    λ j. h s (omega arith) j ∷ same_from f g (s + 1) n (λ i lt. h i (omega arith)) j

-- functions that agree on the first n rows give the same rows
pub same_below : {X : Type 0} (n : ℕ) (f g : ℕ → X) → ((i : ℕ) → i < n → f i ≡ g i) → map f (range_with_len 0 n) ≡ map g (range_with_len 0 n)
same_below n f g h = same_from f g 0 n (λ i lt. h i (omega arith))

copies_from : {X : Type 0} (s n : ℕ) (x : X) → map (λ i. x) (range_with_len s n) ≡ replicate n x
copies_from s zero x = refl
copies_from s (suc n) x = ap (λ l. x ∷ l) (copies_from (s + 1) n x)

-- a function that gives the same in each of the first n rows gives copies of it
pub all_below : {X : Type 0} (n : ℕ) (f : ℕ → X) (x : X) → ((i : ℕ) → i < n → f i ≡ x) → map f (range_with_len 0 n) ≡ replicate n x
all_below n f x h = same_below n f (λ i. x) h ∙ copies_from 0 n x

-- lists with the same item at each place are the same
pub same_items : {X : Type 0} (xs ys : List X) → ((k : ℕ) → slice_get xs k ≡ slice_get ys k) → xs ≡ ys
same_items [] [] h = refl
same_items [] (y ∷ ys) h = absurd (none-some y (h 0))
same_items (x ∷ xs) [] h = absurd (none-some x (sym (h 0)))
same_items (x ∷ xs) (y ∷ ys) h =
    let first = h 0 in
    let same : x ≡ y = cc in
    ap₂ (λ z l. z ∷ l) same (same_items xs ys (λ k. h (suc k)))

-- a list that is made longer by k copies of an item, n items long before
pub lengthened : {X : Type 0} (xs ys : List X) (n m k : ℕ) (x : X) → xs ≡ take (m + k) ys ++ replicate (m + k - n) x → n ≡ length ys → m ≡ n
    → xs ≡ ys ++ replicate k x
lengthened xs ys n m k x e long same =
    let more : m + k - n ≡ k = omega (arith, same) in
    e ∙ ap₂ (λ l j. l ++ replicate j x) (take_all (m + k) ys (omega arith)) more
