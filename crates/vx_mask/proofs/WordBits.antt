-- A word as the list of its bits: their count, the first, the last, and the word without its lowest true bit.
use Rattle.std.specs.Prelude.{◌==◌, Some, bit_and}
use Rattle.std.specs.Option.{option_map}
use Rattle.std.proofs.Common.{◌≡◌, ◌<◌, ◌≤◌, ◌+◌, ◌-◌, ◌*◌, ◌/◌, ◌%◌, ◌^◌, ℕ, zero, suc, min, Bool, true, false, List, ◌∷◌, length, get_or}
use Rattle.std.proofs.Common.{arith, refl, sym, ◌∙◌, ap, ap₂, subst, pow-suc}
use Rattle.std.specs.Int.{bit_at}
use Rattle.std.proofs.lemmas.Nat.{leading_top}
use Rattle.std.proofs.lemmas.Nat.Bits.{bit_at_lowest, bit_at-suc}
use lib.Bits.{and_step, and_self}
use lib.Count.{ones, ones_step, count_trailing_zeros, count_leading_zeros, under}
use Rattle.vx_mask.specs.Places.{true_count, true_place}
use Rattle.vx_mask.specs.Words.{low_bits}
use Rattle.vx_mask.proofs.PlacesLemmas.{true_count-le-length}

pub length-low_bits : (n w : ℕ) → length (low_bits n w) ≡ n
unfolding low_bits
length-low_bits zero w = refl
length-low_bits (suc n) w = ap suc (length-low_bits n (w / 2))

pub get_or-low_bits : (n w i : ℕ) → i < n → get_or (low_bits n w) i false ≡ (bit_at w i == 1)
unfolding low_bits
get_or-low_bits zero w i h = absurd (omega arith)
get_or-low_bits (suc n) w zero h = ap (λ x. x == 1) (sym (bit_at_lowest w))
get_or-low_bits (suc n) w (suc i) h = get_or-low_bits n (w / 2) i (omega arith) ∙ ap (λ x. x == 1) (sym (bit_at-suc w i))

-- the lowest digit is 0 or 1
pub by_digit : (P : ℕ → Type 0) (w : ℕ) → (w % 2 ≡ 0 → P 0) → (w % 2 ≡ 1 → P 1) → P (w % 2)
by_digit P w p q = at (w % 2) refl
  where
    at : (d : ℕ) → w % 2 ≡ d → P d
    at zero h = p h
    at (suc zero) h = q h
    at (suc (suc d)) h = absurd (omega arith)

-- ---- the count
count-cons : (d : ℕ) (xs : List Bool) → d < 2 → true_count ((d == 1) ∷ xs) ≡ d + true_count xs
unfolding true_count
count-cons zero xs h = omega arith
count-cons (suc zero) xs h = omega arith
count-cons (suc (suc d)) xs h = absurd (omega arith)

pub true_count-low_bits : (n w : ℕ) → w < 2 ^ n → ones w ≡ true_count (low_bits n w)
unfolding low_bits true_count ones
true_count-low_bits zero w h = let none : w ≡ 0 = omega arith in ap ones none
true_count-low_bits (suc n) w h =
    ones_step w ∙ ap (λ x. w % 2 + x) (true_count-low_bits n (w / 2) (omega (arith, pow-suc 2 n)))
    ∙ sym (count-cons (w % 2) (low_bits n (w / 2)) (omega arith))

pub low_bits-zero : (n : ℕ) → true_count (low_bits n 0) ≡ 0
unfolding low_bits true_count
low_bits-zero zero = refl
low_bits-zero (suc n) = low_bits-zero n

-- ---- the first and the last true bit
pub first_place : (n w : ℕ) → 0 < w → w < 2 ^ n → true_place (low_bits n w) 0 ≡ Some (count_trailing_zeros n w)
unfolding low_bits true_place count_trailing_zeros
first_place zero w some h = absurd (omega arith)
first_place (suc n) w some h =
    by_digit (λ d. true_place ((d == 1) ∷ low_bits n (w / 2)) 0 ≡ Some (under d (count_trailing_zeros n (w / 2)))) w
    (λ even. ap (option_map suc) (first_place n (w / 2) (omega arith) (omega (arith, pow-suc 2 n))))
    (λ odd. refl)

-- the place of the last of some true bits
abbrev IsLast : List Bool → ℕ → Type 0
IsLast xs j = (0 < true_count xs) × (true_place xs (true_count xs - 1) ≡ Some j)

last_cons : (b : Bool) (xs : List Bool) (j : ℕ) → IsLast xs j → IsLast (b ∷ xs) (suc j)
unfolding true_place true_count
last_cons false xs j h = (h.0, ap (option_map suc) h.1)
last_cons true xs j h =
    let some = h.0 in
    let before : suc (true_count xs) - 1 ≡ suc (true_count xs - 1) = omega arith in
    (omega arith, ap (true_place (true ∷ xs)) before ∙ ap (option_map suc) h.1)

last_one : (n : ℕ) → IsLast (low_bits (suc n) 1) 0
unfolding low_bits true_place true_count
last_one n =
    let alone : suc (true_count (low_bits n 0)) - 1 ≡ 0 = omega (arith, low_bits-zero n) in
    (omega arith, ap (true_place (true ∷ low_bits n 0)) alone)

-- the word's highest true bit stands at j
last_at : (n w j : ℕ) → 2 ^ j ≤ w → w < 2 ^ suc j → j < n → IsLast (low_bits n w) j
unfolding low_bits
last_at zero w j low high h = absurd (omega arith)
last_at (suc n) w zero low high h = let one : 1 ≡ w = omega arith in subst (λ x. IsLast (low_bits (suc n) x) 0) one (last_one n)
last_at (suc n) w (suc j) low high h =
    last_cons (w % 2 == 1) (low_bits n (w / 2)) j
    (last_at n (w / 2) j (omega (arith, pow-suc 2 j)) (omega (arith, pow-suc 2 (suc j))) (omega arith))

pub last_place : (n w : ℕ) → 0 < w → w < 2 ^ suc n
    → true_place (low_bits (suc n) w) (true_count (low_bits (suc n) w) - 1) ≡ Some (n - count_leading_zeros (suc n) w)
last_place n w some h =
    let top = leading_top (suc n) w some h in
    let place : n - count_leading_zeros (suc n) w ≡ top.0 = omega (arith, top.1) in
    (last_at (suc n) w top.0 top.2 top.3 (omega (arith, top.1))).1 ∙ ap Some (sym place)

-- ---- the word without its lowest true bit
pub clear_odd : (w : ℕ) → w % 2 ≡ 1 → bit_and w (w - 1) ≡ 2 * (w / 2)
clear_odd w odd =
    let half : (w - 1) / 2 ≡ w / 2 = omega arith in
    let low : min (w % 2) ((w - 1) % 2) ≡ 0 = omega arith in
    and_step w (w - 1) ∙ ap₂ (λ u v. u * 2 + v) (ap (bit_and (w / 2)) half ∙ and_self (w / 2)) low ∙ omega arith

pub clear_even : (w : ℕ) → 0 < w → w % 2 ≡ 0 → bit_and w (w - 1) ≡ 2 * bit_and (w / 2) (w / 2 - 1)
clear_even w some even =
    let half : (w - 1) / 2 ≡ w / 2 - 1 = omega arith in
    let low : min (w % 2) ((w - 1) % 2) ≡ 0 = omega arith in
    and_step w (w - 1) ∙ ap₂ (λ u v. u * 2 + v) (ap (bit_and (w / 2)) half) low ∙ omega arith

-- the bits of twice a word
low_bits-twice : (n m : ℕ) → low_bits (suc n) (2 * m) ≡ false ∷ low_bits n m
unfolding low_bits
low_bits-twice n m =
    let digit : 2 * m % 2 ≡ 0 = omega arith in
    let half : 2 * m / 2 ≡ m = omega arith in
    ap₂ (λ d h. (d == 1) ∷ low_bits n h) digit half

-- without the lowest true bit, the k-th one is the next of before
pub cleared_place : (n w k : ℕ) → 0 < w → true_place (low_bits n (bit_and w (w - 1))) k ≡ true_place (low_bits n w) (suc k)
unfolding low_bits true_place
cleared_place zero w k some = refl
cleared_place (suc n) w k some =
    by_digit (λ d. true_place (low_bits (suc n) (bit_and w (w - 1))) k ≡ true_place ((d == 1) ∷ low_bits n (w / 2)) (suc k)) w
    (λ even. ap (λ x. true_place (low_bits (suc n) x) k) (clear_even w some even)
    ∙ ap (λ l. true_place l k) (low_bits-twice n (bit_and (w / 2) (w / 2 - 1)))
    ∙ ap (option_map suc) (cleared_place n (w / 2) k (omega arith)))
    (λ odd. ap (λ x. true_place (low_bits (suc n) x) k) (clear_odd w odd) ∙ ap (λ l. true_place l k) (low_bits-twice n (w / 2)))

pub cleared_count : (n w : ℕ) → 0 < w → w < 2 ^ n → true_count (low_bits n w) ≡ suc (true_count (low_bits n (bit_and w (w - 1))))
unfolding low_bits true_count
cleared_count zero w some h = absurd (omega arith)
cleared_count (suc n) w some h =
    by_digit (λ d. true_count ((d == 1) ∷ low_bits n (w / 2)) ≡ suc (true_count (low_bits (suc n) (bit_and w (w - 1))))) w
    (λ even. cleared_count n (w / 2) (omega arith) (omega (arith, pow-suc 2 n))
    ∙ ap (λ l. suc (true_count l)) (sym (low_bits-twice n (bit_and (w / 2) (w / 2 - 1))))
    ∙ ap (λ x. suc (true_count (low_bits (suc n) x))) (sym (clear_even w some even)))
    (λ odd. ap (λ l. suc (true_count l)) (sym (low_bits-twice n (w / 2))) ∙ ap (λ x. suc (true_count (low_bits (suc n) x))) (sym (clear_odd w odd)))

pub some_word : (n w : ℕ) → 0 < true_count (low_bits n w) → 0 < w
some_word n zero h = absurd (omega (arith, low_bits-zero n))
some_word n (suc w) h = omega arith

pub true_count-le_size : (n w : ℕ) → true_count (low_bits n w) ≤ n
true_count-le_size n w = omega (arith, true_count-le-length (low_bits n w), length-low_bits n w)

-- the lowest true bit alone
pub lowest_bit : (n w : ℕ) → 0 < w → w < 2 ^ n → w - bit_and w (w - 1) ≡ 2 ^ count_trailing_zeros n w
unfolding count_trailing_zeros
lowest_bit zero w some h = absurd (omega arith)
lowest_bit (suc n) w some h =
    by_digit (λ d. w - bit_and w (w - 1) ≡ 2 ^ under d (count_trailing_zeros n (w / 2))) w
    (λ even.
    let less = bit_and (w / 2) (w / 2 - 1) in
    let half = lowest_bit n (w / 2) (omega arith) (omega (arith, pow-suc 2 n)) in
    let cleared = clear_even w some even in
    let twice = pow-suc 2 (count_trailing_zeros n (w / 2)) in
    omega arith)
    (λ odd. omega (arith, clear_odd w odd))
