-- Bits that are spread over the true bits of a word.
use Rattle.std.specs.Prelude.{◌==◌, bit_and}
use Rattle.std.proofs.Common.{◌≡◌, ◌<◌, ◌≤◌, ◌+◌, ◌-◌, ◌*◌, ◌/◌, ◌%◌, ◌^◌, ℕ, zero, suc, Bool, true, false, cond, List, [], ◌∷◌, length}
use Rattle.std.proofs.Common.{arith, refl, sym, ◌∙◌, ap, ap₂, pow-suc}
use Rattle.std.proofs.Math.Nat.{mul_assoc, mul_comm, mod-eq_of_lt}
use lib.Count.{count_trailing_zeros}
use lib.Bits.{and_le_l, and_mask}
use lib.Lanes.{mask_l}
use Rattle.vx_mask.specs.Places.{combined}
use Rattle.vx_mask.specs.Words.{low_bits}
use Rattle.vx_mask.proofs.PlacesLemmas.{length-combined}
use Rattle.vx_mask.proofs.WordBits.{by_digit, lowest_bit, clear_odd, clear_even, length-low_bits}

-- of the n lowest bits, the true ones of the outer word replaced by the lowest ones of the inner word, in order
unfoldable pub spread_bits : ℕ → ℕ → ℕ → ℕ
spread_bits zero outer inner = 0
spread_bits (suc n) outer inner =
    cond (outer % 2 == 1) (inner % 2 + 2 * spread_bits n (outer / 2) (inner / 2)) (2 * spread_bits n (outer / 2) inner)

pub spread_bits-zero : (n inner : ℕ) → spread_bits n 0 inner ≡ 0
unfolding spread_bits
spread_bits-zero zero inner = refl
spread_bits-zero (suc n) inner = omega (arith, spread_bits-zero n inner)

pub spread_bits-lt : (n outer inner : ℕ) → spread_bits n outer inner < 2 ^ n
unfolding spread_bits
spread_bits-lt zero outer inner = omega arith
spread_bits-lt (suc n) outer inner =
    by_digit (λ d. cond (d == 1) (inner % 2 + 2 * spread_bits n (outer / 2) (inner / 2)) (2 * spread_bits n (outer / 2) inner) < 2 ^ suc n) outer
    (λ even. omega (arith, pow-suc 2 n, spread_bits-lt n (outer / 2) inner))
    (λ odd. omega (arith, pow-suc 2 n, spread_bits-lt n (outer / 2) (inner / 2)))

spread_bits-twice : (n outer inner : ℕ) → spread_bits (suc n) (2 * outer) inner ≡ 2 * spread_bits n outer inner
unfolding spread_bits
spread_bits-twice n outer inner =
    let digit : 2 * outer % 2 ≡ 0 = omega arith in
    let half : 2 * outer / 2 ≡ outer = omega arith in
    ap₂ (λ d h. cond (d == 1) (inner % 2 + 2 * spread_bits n h (inner / 2)) (2 * spread_bits n h inner)) digit half

-- the lowest true bit takes the inner word's lowest one, and the rest goes on
spread_digit : (n outer inner : ℕ) → 0 < outer → outer < 2 ^ n
    → spread_bits n outer inner ≡ (outer - bit_and outer (outer - 1)) * (inner % 2) + spread_bits n (bit_and outer (outer - 1)) (inner / 2)
unfolding spread_bits
spread_digit zero outer inner some h = absurd (omega arith)
spread_digit (suc n) outer inner some h =
    let rest = bit_and outer (outer - 1) in
    let half = outer / 2 in
    let less = bit_and half (half - 1) in
    by_digit
    (λ d. cond (d == 1) (inner % 2 + 2 * spread_bits n half (inner / 2)) (2 * spread_bits n half inner)
    ≡ (outer - rest) * (inner % 2) + spread_bits (suc n) rest (inner / 2))
    outer
    (λ even.
    let cleared = clear_even outer some even in
    let below : less ≤ half = and_le_l half (half - 1) in
    let lowest : outer - rest ≡ 2 * (half - less) = omega arith in
    let taken : (outer - rest) * (inner % 2) ≡ 2 * ((half - less) * (inner % 2)) = ap (λ x. x * (inner % 2)) lowest ∙ mul_assoc 2 (half - less) (inner % 2) in
    let others : spread_bits (suc n) rest (inner / 2) ≡ 2 * spread_bits n less (inner / 2) =
    ap (λ x. spread_bits (suc n) x (inner / 2)) cleared ∙ spread_bits-twice n less (inner / 2) in
    let before = spread_digit n half inner (omega arith) (omega (arith, pow-suc 2 n)) in
    omega (arith, taken, others, before))
    (λ odd.
    let cleared = clear_odd outer odd in
    let lowest : outer - rest ≡ 1 = omega arith in
    let taken : (outer - rest) * (inner % 2) ≡ inner % 2 = ap (λ x. x * (inner % 2)) lowest ∙ omega arith in
    let others : spread_bits (suc n) rest (inner / 2) ≡ 2 * spread_bits n half (inner / 2) =
    ap (λ x. spread_bits (suc n) x (inner / 2)) cleared ∙ spread_bits-twice n half (inner / 2) in
    omega (arith, taken, others))

pub spread_bits-step : (n outer inner : ℕ) → 0 < outer → outer < 2 ^ n
    → spread_bits n outer inner
    ≡ bit_and inner 1 * 2 ^ count_trailing_zeros n outer % 2 ^ n + spread_bits n (bit_and outer (outer - 1)) (inner / 2)
spread_bits-step n outer inner some h =
    let rest = bit_and outer (outer - 1) in
    let digit = inner % 2 in
    let lowest = lowest_bit n outer some h in
    let taken : (outer - rest) * digit ≡ bit_and inner 1 * 2 ^ count_trailing_zeros n outer =
    ap (λ x. x * digit) lowest ∙ mul_comm (2 ^ count_trailing_zeros n outer) digit
    ∙ ap (λ x. x * 2 ^ count_trailing_zeros n outer) (sym (and_mask inner 1)) in
    let step = spread_digit n outer inner some h in
    let fits = spread_bits-lt n outer inner in
    let small : bit_and inner 1 * 2 ^ count_trailing_zeros n outer < 2 ^ n = omega (arith, step, fits, taken) in
    step ∙ ap (λ x. x + spread_bits n rest (inner / 2)) (taken ∙ sym (mod-eq_of_lt small))

-- ---- as lists
pub digit_of : (w : ℕ) → cond (w % 2 == 1) 1 0 ≡ w % 2
digit_of w = by_digit (λ d. cond (d == 1) 1 0 ≡ d) w (λ even. refl) (λ odd. refl)

spread_list : (n outer m inner : ℕ) → inner < 2 ^ m → spread_bits n outer inner ≡ mask_l (combined (low_bits n outer) (low_bits m inner))
unfolding spread_bits low_bits combined
spread_list zero outer m inner h = refl
spread_list (suc n) outer zero inner h =
    by_digit
    (λ d. cond (d == 1) (inner % 2 + 2 * spread_bits n (outer / 2) (inner / 2)) (2 * spread_bits n (outer / 2) inner)
    ≡ mask_l (combined ((d == 1) ∷ low_bits n (outer / 2)) []))
    outer
    (λ even. omega (arith, spread_list n (outer / 2) zero inner h))
    (λ odd. omega (arith, spread_list n (outer / 2) zero (inner / 2) (omega arith)))
spread_list (suc n) outer (suc m) inner h =
    by_digit
    (λ d. cond (d == 1) (inner % 2 + 2 * spread_bits n (outer / 2) (inner / 2)) (2 * spread_bits n (outer / 2) inner)
    ≡ mask_l (combined ((d == 1) ∷ low_bits n (outer / 2)) ((inner % 2 == 1) ∷ low_bits m (inner / 2))))
    outer
    (λ even. omega (arith, spread_list n (outer / 2) (suc m) inner h))
    (λ odd. omega (arith, digit_of inner, spread_list n (outer / 2) m (inner / 2) (omega (arith, pow-suc 2 m))))

-- the bits of the word that some bits make
pub low_bits-mask_l : (n : ℕ) (xs : List Bool) → length xs ≡ n → low_bits n (mask_l xs) ≡ xs
unfolding low_bits
low_bits-mask_l zero [] h = refl
low_bits-mask_l zero (x ∷ xs) h = absurd (omega arith)
low_bits-mask_l (suc n) [] h = absurd (omega arith)
low_bits-mask_l (suc n) (true ∷ xs) h =
    let digit : (1 + 2 * mask_l xs) % 2 ≡ 1 = omega arith in
    let half : (1 + 2 * mask_l xs) / 2 ≡ mask_l xs = omega arith in
    ap₂ (λ d l. (d == 1) ∷ low_bits n l) digit half ∙ ap (λ l. true ∷ l) (low_bits-mask_l n xs (omega arith))
low_bits-mask_l (suc n) (false ∷ xs) h =
    let digit : (0 + 2 * mask_l xs) % 2 ≡ 0 = omega arith in
    let half : (0 + 2 * mask_l xs) / 2 ≡ mask_l xs = omega arith in
    ap₂ (λ d l. (d == 1) ∷ low_bits n l) digit half ∙ ap (λ l. false ∷ l) (low_bits-mask_l n xs (omega arith))

pub spread_is : (n outer inner : ℕ) → inner < 2 ^ n → low_bits n (spread_bits n outer inner) ≡ combined (low_bits n outer) (low_bits n inner)
spread_is n outer inner h =
    let long : length (combined (low_bits n outer) (low_bits n inner)) ≡ n = length-combined (low_bits n outer) (low_bits n inner) ∙ length-low_bits n outer in
    ap (low_bits n) (spread_list n outer n inner h) ∙ low_bits-mask_l n (combined (low_bits n outer) (low_bits n inner)) long
