-- The 64 bits from a place on, of the two words that hold them.
use Rattle.std.specs.Prelude.{◌==◌, bit_or, slice_index}
use Rattle.std.proofs.Common.{◌≡◌, ◌<◌, ◌≤◌, ◌+◌, ◌-◌, ◌*◌, ◌/◌, ◌%◌, ◌^◌, ℕ, Bool, false, List, length, get_or, take, drop}
use Rattle.std.proofs.Common.{arith, sym, ◌∙◌, ap, refl, inl, inr, mod-lt, add-zero}
use Rattle.std.specs.Int.{bit_at}
use Rattle.std.proofs.Math.Nat.{div-div-eq-div-mul}
use Rattle.std.proofs.Math.Pow.{mod-mod-pow}
use Rattle.std.proofs.lemmas.Nat.{mod-pow-add, pow_pos, pow-add}
use Rattle.std.proofs.lemmas.Nat.Bits.{bit_at_lowest, bit_at-zero, bit_at_or, bit_at_above, bit_at_cat_low, bit_at_cat_high}
use Rattle.std.proofs.lemmas.Bool.{cases_lt}
use Rattle.std.proofs.lemmas.Bool.Decides.{nat_tests}
use Rattle.vx_mask.specs.Bits.{bit_of, bits_of, bit_of_both}
use Rattle.vx_mask.proofs.BitsLemmas.{bit_of_part, length_part}

-- a bit of a number that is shifted down
shifted_down : (n by i : ℕ) → bit_at (n / 2 ^ by) i ≡ bit_at n (by + i)
shifted_down n by i = ap (λ x. x % 2) (div-div-eq-div-mul n (2 ^ by) (2 ^ i) ∙ ap (λ x. n / x) (sym (pow-add 2 by i)))

-- bit i of a number is also that of its low i + 1 bits, and so of any more of them
bit_of_low : (n more i : ℕ) → bit_at (n % 2 ^ (more + 1 + i)) i ≡ bit_at n i
bit_of_low n more i =
    let m = n / 2 ^ i in
    let high : bit_at ((m % 2 ^ (more + 1)) * 2 ^ i + n % 2 ^ i) i ≡ bit_at (m % 2 ^ (more + 1)) (i - i) =
    bit_at_cat_high (m % 2 ^ (more + 1)) i (n % 2 ^ i) i (mod-lt n (pow_pos i)) (omega arith) in
    let lowest : i - i ≡ 0 = omega arith in
    ap (λ x. bit_at x i) (mod-pow-add n (more + 1) i) ∙ high ∙ ap (bit_at (m % 2 ^ (more + 1))) lowest
    ∙ bit_at_lowest (m % 2 ^ (more + 1)) ∙ mod-mod-pow m more 1

bit_of_rest : (n w i : ℕ) → i < w → bit_at (n % 2 ^ w) i ≡ bit_at n i
bit_of_rest n w i h =
    let parts : w ≡ w - i - 1 + 1 + i = omega arith in
    ap (λ x. bit_at (n % 2 ^ x) i) parts ∙ bit_of_low n (w - i - 1) i

-- a bit of a number that is shifted up: 0 below, and the number's above
shifted_up_low : (n by w i : ℕ) → i < by → i < w → bit_at (n * 2 ^ by % 2 ^ w) i ≡ 0
shifted_up_low n by w i h within =
    bit_of_rest (n * 2 ^ by) w i within ∙ ap (λ x. bit_at x i) (sym (add-zero (n * 2 ^ by))) ∙ bit_at_cat_low n by 0 i h ∙ bit_at-zero i

shifted_up_high : (n by w i : ℕ) → by ≤ i → i < w → bit_at (n * 2 ^ by % 2 ^ w) i ≡ bit_at n (i - by)
shifted_up_high n by w i h within =
    bit_of_rest (n * 2 ^ by) w i within ∙ ap (λ x. bit_at x i) (sym (add-zero (n * 2 ^ by))) ∙ bit_at_cat_high n by 0 i (pow_pos by) h

-- a bit of the lower one of two words, and one of the higher one
of_low : (low high i : ℕ) → i < 64 → bit_of_both low high i ≡ bit_at low i
of_low low high i h = grind (arith, nat_tests)

of_high : (low high i : ℕ) → 64 ≤ i → bit_of_both low high i ≡ bit_at high (i - 64)
of_high low high i h = grind (arith, nat_tests)

-- a bit of two words that are joined at place `by` of the lower one
pub joined_bit : (low high by i : ℕ) → low < 2 ^ 64 → 0 < by → by < 64 → i < 64
    → bit_at (bit_or (low / 2 ^ by) (high * 2 ^ (64 - by) % 2 ^ 64)) i ≡ bit_of_both low high (by + i)
joined_bit low high by i fits some by_in i_in =
    let either = bit_at_or (low / 2 ^ by) (high * 2 ^ (64 - by) % 2 ^ 64) i in
    let down = shifted_down low by i in
    elim (cases_lt (by + i) 64) [
      | inl lt ↦
          let up = shifted_up_low high (64 - by) 64 i (omega arith) i_in in
          let here = of_low low high (by + i) lt in
          grind arith
      | inr ge ↦
          let up = shifted_up_high high (64 - by) 64 i (omega arith) i_in in
          let none = bit_at_above low 64 (by + i) fits ge in
          let place : i - (64 - by) ≡ by + i - 64 = omega arith in
          let same = ap (bit_at high) place in
          let here = of_high low high (by + i) ge in
          grind arith
    ]

-- bit p of the words, by the word that holds it
held_by : (words : List ℕ) (p place at word : ℕ) → p / 64 ≡ place → p % 64 ≡ at → word ≡ slice_index words place
    → (bit_at word at == 1) ≡ bit_of words p
held_by words p place at word p_place p_at is = rw (p_place, p_at, is) refl

-- bit i from place `by` of a word on, by that word and the next one
pub bit_from : (words : List ℕ) (place by i low high : ℕ) → by < 64 → low ≡ slice_index words place → high ≡ slice_index words (place + 1) → i < 64
    → (bit_of_both low high (by + i) == 1) ≡ bit_of words (64 * place + by + i)
bit_from words place by i low high within low_is high_is h =
    elim (cases_lt (by + i) 64) [
      | inl lt ↦
          ap (λ x. x == 1) (of_low low high (by + i) lt)
          ∙ held_by words (64 * place + by + i) place (by + i) low (omega arith) (omega arith) low_is
      | inr ge ↦
          ap (λ x. x == 1) (of_high low high (by + i) ge)
          ∙ held_by words (64 * place + by + i) (place + 1) (by + i - 64) high (omega arith) (omega arith) high_is
    ]

-- bit i of a word that is read from the words is row `index + i` of the bits, the part that begins at s
pub row_of_part : (words : List ℕ) (s n place by index i : ℕ) (bit : Bool) (bits : List Bool) → bits ≡ take n (drop s (bits_of words))
    → s + n ≤ 64 * length words
    → 64 * place + by ≡ s + index → index + i < length bits → bit ≡ bit_of words (64 * place + by + i) → bit ≡ get_or bits (index + i) false
row_of_part words s n place by index i bit bits part bounds at within is =
    let from : 64 * place + by + i ≡ s + (index + i) = omega arith in
    let there : index + i < n = omega (arith, ap length part, length_part words s n bounds) in
    is ∙ ap (bit_of words) from ∙ sym (bit_of_part words s n (index + i) there bounds) ∙ ap (λ l. get_or l (index + i) false) (sym part)
