-- Bits that are gathered from the true bits of a word.
use Rattle.std.specs.Prelude.{◌==◌, bit_and, Some, slice_get}
use Rattle.std.proofs.Common.{◌≡◌, ◌<◌, ◌+◌, ◌-◌, ◌*◌, ◌/◌, ◌%◌, ◌^◌, ℕ, false, length, arith, sym, ◌∙◌, ap, ap₂}
use Rattle.std.proofs.Math.Nat.{mul_assoc, mul_comm, mul-add}
use Rattle.std.proofs.lemmas.Nat.{pow-add, one_shl}
use Rattle.std.proofs.lemmas.Nat.Bits.{shr_and_one}
use Rattle.std.proofs.lemmas.Option.{slice_get-get_or}
use Rattle.std.proofs.lemmas.Simd.{mask_l-lt, mask_l-mod}
use lib.Count.{count_trailing_zeros}
use lib.Lanes.{mask_l}
use Rattle.vx_mask.specs.Places.{true_count, chosen}
use Rattle.vx_mask.specs.Words.{low_bits}
use Rattle.vx_mask.proofs.PlacesLemmas.{length-chosen, place_is}
use Rattle.vx_mask.proofs.WordBits.{by_digit, first_place, length-low_bits, get_or-low_bits, true_count-le_size}
use Rattle.vx_mask.proofs.ChosenLemmas.{chosen-none}
use Rattle.vx_mask.proofs.ChosenWords.{next_chosen}
use Rattle.vx_mask.proofs.Spread.{digit_of, low_bits-mask_l}

-- the bits of `word` at the true bits of `places`, as a number
abbrev pub gathered : ℕ → ℕ → ℕ
gathered places word = mask_l (chosen (low_bits 64 places) (low_bits 64 word))

pub length-gathered : (places word : ℕ) → length (chosen (low_bits 64 places) (low_bits 64 word)) ≡ true_count (low_bits 64 places)
length-gathered places word =
    length-chosen (low_bits 64 places) (low_bits 64 word) (omega (arith, length-low_bits 64 places, length-low_bits 64 word))

pub gathered-fits : (places word : ℕ) → gathered places word < 2 ^ 64
gathered-fits places word =
    let bits = chosen (low_bits 64 places) (low_bits 64 word) in
    omega (arith, mask_l-mod bits 64 (omega (arith, length-gathered places word, true_count-le_size 64 places)))

pub gathered-above : (places word : ℕ) → gathered places word < 2 ^ true_count (low_bits 64 places)
gathered-above places word =
    let above = mask_l-lt (chosen (low_bits 64 places) (low_bits 64 word)) in
    omega (arith, above, ap (λ n. 2 ^ n) (length-gathered places word))

pub gathered-bits : (places word : ℕ) → low_bits (true_count (low_bits 64 places)) (gathered places word) ≡ chosen (low_bits 64 places) (low_bits 64 word)
gathered-bits places word =
    low_bits-mask_l (true_count (low_bits 64 places)) (chosen (low_bits 64 places) (low_bits 64 word)) (length-gathered places word)

pub gathered-none : (places word : ℕ) → true_count (low_bits 64 places) ≡ 0 → gathered places word ≡ 0
gathered-none places word none = ap mask_l (chosen-none (low_bits 64 places) (low_bits 64 word) none)

pub lowest_inside : (w : ℕ) → 0 < w → w < 2 ^ 64 → count_trailing_zeros 64 w < 64
lowest_inside w some fits = omega (arith, (place_is (low_bits 64 w) 0 (count_trailing_zeros 64 w) (first_place 64 w some fits)).0, length-low_bits 64 w)

-- the bit at the lowest place comes first
gathered-first : (places word : ℕ) → 0 < places → places < 2 ^ 64
    → gathered places word ≡ word / 2 ^ count_trailing_zeros 64 places % 2 + 2 * gathered (bit_and places (places - 1)) word
gathered-first places word some fits =
    let p = count_trailing_zeros 64 places in
    let bits = low_bits 64 word in
    let place = first_place 64 places some fits in
    let inside = lowest_inside places some fits in
    let item : slice_get bits p ≡ Some (word / 2 ^ p % 2 == 1) =
    slice_get-get_or bits p false (omega (arith, length-low_bits 64 word)) ∙ ap Some (get_or-low_bits 64 word p inside) in
    ap mask_l (next_chosen places bits p (word / 2 ^ p % 2 == 1) some place item)
    ∙ ap (λ d. d + 2 * gathered (bit_and places (places - 1)) word) (digit_of (word / 2 ^ p))

-- with the bits so far in the lowest `count` places
pub gathered-step : (places word count : ℕ) → 0 < places → places < 2 ^ 64 → count < 64
    → 2 ^ count * gathered places word
    ≡ bit_and (word / 2 ^ count_trailing_zeros 64 places) 1 * 2 ^ count % 2 ^ 64 + 2 ^ (count + 1) * gathered (bit_and places (places - 1)) word
gathered-step places word count some fits small =
    let moved = word / 2 ^ count_trailing_zeros 64 places in
    let rest = gathered (bit_and places (places - 1)) word in
    let digit : bit_and moved 1 ≡ moved % 2 = shr_and_one word (count_trailing_zeros 64 places) in
    let kept : moved % 2 * 2 ^ count % 2 ^ 64 ≡ moved % 2 * 2 ^ count =
    by_digit (λ d. d * 2 ^ count % 2 ^ 64 ≡ d * 2 ^ count) moved (λ even. omega arith) (λ odd. omega (arith, one_shl count 64 small)) in
    let next : 2 ^ count * (2 * rest) ≡ 2 ^ (count + 1) * rest = sym (mul_assoc (2 ^ count) 2 rest) ∙ ap (λ x. x * rest) (sym (pow-add 2 count 1)) in
    ap (λ x. 2 ^ count * x) (gathered-first places word some fits) ∙ mul-add (2 ^ count) (moved % 2) (2 * rest)
    ∙ ap₂ (λ x y. x + y) (mul_comm (2 ^ count) (moved % 2) ∙ sym kept ∙ ap (λ d. d * 2 ^ count % 2 ^ 64) (sym digit)) next
