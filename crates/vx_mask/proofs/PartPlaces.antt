-- Counts and places of the true bits of a buffer, word by word.
use Rattle.std.specs.Prelude.{Some}
use Rattle.std.specs.Option.{option_map}
use Rattle.std.proofs.Common.{◌≡◌, ◌<◌, ◌≤◌, ◌+◌, ◌-◌, ◌*◌, ◌/◌, ◌%◌, ℕ, Bool, false, List, ◌++◌, length, take, drop, replicate, arith, sym, ◌∙◌, ap}
use Rattle.std.proofs.lemmas.List.{take-append-drop, take-append-le, take_all, length-take}
use Rattle.vx_mask.specs.Places.{true_count, true_place}
use Rattle.vx_mask.specs.Words.{low_bits}
use Rattle.vx_mask.proofs.Parts.{IsWordFrom, next_word}
use Rattle.vx_mask.proofs.PlacesLemmas.{true_count-append, true_count-falses, true_count-le-length, true_place-left, true_place-right}

-- the word is the part from `from` on, and false past the end
abbrev pub IsPart : List Bool → ℕ → ℕ → Type 0
IsPart bits from w = (n : ℕ) × (m : ℕ) × (take from bits ++ low_bits 64 w ≡ take m (bits ++ replicate n false))

pub part_within : (bits : List Bool) (from w : ℕ) → IsWordFrom bits from w → from + 64 ≤ length bits → IsPart bits from w
part_within bits from w is within =
    (0, from + 64, sym (next_word bits from w is within) ∙ sym (take-append-le (from + 64) bits (replicate 0 false) within))

pub part_last : (bits : List Bool) (k w : ℕ) → k ≡ length bits / 64
    → take (64 * (length bits / 64)) bits ++ low_bits 64 w ≡ bits ++ replicate (64 - length bits % 64) false
    → IsPart bits (64 * k) w
part_last bits k w at is =
    let padded = bits ++ replicate (64 - length bits % 64) false in (
      64 - length bits % 64,
      length padded,
      ap (λ n. take (64 * n) bits ++ low_bits 64 w) at ∙ is ∙ sym (take_all (length padded) padded (omega arith)),
    )

-- ---- counts
pub true_count-take-le : (n : ℕ) (bits : List Bool) → true_count (take n bits) ≤ true_count bits
true_count-take-le n bits = omega (arith, true_count-append (take n bits) (drop n bits), ap true_count (take-append-drop n bits))

true_count-padded : (bits : List Bool) (n : ℕ) → true_count (bits ++ replicate n false) ≡ true_count bits
true_count-padded bits n = omega (arith, true_count-append bits (replicate n false), true_count-falses n)

pub count_more : (bits : List Bool) (from next w : ℕ) → IsWordFrom bits from w → next ≡ from + 64 → next ≤ length bits
    → true_count (take next bits) ≡ true_count (take from bits) + true_count (low_bits 64 w)
count_more bits from next w is at within =
    ap (λ n. true_count (take n bits)) at ∙ ap true_count (next_word bits from w is (omega arith)) ∙ true_count-append (take from bits) (low_bits 64 w)

pub count_last : (bits : List Bool) (k w : ℕ) → k ≡ length bits / 64
    → take (64 * (length bits / 64)) bits ++ low_bits 64 w ≡ bits ++ replicate (64 - length bits % 64) false
    → true_count (take (64 * k) bits) + true_count (low_bits 64 w) ≡ true_count bits
count_last bits k w at is =
    ap (λ n. true_count (take (64 * n) bits) + true_count (low_bits 64 w)) at
    ∙ sym (true_count-append (take (64 * (length bits / 64)) bits) (low_bits 64 w)) ∙ ap true_count is ∙ true_count-padded bits (64 - length bits % 64)

pub count_part : (bits : List Bool) (from w : ℕ) → IsPart bits from w → true_count (take from bits) + true_count (low_bits 64 w) ≤ true_count bits
count_part bits from w part =
    omega (
      arith,
      true_count-append (take from bits) (low_bits 64 w),
      ap true_count part.2,
      true_count-take-le part.1 (bits ++ replicate part.0 false),
      true_count-padded bits part.0,
    )

-- with those of the k-th word, which is within the bits, they are no more than all
pub count_within : (bits : List Bool) (k w : ℕ) → IsWordFrom bits (64 * k) w → 64 * k + 64 ≤ length bits
    → true_count (take (64 * k) bits) + true_count (low_bits 64 w) ≤ true_count bits
count_within bits k w is within = count_part bits (64 * k) w (part_within bits (64 * k) w is within)

-- and so they can be counted
pub count_fits : (bits : List Bool) (k w : ℕ) → IsWordFrom bits (64 * k) w → 64 * k + 64 ≤ length bits
    → true_count (take (64 * k) bits) + true_count (low_bits 64 w) ≤ length bits
count_fits bits k w is within = omega (arith, count_within bits k w is within, true_count-le-length bits)

-- ---- places
pub place_in_part : (bits : List Bool) (from w k left place : ℕ) → IsPart bits from w → from ≤ length bits → left + true_count (take from bits) ≡ k
    → left < true_count (low_bits 64 w) → true_place (low_bits 64 w) left ≡ Some place → true_place bits k ≡ Some (from + place)
place_in_part bits from w k left place part within at some is =
    let word = low_bits 64 w in
    let tail = replicate part.0 false in
    let rest = drop part.1 (bits ++ tail) in
    let size : length (take from bits) ≡ from = omega (arith, length-take from bits) in
    let many = true_count-append (take from bits) word in
    let inside : k < true_count bits = omega (arith, count_part bits from w part) in
    sym (true_place-left bits tail k inside) ∙ ap (λ l. true_place l k) (sym (take-append-drop part.1 (bits ++ tail)) ∙ ap (λ l. l ++ rest) (sym part.2))
    ∙ true_place-left (take from bits ++ word) rest k (omega arith)
    ∙ true_place-right (take from bits) word k left (omega arith) ∙ ap (option_map (λ p. length (take from bits) + p)) is ∙ ap (λ n. Some (n + place)) size
