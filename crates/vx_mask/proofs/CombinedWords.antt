-- Bits that replace the true bits of others, word by word.
use Rattle.std.proofs.Common.{◌≡◌, ◌<◌, ◌≤◌, ◌+◌, ◌-◌, ◌*◌, ◌%◌, ◌^◌, ℕ, Bool, false, List, [], ◌∷◌, ◌++◌, length, get_or, take, drop, replicate}
use Rattle.std.proofs.Common.{arith, sym, ◌∙◌, ap, inl, inr}
use Rattle.std.proofs.lemmas.Bool.{cases_lt}
use Rattle.std.proofs.lemmas.List.{ext_get_or, get_or_append_left, get_or-append_right, length-append, length_push, take_at, nil_from_length}
use Rattle.std.proofs.lemmas.List.FromFn.{get_or-map-range_with_len, length-map-range_with_len}
use Rattle.vx_mask.specs.Bits.{bit_of, bits_of}
use Rattle.vx_mask.specs.Places.{true_count, combined}
use Rattle.vx_mask.specs.Words.{low_bits}
use Rattle.vx_mask.proofs.BitsLemmas.{before, in_last}
use Rattle.vx_mask.proofs.PlacesLemmas.{combined-append, combined-read, combined-of_trues, combined-of_falses, length-combined}
use Rattle.vx_mask.proofs.WordBits.{length-low_bits, get_or-low_bits, true_count-le_size}
use Rattle.vx_mask.proofs.Parts.{IsWordFrom, part_of_word, take-low_bits, low_bits-falses, low_bits-trues}

-- ---- one word
pub over_none : (bits : List Bool) → low_bits 64 0 ≡ combined (low_bits 64 0) bits
over_none bits = low_bits-falses 64 ∙ sym (ap (λ l. combined l bits) (low_bits-falses 64) ∙ combined-of_falses 64 bits)

-- a word that is read for the outer one serves as all the bits from there on
pub over_word : (bits : List Bool) (index outer w : ℕ) → IsWordFrom bits index w → index + true_count (low_bits 64 outer) ≤ length bits
    → combined (low_bits 64 outer) (low_bits 64 w) ≡ combined (low_bits 64 outer) (drop index bits)
over_word bits index outer w is within =
    let count = true_count (low_bits 64 outer) in
    let small : count ≤ 64 = true_count-le_size 64 outer in
    combined-read (low_bits 64 outer) (low_bits 64 w) (drop index bits) (take-low_bits count 64 w small ∙ part_of_word bits index w count is small within)

pub over_all : (bits : List Bool) (index w : ℕ) → IsWordFrom bits index w → index + true_count (low_bits 64 (2 ^ 64 - 1)) ≤ length bits
    → low_bits 64 w ≡ combined (low_bits 64 (2 ^ 64 - 1)) (drop index bits)
over_all bits index w is within =
    sym (combined-of_trues (low_bits 64 w) 64 (length-low_bits 64 w)) ∙ ap (λ l. combined l (low_bits 64 w)) (sym (low_bits-trues 64))
    ∙ over_word bits index (2 ^ 64 - 1) w is within

-- ---- all words
pub length-bits_of : (words : List ℕ) → length (bits_of words) ≡ 64 * length words
length-bits_of words = length-map-range_with_len (bit_of words) 0 (64 * length words)

get_or-bits_of : (words : List ℕ) (i : ℕ) → i < 64 * length words → get_or (bits_of words) i false ≡ bit_of words i
get_or-bits_of words i h = get_or-map-range_with_len (bit_of words) 0 (64 * length words) i i false h (omega arith)

pub bits_of_push : (words : List ℕ) (w : ℕ) → bits_of (words ++ w ∷ []) ≡ bits_of words ++ low_bits 64 w
bits_of_push words w =
    let new = words ++ w ∷ [] in
    let one_more : length new ≡ length words + 1 = length_push words w in
    let size = length-bits_of words in
    let word = length-low_bits 64 w in
    ext_get_or false (bits_of new) (bits_of words ++ low_bits 64 w)
    (omega (arith, length-bits_of new, length-append (bits_of words) (low_bits 64 w)))
    (λ i h.
    let inside : i < 64 * length new = omega (arith, length-bits_of new) in
    get_or-bits_of new i inside ∙ elim (cases_lt i (64 * length words)) [
      | inl lt ↦
          before words (w ∷ []) i (omega arith) ∙ sym (get_or-bits_of words i lt)
          ∙ sym (get_or_append_left (bits_of words) (low_bits 64 w) false i (omega arith))
      | inr ge ↦
          let place : i - 64 * length words ≡ i % 64 = omega arith in
          in_last words w i (omega arith) ∙ sym (get_or-low_bits 64 w (i % 64) (omega arith))
          ∙ ap (λ j. get_or (low_bits 64 w) j false) (sym place)
          ∙ sym (get_or-append_right (bits_of words) (low_bits 64 w) (64 * length words) i false size ge)
    ])

-- one more word replaces the bits of one more part
pub combine_more : (words : List ℕ) (part inner : List Bool) (outer w used : ℕ) → bits_of words ≡ combined part inner → used ≡ true_count part
    → low_bits 64 w ≡ combined (low_bits 64 outer) (drop used inner) → bits_of (words ++ w ∷ []) ≡ combined (part ++ low_bits 64 outer) inner
combine_more words part inner outer w used done at is =
    bits_of_push words w ∙ ap (λ l. l ++ low_bits 64 w) done
    ∙ ap (λ l. combined part inner ++ l) (is ∙ ap (λ n. combined (low_bits 64 outer) (drop n inner)) at)
    ∙ sym (combined-append part (low_bits 64 outer) inner)

-- false bits past the end change nothing
pub combine_end : (words : List ℕ) (bits inner : List Bool) (n : ℕ) → bits_of words ≡ combined (bits ++ replicate n false) inner
    → take (length bits) (bits_of words) ≡ combined bits inner
combine_end words bits inner n is =
    let rest = combined (replicate n false) (drop (true_count bits) inner) in
    ap (take (length bits)) (is ∙ combined-append bits (replicate n false) inner)
    ∙ take_at (combined bits inner) rest (length bits) (length-combined bits inner)

-- at the start there are no words
pub combine_none : (words : List ℕ) (inner : List Bool) → length words ≡ 0 → bits_of words ≡ combined [] inner
unfolding combined
combine_none words inner none = nil_from_length (bits_of words) (omega (arith, length-bits_of words))
