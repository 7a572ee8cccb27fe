-- The bits of words: the first ones, a part of them, and those of one more word.
use Rattle.std.specs.Prelude.{◌==◌, slice_get, slice_index, Some}
use Rattle.std.proofs.Common.{◌≡◌, ◌<◌, ◌≤◌, ◌+◌, ◌-◌, ◌*◌, ◌/◌, ◌%◌, ◌^◌, ℕ, Bool, true, false, List, [], ◌∷◌, ◌++◌, length, get_or, take, drop}
use Rattle.std.proofs.Common.{map, replicate, cond, arith, ◌∙◌, ap, refl}
use Rattle.std.specs.Int.{bit_at}
use Rattle.std.specs.List.{range_with_len}
use Rattle.std.proofs.Math.ListN.{get_or-append}
use Rattle.std.proofs.Math.Seq.{get_or-append_seam}
use Rattle.std.proofs.lemmas.List.{get_or-drop, get_or-take, get_or-replicate, length-take, length-drop, length-replicate}
use Rattle.std.proofs.lemmas.List.FromFn.{get_or-map-range_with_len, length-map-range_with_len, take-map-range_with_len}
use Rattle.std.proofs.lemmas.Nat.Bits.{bit_at-zero, bit_at_ones}
use Rattle.std.proofs.lemmas.Option.{slice_get-get_or}
use Rattle.vx_mask.specs.Bits.{bit_of, bits_of}
use Rattle.vx_mask.proofs.Lists.{same_below, all_below}

-- a bit of the words before the last one, and one of the last word
pub before : (ws tail : List ℕ) (p : ℕ) → p / 64 < length ws → bit_of (ws ++ tail) p ≡ bit_of ws p
before ws tail p h = ap (λ w. bit_at w (p % 64) == 1) (get_or-append ws tail 0 (p / 64) h)

pub in_last : (ws : List ℕ) (w p : ℕ) → p / 64 ≡ length ws → bit_of (ws ++ w ∷ []) p ≡ (bit_at w (p % 64) == 1)
in_last ws w p h =
    ap (λ x. bit_at x (p % 64) == 1) (ap (λ k. get_or (ws ++ w ∷ []) k 0) h ∙ get_or-append_seam ws w [] 0)

-- the first n bits, by what each of them is
pub first_bits : (ws : List ℕ) (n : ℕ) (f : ℕ → Bool) → n ≤ 64 * length ws → ((i : ℕ) → i < n → bit_of ws i ≡ f i)
    → take n (bits_of ws) ≡ map f (range_with_len 0 n)
first_bits ws n f enough same = take-map-range_with_len (bit_of ws) 0 (64 * length ws) n enough ∙ same_below n (bit_of ws) f same

-- n bits from s on, where the words have as many
pub length_part : (ws : List ℕ) (s n : ℕ) → s + n ≤ 64 * length ws → length (take n (drop s (bits_of ws))) ≡ n
length_part ws s n bounds =
    let long : length (bits_of ws) ≡ 64 * length ws = length-map-range_with_len (bit_of ws) 0 (64 * length ws) in
    omega (arith, length-take n (drop s (bits_of ws)), length-drop s (bits_of ws))

-- bit i of them
pub bit_of_part : (ws : List ℕ) (s n i : ℕ) → i < n → s + n ≤ 64 * length ws
    → get_or (take n (drop s (bits_of ws))) i false ≡ bit_of ws (s + i)
bit_of_part ws s n i within bounds =
    get_or-take n (drop s (bits_of ws)) i false within ∙ get_or-drop s (bits_of ws) i false
    ∙ get_or-map-range_with_len (bit_of ws) 0 (64 * length ws) (s + i) (s + i) false (omega arith) (omega arith)

pub bit_within : (ws : List ℕ) (s n i : ℕ) → i < n → s + n ≤ 64 * length ws
    → slice_get (take n (drop s (bits_of ws))) i ≡ Some (bit_at (slice_index ws ((s + i) / 64)) ((s + i) % 64) == 1)
bit_within ws s n i within bounds =
    let here : i < length (take n (drop s (bits_of ws))) = omega (arith, length_part ws s n bounds) in
    slice_get-get_or (take n (drop s (bits_of ws))) i false here ∙ ap Some (bit_of_part ws s n i within bounds)

-- the word of 64 bits that are all b
pub bit_of_word : (b : Bool) (i : ℕ) → i < 64 → (bit_at (cond b (2 ^ 64 - 1) 0) i == 1) ≡ b
bit_of_word true i h = ap (λ x. x == 1) (bit_at_ones 64 i h)
bit_of_word false i h = ap (λ x. x == 1) (bit_at-zero i)

-- the first n bits of m words whose bits are all b
pub repeated : (b : Bool) (m n : ℕ) → n ≤ 64 * m → take n (bits_of (replicate m (cond b (2 ^ 64 - 1) 0))) ≡ replicate n b
repeated b m n within =
    let word = cond b (2 ^ 64 - 1) 0 in
    let bit = λ (i : ℕ) (h : i < n).
    ap (λ w. bit_at w (i % 64) == 1) (get_or-replicate m (i / 64) word 0 (omega arith)) ∙ bit_of_word b (i % 64) (omega arith) in
    first_bits (replicate m word) n (λ i. b) (omega (arith, length-replicate m word)) bit ∙ all_below n (λ i. b) b (λ i h. refl)
