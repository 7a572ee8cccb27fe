-- The words of a buffer as parts of its bits.
use Rattle.std.specs.Prelude.{◌==◌, bit_and}
use Rattle.std.proofs.Common.{◌≡◌, ◌<◌, ◌≤◌, ◌+◌, ◌-◌, ◌*◌, ◌/◌, ◌%◌, ◌^◌, ℕ, zero, suc, Bool, true, false, List, ◌∷◌, ◌++◌, length, take, drop, replicate}
use Rattle.std.proofs.Common.{arith, refl, sym, ◌∙◌, ap, ap₂, pow-suc}
use Rattle.std.specs.Int.{bit_at}
use Rattle.std.proofs.Math.Seq.{take-add}
use Rattle.std.proofs.lemmas.List.{ext_get_or, get_or-take, get_or-drop, length-take, length-drop, take-append-drop, take_all, append_assoc}
use Rattle.std.proofs.lemmas.Nat.{and_mask, mod-pow-add, one_shl, pow_pos}
use Rattle.vx_mask.specs.Logic.{bit_row}
use Rattle.vx_mask.specs.Words.{low_bits}
use Rattle.vx_mask.proofs.WordBits.{length-low_bits, get_or-low_bits}

-- the word has the 64 bits from `from` on; those past the end are unspecified
abbrev pub IsWordFrom : List Bool → ℕ → ℕ → Type 0
IsWordFrom bits from w = (i : ℕ) → i < 64 → from + i < length bits → (bit_at w i == 1) ≡ bit_row bits (from + i)

pub part_of_word : (bits : List Bool) (from w m : ℕ) → IsWordFrom bits from w → m ≤ 64 → from + m ≤ length bits → low_bits m w ≡ take m (drop from bits)
part_of_word bits from w m is small within =
    let long : length (take m (drop from bits)) ≡ m = omega (arith, length-take m (drop from bits), length-drop from bits) in
    ext_get_or false (low_bits m w) (take m (drop from bits)) (length-low_bits m w ∙ sym long) (λ i h.
    let in_word : i < m = omega (arith, length-low_bits m w) in
    get_or-low_bits m w i in_word ∙ is i (omega arith) (omega arith)
    ∙ sym (get_or-take m (drop from bits) i false in_word ∙ get_or-drop from bits i false))

-- the bits up to the next word's end
pub next_word : (bits : List Bool) (from w : ℕ) → IsWordFrom bits from w → from + 64 ≤ length bits → take (from + 64) bits ≡ take from bits ++ low_bits 64 w
next_word bits from w is within =
    take-add from 64 bits ∙ ap (λ l. take from bits ++ l) (sym (part_of_word bits from w 64 is (omega arith) within))

pub take-low_bits : (m n w : ℕ) → m ≤ n → take m (low_bits n w) ≡ low_bits m w
unfolding low_bits
take-low_bits zero n w h = refl
take-low_bits (suc m) zero w h = absurd (omega arith)
take-low_bits (suc m) (suc n) w h = ap (λ l. (w % 2 == 1) ∷ l) (take-low_bits m n (w / 2) (omega arith))

-- ---- words that are all false, all true, or false from a place on
pub low_bits-falses : (n : ℕ) → low_bits n 0 ≡ replicate n false
unfolding low_bits
low_bits-falses zero = refl
low_bits-falses (suc n) = ap (λ l. false ∷ l) (low_bits-falses n)

pub low_bits-trues : (n : ℕ) → low_bits n (2 ^ n - 1) ≡ replicate n true
unfolding low_bits
low_bits-trues zero = refl
low_bits-trues (suc n) =
    let digit : (2 ^ suc n - 1) % 2 ≡ 1 = omega (arith, pow-suc 2 n, pow_pos n) in
    let half : (2 ^ suc n - 1) / 2 ≡ 2 ^ n - 1 = omega (arith, pow-suc 2 n, pow_pos n) in
    ap₂ (λ d h. (d == 1) ∷ low_bits n h) digit half ∙ ap (λ l. true ∷ l) (low_bits-trues n)

pub low_bits-rest : (m k w : ℕ) → low_bits (m + k) (w % 2 ^ m) ≡ low_bits m w ++ replicate k false
unfolding low_bits
low_bits-rest zero k w =
    let none : w % 1 ≡ 0 = omega arith in
    let all : 0 + k ≡ k = omega arith in
    ap₂ low_bits all none ∙ low_bits-falses k
low_bits-rest (suc m) k w =
    let both : w % 2 ^ suc m ≡ (w / 2 % 2 ^ m) * 2 + w % 2 = ap (λ j. w % 2 ^ j) (omega arith) ∙ mod-pow-add w m 1 in
    let digit : (w % 2 ^ suc m) % 2 ≡ w % 2 = omega arith in
    let half : (w % 2 ^ suc m) / 2 ≡ w / 2 % 2 ^ m = omega arith in
    let more : suc m + k ≡ suc (m + k) = omega arith in
    ap (λ j. low_bits j (w % 2 ^ suc m)) more ∙ ap₂ (λ d h. (d == 1) ∷ low_bits (m + k) h) digit half
    ∙ ap (λ l. (w % 2 == 1) ∷ l) (low_bits-rest m k (w / 2))

-- ---- the last word of a buffer, which is full of bits of false or has as many as are left
pub last_none : (bits : List Bool) → length bits % 64 ≡ 0
    → take (64 * (length bits / 64)) bits ++ low_bits 64 0 ≡ bits ++ replicate (64 - length bits % 64) false
last_none bits none =
    let all : take (64 * (length bits / 64)) bits ≡ bits = take_all (64 * (length bits / 64)) bits (omega arith) in
    let rest : 64 ≡ 64 - length bits % 64 = omega arith in
    ap₂ (λ l r. l ++ r) all (low_bits-falses 64 ∙ ap (λ n. replicate n false) rest)

pub last_some : (bits : List Bool) (w len : ℕ) → len ≡ length bits → IsWordFrom bits (64 * (len / 64)) w
    → take (64 * (length bits / 64)) bits ++ low_bits 64 (bit_and w (1 * 2 ^ (len % 64) % 2 ^ 64 - 1)) ≡ bits ++ replicate (64 - length bits % 64) false
last_some bits w len same is =
    let rest = len % 64 in
    let from = 64 * (len / 64) in
    let size : 64 ≡ rest + (64 - rest) = omega arith in
    let word : bit_and w (1 * 2 ^ rest % 2 ^ 64 - 1) ≡ w % 2 ^ rest = ap (λ m. bit_and w (m - 1)) (one_shl rest 64 (omega arith)) ∙ and_mask w rest in
    let left : take rest (drop from bits) ≡ drop from bits = take_all rest (drop from bits) (omega (arith, length-drop from bits)) in
    let these : low_bits 64 (bit_and w (1 * 2 ^ rest % 2 ^ 64 - 1)) ≡ drop from bits ++ replicate (64 - rest) false =
    ap₂ low_bits size word ∙ low_bits-rest rest (64 - rest) w
    ∙ ap (λ l. l ++ replicate (64 - rest) false) (part_of_word bits from w rest is (omega arith) (omega arith) ∙ left) in
    ap (λ n. take (64 * (n / 64)) bits ++ low_bits 64 (bit_and w (1 * 2 ^ rest % 2 ^ 64 - 1))) (sym same)
    ∙ ap (λ l. take from bits ++ l) these ∙ sym (append_assoc (take from bits) (drop from bits) (replicate (64 - rest) false))
    ∙ ap (λ l. l ++ replicate (64 - rest) false) (take-append-drop from bits) ∙ ap (λ n. bits ++ replicate (64 - n % 64) false) same
