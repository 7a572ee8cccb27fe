-- The bits of a builder: more of them above those that it has, copies of a bit, those of a buffer, and the first ones alone.
use Rattle.std.specs.Prelude.{◌==◌, bit_and}
use Rattle.std.proofs.Common.{◌≡◌, ◌<◌, ◌≤◌, ◌+◌, ◌-◌, ◌*◌, ◌/◌, ◌%◌, ◌^◌, ℕ, zero, suc, Bool, true, false, cond}
use Rattle.std.proofs.Common.{List, [], ◌∷◌, ◌++◌, length, take, drop, get_or, replicate}
use Rattle.std.proofs.Common.{arith, sym, ◌∙◌, ap, ap₂, refl, pow-suc, add-zero, drop-cons}
use Rattle.std.proofs.Math.Nat.{div-div-eq-div-mul, zero-div}
use Rattle.std.proofs.Math.Seq.{take-append-add}
use Rattle.std.proofs.lemmas.List.{append_assoc, append-nil, take-append-drop, take-take, take-replicate, take_all, take-append-le, replicate-append-replicate, length-append, length-take, length-drop}
use Rattle.std.proofs.lemmas.Nat.{pow_pos, pow-add, mod-pow-add, div-mul-add, mod-mul-add, mul-add-lt, and_mask, one_shl}
use mir.Val.{bool_byte}
use Rattle.vx_mask.specs.Bits.{bit_of, bits_of}
use Rattle.vx_mask.specs.Words.{low_bits}
use Rattle.vx_mask.proofs.BitsLemmas.{before, first_bits}
use Rattle.vx_mask.proofs.CombinedWords.{length-bits_of, bits_of_push}
use Rattle.vx_mask.proofs.Parts.{IsWordFrom, part_of_word, next_word, take-low_bits, low_bits-rest, low_bits-falses, low_bits-trues}

-- ---- a number with `last` below place `fill`, and w from there on
-- what a word keeps of it
kept : (w last fill : ℕ) → last < 2 ^ fill → fill < 64 → (w * 2 ^ fill + last) % 2 ^ 64 ≡ (w % 2 ^ (64 - fill)) * 2 ^ fill + last
kept w last fill small h =
    let places : 64 ≡ 64 - fill + fill = omega arith in
    ap (λ n. (w * 2 ^ fill + last) % 2 ^ n) places ∙ mod-pow-add (w * 2 ^ fill + last) (64 - fill) fill
    ∙ ap₂ (λ x y. (x % 2 ^ (64 - fill)) * 2 ^ fill + y) (div-mul-add w (2 ^ fill) last small) (mod-mul-add w (2 ^ fill) last small)

joined_is : (w last fill : ℕ) → last < 2 ^ fill → fill < 64 → w * 2 ^ fill % 2 ^ 64 + last ≡ (w * 2 ^ fill + last) % 2 ^ 64
joined_is w last fill small h =
    let alone = ap (λ n. n % 2 ^ 64) (sym (add-zero (w * 2 ^ fill))) ∙ kept w 0 fill (pow_pos fill) h in
    omega (arith, alone, kept w last fill small h)

pub next_fits : (w last fill : ℕ) → last < 2 ^ fill → fill < 64 → w * 2 ^ fill % 2 ^ 64 + last < 2 ^ 64
next_fits w last fill small h = omega (arith, joined_is w last fill small h)

-- and what it loses
rest_is : (w last fill : ℕ) → last < 2 ^ fill → fill < 64 → (w * 2 ^ fill + last) / 2 ^ 64 ≡ w / 2 / 2 ^ (63 - fill)
rest_is w last fill small h =
    let places : 64 ≡ fill + suc (63 - fill) = omega arith in
    let twice : 2 ^ suc (63 - fill) ≡ 2 * 2 ^ (63 - fill) = omega (arith, pow-suc 2 (63 - fill)) in
    ap (λ n. (w * 2 ^ fill + last) / 2 ^ n) places ∙ ap (λ n. (w * 2 ^ fill + last) / n) (pow-add 2 fill (suc (63 - fill)))
    ∙ sym (div-div-eq-div-mul (w * 2 ^ fill + last) (2 ^ fill) (2 ^ suc (63 - fill)))
    ∙ ap₂ (λ x y. x / y) (div-mul-add w (2 ^ fill) last small) twice ∙ sym (div-div-eq-div-mul w 2 (2 ^ (63 - fill)))

whole_fits : (w last fill count : ℕ) → last < 2 ^ fill → w < 2 ^ count → w * 2 ^ fill + last < 2 ^ (fill + count)
whole_fits w last fill count small above = omega (arith, mul-add-lt w (2 ^ fill) last (2 ^ count) above small, pow-add 2 fill count)

pub joined_fits : (w last fill count : ℕ) → last < 2 ^ fill → w < 2 ^ count → fill < 64 → w * 2 ^ fill % 2 ^ 64 + last < 2 ^ (fill + count)
joined_fits w last fill count small above h = omega (arith, joined_is w last fill small h, whole_fits w last fill count small above)

pub rest_fits : (w last fill count : ℕ) → last < 2 ^ fill → w < 2 ^ count → fill < 64 → 64 ≤ fill + count → w / 2 / 2 ^ (63 - fill) < 2 ^ (fill + count - 64)
rest_fits w last fill count small above h many =
    let places : fill + count ≡ 64 + (fill + count - 64) = omega arith in
    let size = ap (λ n. 2 ^ n) places ∙ pow-add 2 64 (fill + count - 64) in
    omega (arith, rest_is w last fill small h, whole_fits w last fill count small above, size)

-- ---- its bits
low_bits-split : (m n w : ℕ) → low_bits (m + n) w ≡ low_bits m w ++ low_bits n (w / 2 ^ m)
unfolding low_bits
low_bits-split zero n w =
    let all : 0 + n ≡ n = omega arith in
    let same : w ≡ w / 2 ^ 0 = omega arith in
    ap₂ low_bits all same
low_bits-split (suc m) n w =
    let more : suc m + n ≡ suc (m + n) = omega arith in
    let twice : 2 * 2 ^ m ≡ 2 ^ suc m = omega (arith, pow-suc 2 m) in
    let half : w / 2 / 2 ^ m ≡ w / 2 ^ suc m = div-div-eq-div-mul w 2 (2 ^ m) ∙ ap (λ x. w / x) twice in
    ap (λ j. low_bits j w) more ∙ ap (λ l. (w % 2 == 1) ∷ l) (low_bits-split m n (w / 2))
    ∙ ap (λ x. (w % 2 == 1) ∷ low_bits m (w / 2) ++ low_bits n x) half

low_bits-mod : (m w : ℕ) → low_bits m (w % 2 ^ m) ≡ low_bits m w
low_bits-mod m w = ap (λ n. low_bits n (w % 2 ^ m)) (sym (add-zero m)) ∙ low_bits-rest m 0 w ∙ append-nil (low_bits m w)

low_bits-whole : (w last fill count : ℕ) → last < 2 ^ fill → low_bits (fill + count) (w * 2 ^ fill + last) ≡ low_bits fill last ++ low_bits count w
low_bits-whole w last fill count small =
    low_bits-split fill count (w * 2 ^ fill + last)
    ∙ ap₂ (λ l r. l ++ r)
    (sym (low_bits-mod fill (w * 2 ^ fill + last)) ∙ ap (low_bits fill) (mod-mul-add w (2 ^ fill) last small))
    (ap (low_bits count) (div-mul-add w (2 ^ fill) last small))

low_bits-joined : (n w last fill : ℕ) → n ≤ 64 → last < 2 ^ fill → fill < 64 → low_bits n (w * 2 ^ fill % 2 ^ 64 + last) ≡ low_bits n (w * 2 ^ fill + last)
low_bits-joined n w last fill few small h =
    let whole = w * 2 ^ fill + last in
    ap (low_bits n) (joined_is w last fill small h) ∙ sym (take-low_bits n 64 (whole % 2 ^ 64) few) ∙ ap (take n) (low_bits-mod 64 whole)
    ∙ take-low_bits n 64 whole few

-- ---- a builder's bits are those of its full words and the lowest of the last one
held : (ws : List ℕ) (last fill : ℕ) → fill ≤ 64 → take (64 * length ws + fill) (bits_of (ws ++ last ∷ [])) ≡ bits_of ws ++ low_bits fill last
held ws last fill few =
    ap₂ take (ap (λ n. n + fill) (sym (length-bits_of ws))) (bits_of_push ws last) ∙ take-append-add (bits_of ws) (low_bits 64 last) fill
    ∙ ap (λ l. bits_of ws ++ l) (take-low_bits fill 64 last few)

-- with more bits, if they fit the last word
pub push_in : (ws : List ℕ) (last fill w count : ℕ) → last < 2 ^ fill → fill < 64 → fill + count < 64
    → take (64 * length ws + (fill + count)) (bits_of (ws ++ (w * 2 ^ fill % 2 ^ 64 + last) ∷ []))
    ≡ take (64 * length ws + fill) (bits_of (ws ++ last ∷ [])) ++ low_bits count w
push_in ws last fill w count small h fits =
    held ws (w * 2 ^ fill % 2 ^ 64 + last) (fill + count) (omega arith)
    ∙ ap (λ l. bits_of ws ++ l) (low_bits-joined (fill + count) w last fill (omega arith) small h ∙ low_bits-whole w last fill count small)
    ∙ sym (append_assoc (bits_of ws) (low_bits fill last) (low_bits count w))
    ∙ ap (λ l. l ++ low_bits count w) (sym (held ws last fill (omega arith)))

-- and if they fill it
pub push_full : (ws : List ℕ) (last fill w count : ℕ) → last < 2 ^ fill → fill < 64 → count ≤ 64 → 64 ≤ fill + count
    → take (64 * length (ws ++ (w * 2 ^ fill % 2 ^ 64 + last) ∷ []) + (fill + count - 64))
    (bits_of ((ws ++ (w * 2 ^ fill % 2 ^ 64 + last) ∷ []) ++ (w / 2 / 2 ^ (63 - fill)) ∷ []))
    ≡ take (64 * length ws + fill) (bits_of (ws ++ last ∷ [])) ++ low_bits count w
push_full ws last fill w count small h few many =
    let word = w * 2 ^ fill % 2 ^ 64 + last in
    let whole = w * 2 ^ fill + last in
    let left = fill + count - 64 in
    let places : 64 + left ≡ fill + count = omega arith in
    let last_left = low_bits left (w / 2 / 2 ^ (63 - fill)) in
    held (ws ++ word ∷ []) (w / 2 / 2 ^ (63 - fill)) left (omega arith) ∙ ap (λ l. l ++ last_left) (bits_of_push ws word)
    ∙ append_assoc (bits_of ws) (low_bits 64 word) last_left
    ∙ ap₂ (λ l x. bits_of ws ++ (l ++ low_bits left x)) (low_bits-joined 64 w last fill (omega arith) small h) (sym (rest_is w last fill small h))
    ∙ ap (λ l. bits_of ws ++ l)
    (sym (low_bits-split 64 left whole) ∙ ap (λ n. low_bits n whole) places ∙ low_bits-whole w last fill count small)
    ∙ sym (append_assoc (bits_of ws) (low_bits fill last) (low_bits count w))
    ∙ ap (λ l. l ++ low_bits count w) (sym (held ws last fill (omega arith)))

-- ---- one bit
flag_bits : (b : Bool) → low_bits 1 (bool_byte b) ≡ b ∷ []
unfolding low_bits
flag_bits true = refl
flag_bits false = refl

flag_half : (b : Bool) → bool_byte b / 2 ≡ 0
flag_half true = refl
flag_half false = refl

pub flag_in : (ws : List ℕ) (last fill : ℕ) (b : Bool) → last < 2 ^ fill → fill < 63
    → take (64 * length ws + (fill + 1)) (bits_of (ws ++ (bool_byte b * 2 ^ fill % 2 ^ 64 + last) ∷ []))
    ≡ take (64 * length ws + fill) (bits_of (ws ++ last ∷ [])) ++ b ∷ []
flag_in ws last fill b small h =
    push_in ws last fill (bool_byte b) 1 small (omega arith) (omega arith) ∙ ap (λ l. take (64 * length ws + fill) (bits_of (ws ++ last ∷ [])) ++ l)
    (flag_bits b)

pub flag_full : (ws : List ℕ) (last fill : ℕ) (b : Bool) → last < 2 ^ fill → fill ≡ 63
    → take (64 * length (ws ++ (bool_byte b * 2 ^ fill % 2 ^ 64 + last) ∷ []) + 0) (bits_of ((ws ++ (bool_byte b * 2 ^ fill % 2 ^ 64 + last) ∷ []) ++ 0 ∷ []))
    ≡ take (64 * length ws + fill) (bits_of (ws ++ last ∷ [])) ++ b ∷ []
flag_full ws last fill b small full =
    let new = ws ++ (bool_byte b * 2 ^ fill % 2 ^ 64 + last) ∷ [] in
    let left : 0 ≡ fill + 1 - 64 = omega arith in
    let rest : 0 ≡ bool_byte b / 2 / 2 ^ (63 - fill) = sym (ap (λ x. x / 2 ^ (63 - fill)) (flag_half b) ∙ zero-div (2 ^ (63 - fill))) in
    ap₂ (λ n x. take (64 * length new + n) (bits_of (new ++ x ∷ []))) left rest
    ∙ push_full ws last fill (bool_byte b) 1 small (omega arith) (omega arith) (omega arith)
    ∙ ap (λ l. take (64 * length ws + fill) (bits_of (ws ++ last ∷ [])) ++ l) (flag_bits b)

-- ---- copies of a bit: words of them, and the lowest bits of one
word_of : (b : Bool) (m : ℕ) → m ≤ 64 → low_bits m (cond b (2 ^ 64 - 1) 0) ≡ replicate m b
word_of true m few =
    sym (take-low_bits m 64 (2 ^ 64 - 1) few) ∙ ap (take m) (low_bits-trues 64) ∙ take-replicate m 64 true few
word_of false m few = low_bits-falses m

words_of : (b : Bool) (k : ℕ) (ws : List ℕ) → bits_of (ws ++ replicate k (cond b (2 ^ 64 - 1) 0)) ≡ bits_of ws ++ replicate (64 * k) b
words_of b zero ws = ap bits_of (append-nil ws) ∙ sym (append-nil (bits_of ws))
words_of b (suc k) ws =
    let w = cond b (2 ^ 64 - 1) 0 in
    let size : 64 + 64 * k ≡ 64 * suc k = omega arith in
    ap bits_of (sym (append_assoc ws (w ∷ []) (replicate k w))) ∙ words_of b k (ws ++ w ∷ [])
    ∙ ap (λ l. l ++ replicate (64 * k) b) (bits_of_push ws w) ∙ append_assoc (bits_of ws) (low_bits 64 w) (replicate (64 * k) b)
    ∙ ap (λ l. bits_of ws ++ (l ++ replicate (64 * k) b)) (word_of b 64 (omega arith))
    ∙ ap (λ l. bits_of ws ++ l) (replicate-append-replicate 64 (64 * k) b ∙ ap (λ n. replicate n b) size)

-- they fill the last word, then whole words, and a part of the next one
pub push_copied : (ws : List ℕ) (last fill count next : ℕ) (b : Bool) → last < 2 ^ fill → fill < 64 → 64 - fill ≤ count
    → low_bits ((count - (64 - fill)) % 64) next ≡ replicate ((count - (64 - fill)) % 64) b
    → take
    (64 * length ((ws ++ (cond b (2 ^ 64 - 1) 0 * 2 ^ fill % 2 ^ 64 + last) ∷ []) ++ replicate ((count - (64 - fill)) / 64) (cond b (2 ^ 64 - 1) 0))
    + (count - (64 - fill)) % 64)
    (bits_of
    (((ws ++ (cond b (2 ^ 64 - 1) 0 * 2 ^ fill % 2 ^ 64 + last) ∷ []) ++ replicate ((count - (64 - fill)) / 64) (cond b (2 ^ 64 - 1) 0)) ++ next ∷ []))
    ≡ take (64 * length ws + fill) (bits_of (ws ++ last ∷ [])) ++ replicate count b
push_copied ws last fill count next b small h many copies =
    let w = cond b (2 ^ 64 - 1) 0 in
    let joined = w * 2 ^ fill % 2 ^ 64 + last in
    let room = 64 - fill in
    let rest = count - room in
    let old = bits_of ws ++ low_bits fill last in
    let fit : 64 ≡ fill + room = omega arith in
    let size : room + (64 * (rest / 64) + rest % 64) ≡ count = omega arith in
    let first : bits_of (ws ++ joined ∷ []) ≡ old ++ replicate room b =
    bits_of_push ws joined
    ∙ ap (λ l. bits_of ws ++ l)
    (low_bits-joined 64 w last fill (omega arith) small h ∙ ap (λ n. low_bits n (w * 2 ^ fill + last)) fit
    ∙ low_bits-whole w last fill room small ∙ ap (λ l. low_bits fill last ++ l) (word_of b room (omega arith)))
    ∙ sym (append_assoc (bits_of ws) (low_bits fill last) (replicate room b)) in
    held ((ws ++ joined ∷ []) ++ replicate (rest / 64) w) next (rest % 64) (omega arith)
    ∙ ap₂ (λ l r. l ++ r) (words_of b (rest / 64) (ws ++ joined ∷ []) ∙ ap (λ l. l ++ replicate (64 * (rest / 64)) b) first) copies
    ∙ append_assoc (old ++ replicate room b) (replicate (64 * (rest / 64)) b) (replicate (rest % 64) b)
    ∙ append_assoc old (replicate room b) (replicate (64 * (rest / 64)) b ++ replicate (rest % 64) b)
    ∙ ap (λ l. old ++ (replicate room b ++ l)) (replicate-append-replicate (64 * (rest / 64)) (rest % 64) b)
    ∙ ap (λ l. old ++ l) (replicate-append-replicate room (64 * (rest / 64) + rest % 64) b ∙ ap (λ n. replicate n b) size)
    ∙ ap (λ l. l ++ replicate count b) (sym (held ws last fill (omega arith)))

-- ---- the first bits: those of the words before one, and the lowest of that one
first_words : (ws rest : List ℕ) → take (64 * length ws) (bits_of (ws ++ rest)) ≡ bits_of ws
first_words ws rest = first_bits (ws ++ rest) (64 * length ws) (bit_of ws) (omega (arith, length-append ws rest)) (λ i lt. before ws rest i (omega arith))

up_to_word : (ws : List ℕ) (w : ℕ) (rest : List ℕ) (n : ℕ) → n ≤ 64 → take (64 * length ws + n) (bits_of (ws ++ w ∷ rest)) ≡ bits_of ws ++ low_bits n w
up_to_word ws w rest n few =
    let size : 64 * length (ws ++ w ∷ []) ≡ 64 * length ws + 64 = omega (arith, length-append ws (w ∷ [])) in
    sym (take-take (64 * length ws + n) (64 * length (ws ++ w ∷ [])) (bits_of (ws ++ w ∷ rest)) (omega arith))
    ∙ ap (λ vs. take (64 * length ws + n) (take (64 * length (ws ++ w ∷ [])) (bits_of vs))) (sym (append_assoc ws (w ∷ []) rest))
    ∙ ap (take (64 * length ws + n)) (first_words (ws ++ w ∷ []) rest) ∙ held ws w n few

pub at_word : (ws : List ℕ) (i x last : ℕ) → i < length ws → x ≡ get_or ws i x → ws ++ last ∷ [] ≡ take i ws ++ x ∷ (drop (suc i) ws ++ last ∷ [])
at_word ws i x last within is =
    ap (λ l. l ++ last ∷ [])
    (sym (take-append-drop i ws) ∙ ap (λ l. take i ws ++ l) (drop-cons ws i x within) ∙ ap (λ y. take i ws ++ y ∷ drop (suc i) ws) (sym is))
    ∙ append_assoc (take i ws) (x ∷ drop (suc i) ws) (last ∷ [])

pub cut : (ws vs rest : List ℕ) (w last fill len : ℕ) → ws ++ last ∷ [] ≡ vs ++ w ∷ rest → length vs ≡ len / 64 → len ≤ 64 * length ws + fill
    → take (64 * length vs + len % 64) (bits_of (vs ++ bit_and w (1 * 2 ^ (len % 64) % 2 ^ 64 - 1) ∷ []))
    ≡ take len (take (64 * length ws + fill) (bits_of (ws ++ last ∷ [])))
cut ws vs rest w last fill len are long within =
    let n = len % 64 in
    let size : 64 * length vs + n ≡ len = omega (arith, long) in
    let low : bit_and w (1 * 2 ^ n % 2 ^ 64 - 1) ≡ w % 2 ^ n = ap (λ m. bit_and w (m - 1)) (one_shl n 64 (omega arith)) ∙ and_mask w n in
    held vs (bit_and w (1 * 2 ^ n % 2 ^ 64 - 1)) n (omega arith)
    ∙ ap (λ l. bits_of vs ++ l) (ap (low_bits n) low ∙ low_bits-mod n w)
    ∙ sym (up_to_word vs w rest n (omega arith))
    ∙ ap₂ (λ k l. take k (bits_of l)) size (sym are)
    ∙ sym (take-take len (64 * length ws + fill) (bits_of (ws ++ last ∷ [])) within)

-- ---- the bits of a buffer: those up to the next word's end, and those past the last full word
pub appended_word : (old bits : List Bool) (k w : ℕ) → IsWordFrom bits (64 * k) w → 64 * k + 64 ≤ length bits
    → (old ++ take (64 * k) bits) ++ low_bits 64 w ≡ old ++ take (64 * (k + 1)) bits
appended_word old bits k w is within =
    let next : 64 * k + 64 ≡ 64 * (k + 1) = omega arith in
    append_assoc old (take (64 * k) bits) (low_bits 64 w)
    ∙ ap (λ l. old ++ l) (sym (next_word bits (64 * k) w is within) ∙ ap (λ n. take n bits) next)

pub appended_rest : (old bits : List Bool) (k w rest : ℕ) → IsWordFrom bits (64 * k) w → 64 * k + rest ≡ length bits → rest < 64
    → (old ++ take (64 * k) bits) ++ low_bits rest (bit_and w (1 * 2 ^ rest % 2 ^ 64 - 1)) ≡ old ++ bits
appended_rest old bits k w rest is all small =
    let word : bit_and w (1 * 2 ^ rest % 2 ^ 64 - 1) ≡ w % 2 ^ rest = ap (λ m. bit_and w (m - 1)) (one_shl rest 64 small) ∙ and_mask w rest in
    let left : take rest (drop (64 * k) bits) ≡ drop (64 * k) bits = take_all rest (drop (64 * k) bits) (omega (arith, length-drop (64 * k) bits)) in
    append_assoc old (take (64 * k) bits) (low_bits rest (bit_and w (1 * 2 ^ rest % 2 ^ 64 - 1)))
    ∙ ap (λ l. old ++ (take (64 * k) bits ++ l))
    (ap (low_bits rest) word ∙ low_bits-mod rest w ∙ part_of_word bits (64 * k) w rest is (omega arith) (omega arith) ∙ left)
    ∙ ap (λ l. old ++ l) (take-append-drop (64 * k) bits)

-- ---- how many bits a builder has, and those that it had before more came
pub length_held : (ws : List ℕ) (last fill : ℕ) → fill ≤ 64 → length (take (64 * length ws + fill) (bits_of (ws ++ last ∷ []))) ≡ 64 * length ws + fill
length_held ws last fill few =
    omega (arith, length-take (64 * length ws + fill) (bits_of (ws ++ last ∷ [])), length-bits_of (ws ++ last ∷ []), length-append ws (last ∷ []))

pub held_before : (old new more : List Bool) (len : ℕ) → len ≡ length old → new ≡ old ++ more → take len new ≡ old
held_before old new more len all e =
    ap (take len) e ∙ take-append-le len old more (omega (arith, all)) ∙ take_all len old (omega (arith, all))

pub held_count : (ws same : List ℕ) (last fill k n : ℕ) → fill < 64 → same ≡ ws → k ≡ length ws → n ≡ 64 * k + fill
    → n ≡ length (take (64 * length same + fill) (bits_of (same ++ last ∷ [])))
held_count ws same last fill k n few is count all = omega (arith, length_held same last fill (omega arith), ap length is, count, all)
