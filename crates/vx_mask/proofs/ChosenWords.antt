-- Choices by the bits of a word: its lowest true bit and the others, and by those of all words of a mask.
use Rattle.std.specs.Prelude.{bit_and, None, Some, slice_get}
use Rattle.std.specs.Option.{option_and_then}
use Rattle.std.proofs.Common.{◌≡◌, ◌<◌, ◌≤◌, ◌+◌, ◌-◌, ◌*◌, ◌/◌, ◌%◌, ◌^◌, ℕ, zero, suc, Bool, false, List, [], ◌∷◌, ◌++◌, length, take, drop, replicate, slice_range}
use Rattle.std.proofs.Common.{arith, refl, sym, ◌∙◌, ap, ap₂, inl, inr}
use Rattle.std.proofs.lemmas.Bool.{cases_lt}
use Rattle.std.proofs.lemmas.List.{append_assoc, append-nil, length-append, length-take, length-drop, take_all}
use Rattle.std.proofs.lemmas.Option.{none-some, slice_get_past}
use Rattle.vx_mask.specs.Places.{true_count, true_place, chosen}
use Rattle.vx_mask.specs.Words.{low_bits}
use Rattle.vx_mask.proofs.PlacesLemmas.{true_place-past, true_count-nil, true_count-append, true_count-trues, true_count-falses, length-chosen}
use Rattle.vx_mask.proofs.WordBits.{cleared_place, length-low_bits, low_bits-zero}
use Rattle.vx_mask.proofs.ChosenLemmas.{chosen-item, chosen-append, chosen-parts, chosen-all, chosen-none}
use Rattle.vx_mask.proofs.Lists.{same_items}
use Rattle.vx_mask.proofs.Parts.{IsWordFrom, next_word, low_bits-trues}

-- ---- the lowest true bit and the others
pub next_chosen : {A : Type 0} (w : ℕ) (items : List A) (p : ℕ) (x : A) → 0 < w → true_place (low_bits 64 w) 0 ≡ Some p → slice_get items p ≡ Some x
    → chosen (low_bits 64 w) items ≡ x ∷ chosen (low_bits 64 (bit_and w (w - 1))) items
next_chosen w items p x some place item =
    let bits = low_bits 64 w in
    let rest = low_bits 64 (bit_and w (w - 1)) in
    same_items (chosen bits items) (x ∷ chosen rest items) each
  where
    each : (k : ℕ) → slice_get (chosen (low_bits 64 w) items) k ≡ slice_get (x ∷ chosen (low_bits 64 (bit_and w (w - 1))) items) k
    each zero = chosen-item (low_bits 64 w) items 0 ∙ ap (option_and_then (slice_get items)) place ∙ item
    each (suc k) =
        chosen-item (low_bits 64 w) items (suc k) ∙ ap (option_and_then (slice_get items)) (sym (cleared_place 64 w k some))
        ∙ sym (chosen-item (low_bits 64 (bit_and w (w - 1))) items k)

-- with the item at the lowest true bit appended, the others are left
pub push_first : {A : Type 0} (w : ℕ) (items kept new all : List A) (p : ℕ) (x : A) → 0 < w → true_place (low_bits 64 w) 0 ≡ Some p → slice_get items p ≡ Some x
    → new ≡ kept ++ x ∷ [] → kept ++ chosen (low_bits 64 w) items ≡ all → new ++ chosen (low_bits 64 (bit_and w (w - 1))) items ≡ all
push_first w items kept new all p x some place item pushed is =
    let rest = chosen (low_bits 64 (bit_and w (w - 1))) items in
    ap (λ l. l ++ rest) pushed ∙ append_assoc kept (x ∷ []) rest ∙ ap (λ l. kept ++ l) (sym (next_chosen w items p x some place item)) ∙ is

none_first : {A : Type 0} (xs : List A) → slice_get xs 0 ≡ None → length xs ≡ 0
none_first [] h = refl
none_first (x ∷ xs) h = absurd (none-some x (sym h))

-- there is an item at the lowest true bit if there is one at each
pub first_within : {A : Type 0} (bits : List Bool) (items : List A) (p : ℕ) → length (chosen bits items) ≡ true_count bits → true_place bits 0 ≡ Some p
    → p < length items
first_within bits items p each place = elim (cases_lt p (length items)) [
  | inl lt ↦ lt
  | inr ge ↦
      let none = none_first (chosen bits items) (chosen-item bits items 0 ∙ ap (option_and_then (slice_get items)) place ∙ slice_get_past items p ge) in
      absurd (none-some p (sym (true_place-past bits 0 (omega (arith, each, none))) ∙ place))
]

-- ---- a word of ones, and one of zeros
pub count_of_ones : (w : ℕ) → w ≡ 2 ^ 64 - 1 → true_count (low_bits 64 w) ≡ 64
count_of_ones w all = ap (λ x. true_count (low_bits 64 x)) all ∙ ap true_count (low_bits-trues 64) ∙ true_count-trues 64

pub chosen_of_ones : {A : Type 0} (w : ℕ) (items : List A) → w ≡ 2 ^ 64 - 1 → chosen (low_bits 64 w) items ≡ take 64 items
chosen_of_ones w items all =
    let size = length-low_bits 64 w in
    chosen-all (low_bits 64 w) items (count_of_ones w all ∙ sym size) ∙ ap (λ n. take n items) size

pub chosen_of_zeros : {A : Type 0} (w : ℕ) (items : List A) → w ≡ 0 → chosen (low_bits 64 w) items ≡ []
chosen_of_zeros w items none = chosen-none (low_bits 64 w) items (ap (λ x. true_count (low_bits 64 x)) none ∙ low_bits-zero 64)

pub none_left : {A : Type 0} (w : ℕ) (items kept all : List A) → w ≡ 0 → kept ++ chosen (low_bits 64 w) items ≡ all → kept ≡ all
none_left w items kept all none is = sym (append-nil kept) ∙ ap (λ l. kept ++ l) (sym (chosen_of_zeros w items none)) ∙ is

-- ---- word by word
-- the bits `after` are those before and a word for the items from `from` on, at each of whose true bits there is an item
pub record IsNextPart {A : Type 0} (items : List A) (before after : List Bool) (from w : ℕ) : Type 0 where
  pub chosen_after : chosen after items ≡ chosen before items ++ chosen (low_bits 64 w) (slice_range items from (length items))
  pub each : length (chosen (low_bits 64 w) (slice_range items from (length items))) ≡ true_count (low_bits 64 w)
  pub count : length (chosen before items) + true_count (low_bits 64 w) ≡ true_count after

next_part : {A : Type 0} (items : List A) (before after tail : List Bool) (from w : ℕ) → before ++ low_bits 64 w ≡ after ++ tail → true_count tail ≡ 0
    → length before ≡ from → from ≤ length items → length after ≤ length items → IsNextPart items before after from w
next_part items before after tail from w is none size start end =
    let rest = slice_range items from (length items) in
    let left : rest ≡ drop from items = take_all (length items - from) (drop from items) (omega (arith, length-drop from items)) in
    let all : chosen after items ≡ chosen before items ++ chosen (low_bits 64 w) rest =
    sym (chosen-append after tail items ∙ ap (λ l. chosen after items ++ l) (chosen-none tail (drop (length after) items) none)
    ∙ append-nil (chosen after items))
    ∙ ap (λ l. chosen l items) (sym is) ∙ chosen-append before (low_bits 64 w) items
    ∙ ap (λ l. chosen before items ++ chosen (low_bits 64 w) l) (ap (λ n. drop n items) size ∙ sym left) in
    let counts = ap true_count is ∙ true_count-append after tail in
    let both = true_count-append before (low_bits 64 w) in
    let first = length-chosen before items (omega arith) in
    let whole = length-chosen after items end in
    let lengths = ap length all ∙ length-append (chosen before items) (chosen (low_bits 64 w) rest) in
    record { chosen_after = all; each = omega arith; count = omega arith }

more_bits : (bits : List Bool) (from next w : ℕ) → IsWordFrom bits from w → next ≡ from + 64 → next ≤ length bits
    → take from bits ++ low_bits 64 w ≡ take next bits ++ []
more_bits bits from next w is at within =
    sym (next_word bits from w is (omega arith)) ∙ ap (λ n. take n bits) (sym at) ∙ sym (append-nil (take next bits))

pub part_more : {A : Type 0} (bits : List Bool) (items : List A) (from next w : ℕ) → IsWordFrom bits from w → next ≡ from + 64 → next ≤ length bits
    → length items ≡ length bits → IsNextPart items (take from bits) (take next bits) from w
part_more bits items from next w is at within same =
    next_part items (take from bits) (take next bits) [] from w
    (more_bits bits from next w is at within) (sym true_count-nil) (omega (arith, length-take from bits)) (omega arith) (omega (arith, length-take next bits))

pub part_last : {A : Type 0} (bits : List Bool) (items : List A) (k full w : ℕ) → k ≡ length bits / 64 → full ≡ k
    → take (64 * (length bits / 64)) bits ++ low_bits 64 w ≡ bits ++ replicate (64 - length bits % 64) false
    → length items ≡ length bits → IsNextPart items (take (64 * k) bits) bits (64 * full) w
part_last bits items k full w at same is size =
    next_part items (take (64 * k) bits) bits (replicate (64 - length bits % 64) false) (64 * full) w
    (ap (λ n. take (64 * n) bits ++ low_bits 64 w) at ∙ is) (true_count-falses (64 - length bits % 64))
    (omega (arith, length-take (64 * k) bits)) (omega arith) (omega arith)

-- what is kept with the items of one more part
pub part_pushed : {A : Type 0} (items old new : List A) (before after : List Bool) (from w : ℕ) → IsNextPart items before after from w
    → old ≡ chosen before items
    → new ≡ old ++ chosen (low_bits 64 w) (slice_range items from (length items)) → new ≡ chosen after items
part_pushed items old new before after from w part is pushed =
    pushed ∙ ap (λ l. l ++ chosen (low_bits 64 w) (slice_range items from (length items))) is ∙ sym part.chosen_after

pub chosen_start : {A : Type 0} (items : List A) → [] ≡ chosen [] items
unfolding chosen
chosen_start items = refl

-- ---- word by word, of bits that are read by words too
next_bits : (before after tail values_before values_after values_tail : List Bool) (w v : ℕ)
    → before ++ low_bits 64 w ≡ after ++ tail → values_before ++ low_bits 64 v ≡ values_after ++ values_tail → true_count tail ≡ 0
    → length before ≡ length values_before → length after ≡ length values_after
    → chosen after values_after ≡ chosen before values_before ++ chosen (low_bits 64 w) (low_bits 64 v)
next_bits before after tail values_before values_after values_tail w v is values_is none start end =
    sym (chosen-parts after tail values_after values_tail end ∙ ap (λ l. chosen after values_after ++ l) (chosen-none tail values_tail none)
    ∙ append-nil (chosen after values_after))
    ∙ ap₂ chosen (sym is) (sym values_is) ∙ chosen-parts before (low_bits 64 w) values_before (low_bits 64 v) start

pub bits_more : (bits values : List Bool) (from next w v : ℕ) → IsWordFrom bits from w → IsWordFrom values from v → next ≡ from + 64 → next ≤ length bits
    → length values ≡ length bits
    → chosen (take next bits) (take next values) ≡ chosen (take from bits) (take from values) ++ chosen (low_bits 64 w) (low_bits 64 v)
bits_more bits values from next w v is values_is at within same =
    next_bits (take from bits) (take next bits) [] (take from values) (take next values) [] w v
    (more_bits bits from next w is at within) (more_bits values from next v values_is at (omega arith)) (sym true_count-nil)
    (omega (arith, length-take from bits, length-take from values)) (omega (arith, length-take next bits, length-take next values))

pub bits_last : (bits values : List Bool) (k w v : ℕ) → k ≡ length bits / 64
    → take (64 * (length bits / 64)) bits ++ low_bits 64 w ≡ bits ++ replicate (64 - length bits % 64) false
    → take (64 * (length values / 64)) values ++ low_bits 64 v ≡ values ++ replicate (64 - length values % 64) false
    → length values ≡ length bits
    → chosen bits values ≡ chosen (take (64 * k) bits) (take (64 * k) values) ++ chosen (low_bits 64 w) (low_bits 64 v)
bits_last bits values k w v at is values_is same =
    let values_at : k ≡ length values / 64 = omega arith in
    next_bits (take (64 * k) bits) bits (replicate (64 - length bits % 64) false) (take (64 * k) values) values (replicate (64 - length values % 64) false) w v
    (ap (λ n. take (64 * n) bits ++ low_bits 64 w) at ∙ is) (ap (λ n. take (64 * n) values ++ low_bits 64 v) values_at ∙ values_is)
    (true_count-falses (64 - length bits % 64)) (omega (arith, length-take (64 * k) bits, length-take (64 * k) values)) (sym same)
