-- The mask of some bits, and its bits.
use Rattle.std.specs.Prelude.{not, nat_eq, None}
use Rattle.std.specs.Bool.{then_some}
use Rattle.std.specs.List.{list_all}
use Rattle.std.proofs.Common.{◌≡◌, ◌<◌, ◌≤◌, ◌-◌, ℕ, Bool, true, false, cond, List, [], ◌∷◌, length, take, replicate, slice_range, arith, refl, sym, ◌∙◌, ap, subst, inl, inr}
use Rattle.std.proofs.Math.Dec.{ltb}
use Rattle.std.proofs.lemmas.Bool.{cases_lt, cases_Bool, lt-ltb, le-ltb, eq-eqb, ne_eqb}
use Rattle.std.proofs.lemmas.List.{length-replicate, take-replicate, drop-replicate}
use Rattle.vx_mask.specs.Masks.{bits_in, mask_of, is_all_true, is_all_false}
use Rattle.vx_mask.specs.Places.{true_count, true_place, chosen}
use Rattle.vx_mask.specs.declared.mask.Mask.{Mask}
use Rattle.vx_mask.specs.declared.mask.Mask.TheVariants.{AllTrue, AllFalse, Values}
use Rattle.vx_mask.proofs.ChosenLemmas.{chosen-trues, chosen-none}
use Rattle.vx_mask.proofs.PlacesLemmas.{true_count-le-length, all_true_yes, all_true_no, all_false_yes, all_false_no, true_count-trues, true_count-falses, true_place-trues, true_place-past}

-- ---- by the count
by_tests : (bits : List Bool) (all none : Bool) → is_all_true bits ≡ all → is_all_false bits ≡ none
    → mask_of bits ≡ cond all (AllTrue (length bits)) (cond none (AllFalse (length bits)) (Values bits))
by_tests bits all none all_is none_is =
    λ i. cond (all_is i) (AllTrue (length bits)) (cond (none_is i) (AllFalse (length bits)) (Values bits))

pub mask_of_all : (bits : List Bool) → true_count bits ≡ length bits → mask_of bits ≡ AllTrue (length bits)
mask_of_all bits h = by_tests bits true (is_all_false bits) (all_true_yes bits h) refl

pub mask_of_none : (bits : List Bool) → true_count bits ≡ 0 → 0 < length bits → mask_of bits ≡ AllFalse (length bits)
mask_of_none bits h some = by_tests bits false true (all_true_no bits (omega arith)) (all_false_yes bits h)

pub mask_of_some : (bits : List Bool) → 0 < true_count bits → true_count bits < length bits → mask_of bits ≡ Values bits
mask_of_some bits some not_all = by_tests bits false false (all_true_no bits not_all) (all_false_no bits some)

pub mask_of_trues : (n : ℕ) → mask_of (replicate n true) ≡ AllTrue n
mask_of_trues n =
    let size = length-replicate n true in
    mask_of_all (replicate n true) (true_count-trues n ∙ sym size) ∙ ap AllTrue size

pub mask_of_falses : (n : ℕ) → 0 < n → mask_of (replicate n false) ≡ AllFalse n
mask_of_falses n some =
    let size = length-replicate n false in
    mask_of_none (replicate n false) (true_count-falses n) (omega arith) ∙ ap AllFalse size

-- ---- its bits
all_true_are : (bits : List Bool) → list_all (λ bit. bit) bits ≡ true → replicate (length bits) true ≡ bits
all_true_are [] h = refl
all_true_are (true ∷ bits) h = ap (λ l. true ∷ l) (all_true_are bits h)
all_true_are (false ∷ bits) h = absurd (cc)

all_false_are : (bits : List Bool) → list_all not bits ≡ true → replicate (length bits) false ≡ bits
all_false_are [] h = refl
all_false_are (true ∷ bits) h = absurd (cc)
all_false_are (false ∷ bits) h = ap (λ l. false ∷ l) (all_false_are bits h)

pub bits_in_mask_of : (bits : List Bool) → bits_in (mask_of bits) ≡ bits
bits_in_mask_of bits = elim (cases_Bool (is_all_true bits)) [
  | inl all ↦ ap bits_in (by_tests bits true (is_all_false bits) all refl) ∙ all_true_are bits all
  | inr not_all ↦ elim (cases_Bool (is_all_false bits)) [
    | inl none ↦ ap bits_in (by_tests bits false true not_all none) ∙ all_false_are bits none
    | inr some ↦ ap bits_in (by_tests bits false false not_all some)
  ]
]

-- ---- copies of one bit
pub slice_of_copies : (bit : Bool) (n a b : ℕ) → a ≤ b → b ≤ length (replicate n bit) → slice_range (replicate n bit) a b ≡ replicate (b - a) bit
slice_of_copies bit n a b order bounds =
    let size = length-replicate n bit in
    ap (take (b - a)) (drop-replicate a n bit) ∙ take-replicate (b - a) (n - a) bit (omega arith)

pub slice_of_same : (bits : List Bool) (bit : Bool) (n a b : ℕ) → bits ≡ replicate n bit → a ≤ b → b ≤ length bits
    → mask_of (slice_range bits a b) ≡ mask_of (replicate (b - a) bit)
slice_of_same bits bit n a b same order bounds =
    ap (λ l. mask_of (slice_range l a b)) same ∙ ap mask_of (slice_of_copies bit n a b order (subst (λ l. b ≤ length l) same bounds))

pub place_in_trues : (n k : ℕ) → then_some (ltb k n) k ≡ true_place (replicate n true) k
place_in_trues n k = elim (cases_lt k n) [
  | inl lt ↦ ap (λ b. then_some b k) (lt-ltb k n lt) ∙ sym (true_place-trues n k lt)
  | inr ge ↦ ap (λ b. then_some b k) (le-ltb k n ge) ∙ sym (true_place-past (replicate n true) k (omega (arith, true_count-trues n)))
]

pub place_in_falses : (n k : ℕ) → true_place (replicate n false) k ≡ None
place_in_falses n k = true_place-past (replicate n false) k (omega (arith, true_count-falses n))

-- ---- tests by the count
pub all_true_is : (bits : List Bool) (count size : ℕ) → count ≡ true_count bits → size ≡ length bits → nat_eq count size ≡ is_all_true bits
all_true_is bits count size count_is size_is = elim (cases_lt (true_count bits) (length bits)) [
  | inl lt ↦ ne_eqb count size (λ e. omega arith) ∙ sym (all_true_no bits lt)
  | inr ge ↦ eq-eqb count size (omega (arith, true_count-le-length bits)) ∙ sym (all_true_yes bits (omega (arith, true_count-le-length bits)))
]

pub all_false_is : (bits : List Bool) (count : ℕ) → count ≡ true_count bits → nat_eq count 0 ≡ is_all_false bits
all_false_is bits count count_is = elim (cases_lt 0 (true_count bits)) [
  | inl lt ↦ ne_eqb count 0 (λ e. omega arith) ∙ sym (all_false_no bits lt)
  | inr ge ↦ eq-eqb count 0 (omega arith) ∙ sym (all_false_yes bits (omega arith))
]

-- ---- what a mask of one bit chooses
pub chosen_by_all : {A : Type 0} (mask : Mask) (n : ℕ) (items : List A) → mask ≡ AllTrue n → length (bits_in mask) ≡ length items
    → chosen (bits_in mask) items ≡ items
chosen_by_all mask n items is size =
    ap (λ m. chosen (bits_in m) items) is ∙ chosen-trues n items (sym size ∙ ap (λ m. length (bits_in m)) is ∙ length-replicate n true)

pub chosen_by_none : {A : Type 0} (mask : Mask) (n : ℕ) (items : List A) → mask ≡ AllFalse n → chosen (bits_in mask) items ≡ []
chosen_by_none mask n items is = ap (λ m. chosen (bits_in m) items) is ∙ chosen-none (replicate n false) items (true_count-falses n)
