-- Runs of true bits, by the first and the last true bit and their count.
use Rattle.std.specs.Prelude.{Some}
use Rattle.std.proofs.Common.{◌≡◌, ◌<◌, ◌≤◌, ◌+◌, ◌-◌, ℕ, zero, suc, Bool, true, false, List, [], ◌∷◌, length, take, drop, replicate, arith, refl, sym, ◌∙◌, ap, inl, inr}
use Rattle.std.proofs.Math.Seq.{take-add}
use Rattle.std.proofs.lemmas.Bool.{cases_lt, cases_Bool, false≢true}
use Rattle.std.proofs.lemmas.List.{length-take, length-replicate, get_or-replicate, get_or_past}
use Rattle.vx_mask.specs.Logic.{bit_row}
use Rattle.vx_mask.specs.Places.{true_count, true_place, IsRun}
use Rattle.vx_mask.proofs.PlacesLemmas.{true_count-append, true_count-le-length, place_is}
use Rattle.vx_mask.proofs.PartPlaces.{true_count-take-le}

-- ---- the count up to a bit
count_yes : (bits : List Bool) (i : ℕ) → bit_row bits i ≡ true → true_count (take (suc i) bits) ≡ true_count (take i bits) + 1
unfolding true_count
count_yes [] i set = absurd (cc)
count_yes (true ∷ bits) zero set = omega arith
count_yes (false ∷ bits) zero set = absurd (cc)
count_yes (true ∷ bits) (suc i) set = omega (arith, count_yes bits i set)
count_yes (false ∷ bits) (suc i) set = count_yes bits i set

count_no : (bits : List Bool) (i : ℕ) → bit_row bits i ≡ false → true_count (take (suc i) bits) ≡ true_count (take i bits)
unfolding true_count
count_no [] zero set = refl
count_no [] (suc i) set = refl
count_no (true ∷ bits) zero set = absurd (cc)
count_no (false ∷ bits) zero set = refl
count_no (true ∷ bits) (suc i) set = ap suc (count_no bits i set)
count_no (false ∷ bits) (suc i) set = count_no bits i set

-- the count grows by no more than the bits
count_between : (bits : List Bool) (i j : ℕ) → i ≤ j
    → (true_count (take i bits) ≤ true_count (take j bits)) × (true_count (take j bits) ≤ true_count (take i bits) + (j - i))
count_between bits i j order =
    let n = j - i in
    let end : j ≡ i + n = omega arith in
    let part = take n (drop i bits) in
    let both : true_count (take j bits) ≡ true_count (take i bits) + true_count part =
    ap (λ m. true_count (take m bits)) end ∙ ap true_count (take-add i n bits) ∙ true_count-append (take i bits) part in
    let small = true_count-le-length part in
    let short = length-take n (drop i bits) in
    (omega arith, omega arith)

count_run : (bits : List Bool) (i n : ℕ) → ((j : ℕ) → i ≤ j → j < i + n → bit_row bits j ≡ true) → true_count (take (i + n) bits) ≡ true_count (take i bits) + n
count_run bits i zero set = let here : i + 0 ≡ i = omega arith in ap (λ m. true_count (take m bits)) here ∙ omega arith
count_run bits i (suc n) set =
    let next : i + suc n ≡ suc (i + n) = omega arith in
    ap (λ m. true_count (take m bits)) next ∙ count_yes bits (i + n) (set (i + n) (omega arith) (omega arith))
    ∙ omega (arith, count_run bits i n (λ j from below. set j from (omega arith)))

-- ---- between the first true bit, at a, and the last, at z
abbrev pub AreEnds : List Bool → ℕ → ℕ → Type 0
AreEnds bits a z = (true_place bits 0 ≡ Some a) × (true_place bits (true_count bits - 1) ≡ Some z)

record Ends (bits : List Bool) (a z : ℕ) : Type 0 where
  first : bit_row bits a ≡ true
  none_before : true_count (take a bits) ≡ 0
  last : bit_row bits z ≡ true
  all_within : true_count (take (suc z) bits) ≡ true_count bits
  inside : z < length bits

ends : (bits : List Bool) (a z : ℕ) → AreEnds bits a z → Ends bits a z
ends bits a z found =
    let first = place_is bits 0 a found.0 in
    let last = place_is bits (true_count bits - 1) z found.1 in
    let next = count_yes bits z last.1 in
    let some = true_count-take-le (suc z) bits in
    record { first = first.1; none_before = first.2; last = last.1; all_within = omega arith; inside = last.0 }

ordered : (bits : List Bool) (a z : ℕ) → Ends bits a z → a ≤ z
ordered bits a z e = elim (cases_lt z a) [
  | inl lt ↦ absurd (omega (arith, count_yes bits z e.last, (count_between bits (suc z) a lt).0))
  | inr ge ↦ ge
]

pub ends_order : (bits : List Bool) (a z : ℕ) → AreEnds bits a z → (a ≤ z) × (z < length bits)
ends_order bits a z found = let e = ends bits a z found in (ordered bits a z e, e.inside)

-- if all places from a to z count, they are a run
pub run_from_count : (bits : List Bool) (a z : ℕ) → AreEnds bits a z → z - a < true_count bits → IsRun bits a (z + 1)
run_from_count bits a z found many =
    let e = ends bits a z found in
    let order = ordered bits a z e in (
      omega arith,
      λ i. (
        λ set. (
          elim (cases_lt i a) [
            | inl lt ↦ absurd (omega (arith, count_yes bits i set, (count_between bits (suc i) a lt).0))
            | inr ge ↦ ge
          ],
          elim (cases_lt z i) [
            | inl lt ↦ absurd (omega (arith, count_yes bits i set, (count_between bits (suc z) i lt).0, true_count-take-le (suc i) bits))
            | inr ge ↦ omega arith
          ],
        ),
        λ within. elim (cases_Bool (bit_row bits i)) [
          | inl set ↦ set
          | inr unset ↦
              absurd (omega (arith, count_no bits i unset, (count_between bits a i within.0).1, (count_between bits (suc i) (suc z) (omega arith)).1))
        ],
      ),
    )

-- if fewer count, there is no run
pub no_run_from_count : (bits : List Bool) (a z : ℕ) → AreEnds bits a z → true_count bits ≤ z - a → (start end : ℕ) → IsRun bits start end → ⊥
no_run_from_count bits a z found few start end run =
    let e = ends bits a z found in
    let order = ordered bits a z e in
    let from = (run.1 a).0 e.first in
    let to = (run.1 z).0 e.last in
    let size : a + (suc z - a) ≡ suc z = omega arith in
    let all = count_run bits a (suc z - a) (λ j lower upper. (run.1 j).1 (omega arith, omega arith)) in
    omega (arith, all, ap (λ n. true_count (take n bits)) size)

-- without a true bit there is no run
pub no_run_of_none : (bits : List Bool) → true_count bits ≡ 0 → (start end : ℕ) → IsRun bits start end → ⊥
no_run_of_none bits none start end run =
    let set = (run.1 start).1 (omega arith, run.0) in
    omega (arith, count_yes bits start set, true_count-take-le (suc start) bits)

pub run_of_trues : (n : ℕ) → 0 < n → IsRun (replicate n true) 0 n
run_of_trues n some = (
  some,
  λ i. (
    λ set. (
      omega arith,
      elim (cases_lt i n) [
        | inl lt ↦ lt
        | inr ge ↦ absurd (false≢true (sym (get_or_past (replicate n true) i false (omega (arith, length-replicate n true))) ∙ set))
      ],
    ),
    λ within. get_or-replicate n i true false within.1,
  ),
)
