use Rattle.std.specs.Prelude.{MatchOption}
use Rattle.std.proofs.Common.{◌<◌, ◌≤◌, ℕ, true, false, replicate, arith, sym, subst, inl, inr}
use Rattle.std.specs.Bool.{then_some}
use Rattle.std.proofs.Math.Dec.{ltb}
use Rattle.std.proofs.lemmas.Bool.{cases_lt, lt-ltb, le-ltb}
use Rattle.vx_mask.specs.Masks.{bits_in}
use Rattle.vx_mask.specs.Places.{IsRun}
use Rattle.vx_mask.proofs.PlacesLemmas.{true_count-trues, true_count-falses}
use Rattle.vx_mask.proofs.Runs.{run_of_trues, no_run_of_none}
use Rattle.vx_mask.proofs.mask.Mask.contiguous_range.Goals as goal

-- what a test of an order chooses
by_order : {A : Type 0} (a b : ℕ) (x : A) (N : Type 0) (P : A → Type 0) → (b ≤ a → N) → (a < b → P x) → MatchOption (then_some (ltb a b) x) N P
by_order a b x N P none some = elim (cases_lt a b) [
  | inl lt ↦ subst (λ test. MatchOption (then_some test x) N P) (sym (lt-ltb a b lt)) (some lt)
  | inr ge ↦ subst (λ test. MatchOption (then_some test x) N P) (sym (le-ltb a b ge)) (none ge)
]

pub returns-in-AllTrue : goal.returns-in-AllTrue
returns-in-AllTrue c =
    let n = c.in-AllTrue.len in
    subst (λ m. MatchOption c.then_some.result ((a b : ℕ) → IsRun (bits_in m) a b → ⊥) (λ range. IsRun (bits_in m) range.start range.end)) (sym c.in-AllTrue.is)
    (rw c.then_some.ensures (by_order 0 n _ _ _
    (λ none. no_run_of_none (replicate n true) (omega (arith, true_count-trues n))) (λ some. run_of_trues n some)))

pub returns-in-AllFalse : goal.returns-in-AllFalse
returns-in-AllFalse c =
    subst (λ m. (a b : ℕ) → IsRun (bits_in m) a b → ⊥) (sym c.in-AllFalse.is)
    (no_run_of_none (replicate c.in-AllFalse.field-0 false) (true_count-falses c.in-AllFalse.field-0))

pub returns-in-Values : goal.returns-in-Values
returns-in-Values c =
    subst (λ m. MatchOption c.contiguous_range.result ((a b : ℕ) → IsRun (bits_in m) a b → ⊥) (λ range. IsRun (bits_in m) range.start range.end))
    (sym c.in-Values.is) c.contiguous_range.ensures
