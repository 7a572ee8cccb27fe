use Rattle.std.proofs.Common.{◌+◌, ◌-◌, ℕ, arith, subst, sym}
use Rattle.vx_mask.specs.Places.{true_count, IsRun}
use Rattle.vx_mask.proofs.PlacesLemmas.{place_some}
use Rattle.vx_mask.proofs.Runs.{ends_order, run_from_count, no_run_from_count}
use Rattle.vx_mask.proofs.mask_values.MaskValues.contiguous_range.Goals as goal

pub returns-in_err-first : goal.returns-in_err-first
returns-in_err-first c =
    let some = place_some c.self.inside.bits 0 (omega arith) in
    let none = c.in_err-first.ensures in
    absurd (cc (some.1, none))

pub returns-in_err-last : goal.returns-in_err-last
returns-in_err-last c =
    let bits = c.self.inside.bits in
    let some = place_some bits (true_count bits - 1) (omega arith) in
    let none = c.in_err-last.ensures in
    absurd (cc (some.1, none))

pub overflow_sub-last : goal.overflow_sub-last
overflow_sub-last c = (ends_order c.self.inside.bits c.in_ok-first.first c.in_ok-last.last (sym c.in_ok-first.ensures, sym c.in_ok-last.ensures)).0

pub overflow_add-result : goal.overflow_add-result
overflow_add-result c =
    let inside = (ends_order c.self.inside.bits c.in_ok-first.first c.in_ok-last.last (sym c.in_ok-first.ensures, sym c.in_ok-last.ensures)).1 in
    record { fits = omega (arith, inside) }

pub returns-then-last-first : goal.returns-then-last-first
returns-then-last-first c =
    subst (λ bits. IsRun bits c.in_ok-first.first (c.in_ok-last.last + 1)) c.self.view_is
    (run_from_count c.self.inside.bits c.in_ok-first.first c.in_ok-last.last (sym c.in_ok-first.ensures, sym c.in_ok-last.ensures) (omega arith))

pub returns-else-last-first : goal.returns-else-last-first
returns-else-last-first c =
    subst (λ bits. (a b : ℕ) → IsRun bits a b → ⊥) c.self.view_is
    (no_run_from_count c.self.inside.bits c.in_ok-first.first c.in_ok-last.last (sym c.in_ok-first.ensures, sym c.in_ok-last.ensures) (omega arith))
