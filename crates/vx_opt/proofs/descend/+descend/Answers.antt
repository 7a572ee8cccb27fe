use Rattle.std.proofs.Common.{◌≡◌, arith, ap, subst, sym, refl, ◌∙◌}
use Rattle.vx_opt.specs.Entries.{entries_of}
use Rattle.vx_opt.proofs.CountedLemmas.{slot_fits, fails_here, given_up, passed_on, sink_start, root_ended, root_limited, sunk_failed, child_given_up, put_failed, sunk_taken, sunk_passed, sunk_end, ending_as}
use Rattle.vx_opt.proofs.DescendsLemmas.{descends_keeps}
use Rattle.vx_opt.proofs.descend.+descend.Goals as goal
use Rattle.vx_opt.proofs.descend.+descend.Goals.{then-has_child+in_ok-parent+in_ok-child+in_ok-current-2, else-has_child}

pub returns-then-depth-eq18446744073709551615 : goal.returns-then-depth-eq18446744073709551615
returns-then-depth-eq18446744073709551615 g t c = fails_here _ _ refl

pub returns-in_err-progress : goal.returns-in_err-progress
returns-in_err-progress g t c = passed_on _ _ _ _ c.from_residual.ensures.1 (given_up _ _ _ _ _ c.in_err-progress.ensures)

pub returns-in_err-current : goal.returns-in_err-current
returns-in_err-current g t c =
    passed_on _ _ _ _ c.from_residual-in_err-current.ensures.1 (root_limited _ _ _ _ _ _ _ c.in_err-current.ensures c.in_ok-progress.ensures)

pub loop-slot-init : goal.loop-slot-init
loop-slot-init g t c =
    sink_start _ _ _ (root_ended _ _ _ _ _ _ _ c.in_ok-current.ensures c.in_ok-progress.ensures).room

pub returns-in_err-parent : goal.returns-in_err-parent
returns-in_err-parent g t c =
    passed_on _ _ _ _ c.from_residual-in_err-parent.ensures.1
    (sunk_failed _ _ _ _ _ _ (root_ended _ _ _ _ _ _ _ c.in_ok-current.ensures c.in_ok-progress.ensures) _ _ _ _ c.loop-slot.invariant _
    c.in_err-parent.ensures.err)

pub returns-in_err-child : goal.returns-in_err-child
returns-in_err-child g t c =
    passed_on _ _ _ _ c.from_residual-in_err-child.ensures.1
    (child_given_up _ _ _ _ _ _ (root_ended _ _ _ _ _ _ _ c.in_ok-current.ensures c.in_ok-progress.ensures) _ _ _ _ c.loop-slot.invariant _ _ _
    c.in_ok-parent.ensures.ok.3 c.in_err-child.ensures)

pub returns-in_err-current-2 : goal.returns-in_err-current-2
returns-in_err-current-2 g t c =
    passed_on _ _ _ _ c.from_residual-in_err-current-2.ensures.1
    (put_failed _ _ _ _ _ _ (root_ended _ _ _ _ _ _ _ c.in_ok-current.ensures c.in_ok-progress.ensures) _ _ _ _ c.loop-slot.invariant _ _ _ _ _
    c.in_ok-child.ensures c.in_err-current-2.ensures.err)

pub put-requires-clause-fits : goal.put-requires-clause-fits
put-requires-clause-fits g t c =
    slot_fits _ _ _ _ c.in_ok-parent.ensures.ok _
    (descends_keeps _ _ c.in_ok-child.ensures.count c.in_ok-child.ensures.spent c.in_ok-child.ensures.done)

pub loop-slot-preserved : goal.loop-slot-preserved
loop-slot-preserved g t c =
    let root = root_ended _ _ _ _ _ _ _ c.in_ok-current.ensures c.in_ok-progress.ensures in
    elim c.if-has_child.branch [
      | then-has_child+in_ok-parent+in_ok-child+in_ok-current-2 w ↦
          ending_as _ _ _ _ _ _ _ w.total-is (ap (λ r. entries_of (λ v. (g.dyn-1.0.entry v).1) r) w.rules-is)
          (sunk_taken _ _ _ _ _ _ root _ _ _ _ c.loop-slot.invariant _ _ _ _ w.in_ok-parent.ensures.ok _ _ w.in_ok-child.ensures
          (w.current-is ∙ w.in_ok-current-2.ensures.ok))
      | else-has_child w ↦
          ending_as _ _ _ _ _ _ _ w.total-is (ap (λ r. entries_of (λ v. (g.dyn-1.0.entry v).1) r) w.rules-is)
          (sunk_passed _ _ _ _ _ _ root _ _ _ _ c.loop-slot.invariant _ w.current-is (w.if-has_child.ensures.no refl))
    ]

pub returns : goal.returns
returns g t c =
    sunk_end _ _ _ _ _ _ (root_ended _ _ _ _ _ _ _ c.in_ok-current.ensures c.in_ok-progress.ensures) _ _ _ _ c.loop-slot.invariant
    (omega (arith, c.loop-slot-test.false, c.loop-slot.auto.slot-end, c.number_of_slots-slot-end.ensures))
