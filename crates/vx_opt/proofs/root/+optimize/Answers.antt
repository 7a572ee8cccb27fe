use Rattle.std.proofs.Common.{◌≡◌, ◌<◌, ◌≤◌, ◌+◌, arith, subst, sym, ◌∙◌, ap, inl, inr, length, take, Some, None}
use Rattle.std.proofs.Math.Seq.{take-length}
use Rattle.std.specs.Prelude.{◌⊎◌}
use Rattle.vx_tree.specs.Slots.{IsPresent}
use Rattle.vx_opt.specs.Limits.{root_limit, call_limit}
use Rattle.vx_opt.specs.Progress.{FitsIn}
use Rattle.vx_opt.proofs.PassedLemmas.{passed_as}
use Rattle.vx_opt.proofs.EntriesLemmas.{all_later_trans}
use Rattle.vx_opt.proofs.CountedLemmas.{slot_progress_fits, way_start, way_limit, way_go, way_end, fails_after, fails_late, come_later, come_settled, passed_on, between_start, between_end, present_at, named_later, named_halted, named_settled}
use Rattle.vx_opt.proofs.root.+optimize.Goals as goal
use Rattle.vx_opt.proofs.root.+optimize.Goals.{then-at_root-gt-MAX_OPTIMIZER_REWRITE_PASS-via-then-at_root-gt-MAX_OPTIMIZER_REWRITE_PASS, then-at_root-gt-MAX_OPTIMIZER_REWRITE_PASS-via-else-at_root-gt-MAX_OPTIMIZER_REWRITE_PASS+then-total-eq-MAX_OPTIMIZER_REWRITES}

pub loop-current-init : goal.loop-current-init
loop-current-init g t c = way_start c.args.array c.args.total.now _ c.requires

pub returns-in_err-raw : goal.returns-in_err-raw
returns-in_err-raw g t c = passed_on _ _ _ _ c.from_residual.ensures.1 (fails_after _ _ _ _ c.loop-current.invariant.runs.paid.later c.in_err-raw.ensures)

pub returns-then-at_root-gt-MAX_OPTIMIZER_REWRITE_PASS :
    goal.returns-then-at_root-gt-MAX_OPTIMIZER_REWRITE_PASS
returns-then-at_root-gt-MAX_OPTIMIZER_REWRITE_PASS g t c =
    let l : (c.loop-current.at_root + 1 ≡ root_limit + 1) ⊎ (c.loop-current.total + 1 ≡ call_limit) =
    elim c.then-at_root-gt-MAX_OPTIMIZER_REWRITE_PASS.branch [
      | then-at_root-gt-MAX_OPTIMIZER_REWRITE_PASS-via-then-at_root-gt-MAX_OPTIMIZER_REWRITE_PASS w ↦ inl
          (omega (arith, c.loop-current.invariant.few))
      | then-at_root-gt-MAX_OPTIMIZER_REWRITE_PASS-via-else-at_root-gt-MAX_OPTIMIZER_REWRITE_PASS+then-total-eq-MAX_OPTIMIZER_REWRITES w ↦ inr
          (omega arith)
    ] in
    rw c.stopped.ensures
    (way_limit _ _ c.in-Some.raw _ _ _ _ _ _ c.well_formed_tree.ensures.formed c.loop-current.invariant
    (passed_as _ _ _ _ _ c.in_ok-raw.ensures c.in-Some.is) l)

pub loop-i-init : goal.loop-i-init
loop-i-init g t c =
    between_start c.in-Some.raw.optimize.items c.in-Some.raw.tree (c.loop-current.total + 1) _
    (passed_as _ _ _ _ _ c.in_ok-raw.ensures c.in-Some.is).2 (omega (arith, c.loop-current.invariant.runs.room, c.if-total-eq-MAX_OPTIMIZER_REWRITES.false))

pub take_slot-requires : goal.take_slot-requires
take_slot-requires g t c =
    let os = c.in-Some.raw.optimize.items in
    let b : c.loop-i.i < length os = omega (arith, c.in-Some.raw.optimize.ok.0) in
    subst (λ n. IsPresent n c.loop-i.current) (sym c.index-slot.ensures)
    (present_at os c.loop-i.i c.index-slot.result.now c.loop-i.current b c.loop-i.invariant.present)

pub returns-in_err-parent : goal.returns-in_err-parent
returns-in_err-parent g t c =
    let os = c.in-Some.raw.optimize.items in
    let b : c.loop-i.i < length os = omega (arith, c.in-Some.raw.optimize.ok.0) in
    passed_on _ _ _ _ c.from_residual-in_err-parent.ensures.1
    (fails_late _ _ c.in_err-parent.field-0.0
    (named_later _ _ c.in-Some.raw _ _ _ _ _ _ c.well_formed_tree.ensures.formed c.loop-current.invariant
    (passed_as _ _ _ _ _ c.in_ok-raw.ensures c.in-Some.is) (omega (arith, c.if-at_root-gt-MAX_OPTIMIZER_REWRITE_PASS.false)) c.loop-i.i
    c.index-slot.result.now c.loop-i.current c.loop-i.total _ b c.loop-i.invariant)
    c.in_err-parent.ensures.err)

pub returns-in_err-halted : goal.returns-in_err-halted
returns-in_err-halted g t c =
    let os = c.in-Some.raw.optimize.items in
    let b : c.loop-i.i < length os = omega (arith, c.in-Some.raw.optimize.ok.0) in
    passed_on _ _ _ _ c.from_residual-in_err-halted.ensures.1
    (fails_after _ _ _ _
    (named_later _ _ c.in-Some.raw _ _ _ _ _ _ c.well_formed_tree.ensures.formed c.loop-current.invariant
    (passed_as _ _ _ _ _ c.in_ok-raw.ensures c.in-Some.is) (omega (arith, c.if-at_root-gt-MAX_OPTIMIZER_REWRITE_PASS.false)) c.loop-i.i
    c.index-slot.result.now c.loop-i.current c.loop-i.total _ b c.loop-i.invariant)
    c.in_err-halted.ensures)

pub returns-in_err-current-in-Settled : goal.returns-in_err-current-in-Settled
returns-in_err-current-in-Settled g t c =
    let os = c.in-Some.raw.optimize.items in
    let b : c.loop-i.i < length os = omega (arith, c.in-Some.raw.optimize.ok.0) in
    passed_on _ _ _ _ c.from_residual-in_err-current-in-Settled.ensures.1
    (fails_late _ _ c.in_err-current-in-Settled.field-0.0
    (all_later_trans _ _ _
    (named_later _ _ c.in-Some.raw _ _ _ _ _ _ c.well_formed_tree.ensures.formed c.loop-current.invariant
    (passed_as _ _ _ _ _ c.in_ok-raw.ensures c.in-Some.is) (omega (arith, c.if-at_root-gt-MAX_OPTIMIZER_REWRITE_PASS.false)) c.loop-i.i
    c.index-slot.result.now c.loop-i.current c.loop-i.total _ b c.loop-i.invariant)
    (come_later _ _ _ _ _ _ _ c.in_ok-halted.ensures))
    c.in_err-current-in-Settled.ensures.err)

pub returns-in_err-within-in_default-2 : goal.returns-in_err-within-in_default-2
returns-in_err-within-in_default-2 g t c =
    let os = c.in-Some.raw.optimize.items in
    let b : c.loop-i.i < length os = omega (arith, c.in-Some.raw.optimize.ok.0) in
    passed_on _ _ _ _ c.from_residual-in_err-within-in_default-2.ensures.1
    (fails_late _ _ c.in_err-within-in_default-2.field-0.0
    (all_later_trans _ _ _
    (named_later _ _ c.in-Some.raw _ _ _ _ _ _ c.well_formed_tree.ensures.formed c.loop-current.invariant
    (passed_as _ _ _ _ _ c.in_ok-raw.ensures c.in-Some.is) (omega (arith, c.if-at_root-gt-MAX_OPTIMIZER_REWRITE_PASS.false)) c.loop-i.i
    c.index-slot.result.now c.loop-i.current c.loop-i.total _ b c.loop-i.invariant)
    (come_later _ _ _ _ _ _ _ c.in_ok-halted.ensures))
    c.in_err-within-in_default-2.ensures.err)

pub returns-in_default-2 : goal.returns-in_default-2
returns-in_default-2 g t c =
    let os = c.in-Some.raw.optimize.items in
    let b : c.loop-i.i < length os = omega (arith, c.in-Some.raw.optimize.ok.0) in
    named_halted _ _ c.in-Some.raw _ _ _ _ _ _ c.well_formed_tree.ensures.formed c.loop-current.invariant
    (passed_as _ _ _ _ _ c.in_ok-raw.ensures c.in-Some.is) (omega (arith, c.if-at_root-gt-MAX_OPTIMIZER_REWRITE_PASS.false)) c.loop-i.i
    c.index-slot.result.now c.loop-i.current c.loop-i.total _ b c.loop-i.invariant
    c.index-slot.result.now c.in_ok-parent.child c.in_ok-parent.parent c.index-slot.ensures c.in_ok-parent.ensures.ok _ _ c.in_ok-halted.halted _
    c.in_default-2.not-Settled c.in_ok-halted.ensures c.in_ok-within-in_default-2.ensures.ok

pub put-requires-clause-fits : goal.put-requires-clause-fits
put-requires-clause-fits g t c =
    subst (FitsIn c.index-slot.result.now c.in_ok-parent.parent) c.in-Settled.is
    (slot_progress_fits _ _ _ _ c.in_ok-parent.ensures.ok _ _ _ _ _ c.in_ok-halted.ensures)

pub within-requires-clause-fits : goal.within-requires-clause-fits
within-requires-clause-fits g t c = slot_progress_fits _ _ _ _ c.in_ok-parent.ensures.ok _ _ _ _ _ c.in_ok-halted.ensures

pub loop-i-preserved : goal.loop-i-preserved
loop-i-preserved g t c =
    let os = c.in-Some.raw.optimize.items in
    let b : c.loop-i.i < length os = omega (arith, c.in-Some.raw.optimize.ok.0) in
    named_settled _ _ c.in-Some.raw _ _ _ _ _ _ c.well_formed_tree.ensures.formed c.loop-current.invariant
    (passed_as _ _ _ _ _ c.in_ok-raw.ensures c.in-Some.is) (omega (arith, c.if-at_root-gt-MAX_OPTIMIZER_REWRITE_PASS.false)) c.loop-i.i
    c.index-slot.result.now c.loop-i.current c.loop-i.total _ b c.loop-i.invariant
    c.index-slot.result.now c.in_ok-parent.child c.in_ok-parent.parent c.in-Settled.child _ c.index-slot.ensures c.in_ok-parent.ensures.ok _ _
    (come_settled _ _ _ _ _ _ _ c.in-Settled.child c.in_ok-halted.ensures c.in-Settled.is) c.in_ok-current-in-Settled.ensures.ok

pub loop-current-preserved : goal.loop-current-preserved
loop-current-preserved g t c =
    let os = c.in-Some.raw.optimize.items in
    let e : c.loop-i.i ≡ length os = omega (arith, c.loop-i.auto.i-end, c.in-Some.raw.optimize.ok.0) in
    way_go _ _ c.in-Some.raw _ _ _ _ _ _ c.well_formed_tree.ensures.formed c.loop-current.invariant
    (passed_as _ _ _ _ _ c.in_ok-raw.ensures c.in-Some.is) c.loop-i.current c.loop-i.total _
    (omega (arith, c.if-at_root-gt-MAX_OPTIMIZER_REWRITE_PASS.false))
    (between_end os c.loop-i.i c.in-Some.raw.tree c.loop-i.current _ _ _ _ (ap (λ n. take n os) e ∙ take-length os) c.loop-i.invariant)

pub returns : goal.returns
returns g t c = way_end _ _ _ _ _ _ _ _ c.loop-current.invariant (passed_as _ _ _ _ _ c.in_ok-raw.ensures c.in_default.is)
