use Rattle.std.proofs.Common.{◌≡◌, rules, take, true, false, sym, ap, ◌∙◌}
use Rattle.std.proofs.lemmas.List.{take_more}
use Rattle.vx_step.proofs.WaitingLemmas.{settled_more, waits_at}
use Rattle.vx_step.specs.Waiting.{waits}
use Rattle.vx_step.proofs.function.first_waiting.Goals as goal

pub returns-then-is_waiting : goal.returns-then-is_waiting
returns-then-is_waiting c =
    let slot = c.index-slots-index.result in
    let waiting : waits slot ≡ true = search rules in
    waits_at c.args.slots.now c.loop-index.index slot c.loop-index-test.true c.loop-index.invariant (ap waits (sym c.index-slots-index.is) ∙ waiting)

pub loop-index-preserved : goal.loop-index-preserved
loop-index-preserved c =
    let slot = c.index-slots-index.result in
    let settled : waits slot ≡ false = search rules in
    rw (take_more c.args.slots.now c.loop-index.index slot c.loop-index-test.true, ← c.index-slots-index.is)
    (settled_more c.args.slots.now
    (take c.loop-index.index c.args.slots.now) c.loop-index.index slot c.requires c.loop-index-test.true c.index-slots-index.is c.loop-index.invariant
    settled)
