use Rattle.std.proofs.Common.{◌≡◌, rules, take, true, false, sym, ap, ◌∙◌}
use Rattle.std.proofs.lemmas.List.{take_more}
use Rattle.vx_tree.specs.Refusals.{is_present}
use Rattle.vx_tree.proofs.RefusalsLemmas.{present_more, missing_there}
use Rattle.vx_tree.proofs.arrays.scalar_fn.are_present.Goals as goal

pub returns-then-is_none : goal.returns-then-is_none
returns-then-is_none c =
    let missing : is_present c.slot-item.result ≡ false = search rules in
    sym (missing_there c.args.slots.now c.loop-slot.slot-index c.slot-item.result c.loop-slot-test.true (ap is_present (sym c.slot-item.is) ∙ missing))

pub loop-slot-preserved : goal.loop-slot-preserved
loop-slot-preserved c =
    let present : is_present c.slot-item.result ≡ true = search rules in
    rw (take_more c.args.slots.now c.loop-slot.slot-index c.slot-item.result c.loop-slot-test.true, ← c.slot-item.is)
    (present_more (take c.loop-slot.slot-index c.args.slots.now) c.slot-item.result c.loop-slot.invariant present)
