use Rattle.std.proofs.Common.{take}
use Rattle.std.proofs.lemmas.List.{take_more}
use Rattle.vx_tree.proofs.SlotsLemmas.{well_append}
use Rattle.vx_tree.proofs.array.node.know_well.Goals as goal

pub loop-slot-preserved : goal.loop-slot-preserved
loop-slot-preserved c =
    rw (take_more c.args.slots.now c.loop-slot.slot-index c.slot-item.result c.loop-slot-test.true, ← c.slot-item.is)
    (well_append (take c.loop-slot.slot-index c.args.slots.now) _ c.loop-slot.invariant c.know_slot.ensures)
