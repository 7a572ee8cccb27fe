use Rattle.std.proofs.Common.{take}
use Rattle.std.proofs.lemmas.List.{take_more}
use Rattle.vx_tree.specs.Tree.{slice_of}
use Rattle.vx_rule.proofs.SlotsLemmas.{mapped_more, long_here, within}
use Rattle.vx_rule.proofs.slots.slice_slots.Goals as goal

pub slice_slot-requires-clause-bounds : goal.slice_slot-requires-clause-bounds
slice_slot-requires-clause-bounds c =
    let s = c.index-slots-index.result in
    within c.args.range.end c.args.len s c.requires.bounds
    (long_here c.args.len c.args.slots.now c.loop-index.index s c.requires.long c.loop-index-test.true c.index-slots-index.is)

pub loop-index-preserved : goal.loop-index-preserved
loop-index-preserved c =
    let s = c.index-slots-index.result in
    let f = slice_of c.args.range.start c.args.range.end in
    rw (take_more c.args.slots.now c.loop-index.index s c.loop-index-test.true, ← c.index-slots-index.is, c.in_ok-push.ensures.items)
    (mapped_more f (take c.loop-index.index c.args.slots.now) c.loop-index.slices.items s c.in_ok-slice_slot.field-0 c.loop-index.invariant
    c.in_ok-slice_slot.ensures.ok)
