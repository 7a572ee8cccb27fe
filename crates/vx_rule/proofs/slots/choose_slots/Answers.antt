use Rattle.std.proofs.Common.{length, take}
use Rattle.std.proofs.lemmas.List.{take_more}
use Rattle.vx_mask.specs.Masks.{bits_in}
use Rattle.vx_tree.specs.Parts.{choice_of}
use Rattle.vx_rule.proofs.SlotsLemmas.{mapped_more, long_here, just}
use Rattle.vx_rule.proofs.slots.choose_slots.Goals as goal

pub choose_validity-requires : goal.choose_validity-requires
choose_validity-requires c =
    let s = c.index-slots-index.result in
    let n = length (bits_in c.args.mask.now) in
    just n s (long_here n c.args.slots.now c.loop-index.index s c.requires c.loop-index-test.true c.index-slots-index.is)

pub loop-index-preserved : goal.loop-index-preserved
loop-index-preserved c =
    let s = c.index-slots-index.result in
    rw (take_more c.args.slots.now c.loop-index.index s c.loop-index-test.true, ← c.index-slots-index.is, c.in_ok-push.ensures.items)
    (mapped_more (choice_of (bits_in c.args.mask.now)) (take c.loop-index.index c.args.slots.now) c.loop-index.choices.items s c.in_ok-choice.choice
    c.loop-index.invariant
    c.in_ok-choice.ensures.ok)
