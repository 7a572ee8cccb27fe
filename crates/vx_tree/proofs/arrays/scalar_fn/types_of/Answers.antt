use Rattle.std.proofs.Common.{◌++◌, take, sym, ap, ◌∙◌}
use Rattle.std.proofs.lemmas.List.{take_more}
use Rattle.vx_tree.specs.Refusals.{type_in}
use Rattle.vx_tree.proofs.RefusalsLemmas.{types_more}
use Rattle.vx_tree.proofs.arrays.scalar_fn.types_of.Goals as goal

pub loop-slot-preserved : goal.loop-slot-preserved
loop-slot-preserved c =
    rw (take_more c.args.slots.now c.loop-slot.slot-index c.slot-item.result c.loop-slot-test.true, ← c.slot-item.is)
    (c.in_ok-push_type.ensures ∙ ap (λ z. z ++ type_in c.slot-item.result) c.loop-slot.invariant ∙
    sym (types_more (take c.loop-slot.slot-index c.args.slots.now) c.slot-item.result))
