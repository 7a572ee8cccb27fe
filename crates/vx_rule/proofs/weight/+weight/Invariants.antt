use Rattle.std.proofs.Common.{◌+◌, ◌*◌, take}
use Rattle.vx_tree.specs.Tree.{height, slots_height, slots_of}
use Rattle.vx_tree.specs.Weight.{slots_weights}
use Rattle.vx_rule.specs.Weighings.{IsSummed}
use Rattle.vx_rule.proofs.weight.+weight.Given as goal

abbrev pub decreases-excess_of : goal.decreases-excess_of
decreases-excess_of l = 2 * height l.array.now

abbrev pub decreases-sum_slots : goal.decreases-sum_slots
decreases-sum_slots l = 2 * slots_height (slots_of l.slots.now) + 1

abbrev pub invariant-sum_slots-loop-slot : goal.invariant-sum_slots-loop-slot
invariant-sum_slots-loop-slot l = IsSummed l.sums (slots_weights (slots_of (take l.slot-index l.slots)))
