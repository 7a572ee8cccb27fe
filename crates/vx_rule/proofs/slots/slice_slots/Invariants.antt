use Rattle.std.proofs.Common.{◌≡◌, take}
use Rattle.vx_tree.specs.Tree.{slots_of, slice_of}
use Rattle.vx_tree.specs.Slots.{map_slots}
use Rattle.vx_rule.proofs.slots.slice_slots.Given as goal

abbrev pub invariant-loop-index : goal.invariant-loop-index
invariant-loop-index l = slots_of l.slices.items ≡ map_slots (slice_of l.start l.end) (slots_of (take l.index l.slots))
