use Rattle.std.proofs.Common.{◌≡◌}
use Rattle.vx_tree.specs.Tree.{slots_of, filled_slots}
use Rattle.vx_tree.proofs.arrays.scalar_fn.fill_slots.Given as goal

abbrev pub invariant-loop-child : goal.invariant-loop-child
invariant-loop-child l = slots_of l.slots.items ≡ filled_slots l.yielded
