use Rattle.std.proofs.Common.{◌≡◌, ◌++◌, map, Some}
use Rattle.vx_tree.proofs.arrays.slots.append_slots.Given as goal

abbrev pub invariant-loop-child : goal.invariant-loop-child
invariant-loop-child l = l.all.items ≡ l.fn.slots.items ++ map Some l.yielded
