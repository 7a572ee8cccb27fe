use Rattle.std.proofs.Common.{◌≡◌, take, true}
use Rattle.vx_tree.specs.Tree.{slots_of, all_long}
use Rattle.vx_tree.specs.Well.{shapes}
use Rattle.vx_tree.proofs.arrays.scalar_fn.are_long.Given as goal

abbrev pub invariant-loop-slot : goal.invariant-loop-slot
invariant-loop-slot l = all_long l.len (shapes (slots_of (take l.slot-index l.slots))) ≡ true
