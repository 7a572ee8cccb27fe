use Rattle.std.proofs.Common.{◌≡◌, take, map}
use Rattle.vx_value.specs.View.{type_of}
use Rattle.vx_tree.specs.Tree.{slots_of, types_in}
use Rattle.vx_tree.specs.Well.{shapes}
use Rattle.vx_tree.proofs.arrays.scalar_fn.types_of.Given as goal

abbrev pub invariant-loop-slot : goal.invariant-loop-slot
invariant-loop-slot l = map type_of l.types.items ≡ types_in (shapes (slots_of (take l.slot-index l.slots)))
