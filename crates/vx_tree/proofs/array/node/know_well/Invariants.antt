use Rattle.std.proofs.Common.{take}
use Rattle.vx_tree.specs.Tree.{slots_of}
use Rattle.vx_tree.specs.Well.{AreWell}
use Rattle.vx_tree.proofs.array.node.know_well.Given as goal

abbrev pub invariant-loop-slot : goal.invariant-loop-slot
invariant-loop-slot l = AreWell (slots_of (take l.slot-index l.slots))
