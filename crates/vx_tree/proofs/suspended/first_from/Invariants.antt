use Rattle.vx_tree.specs.Tree.{slots_of}
use Rattle.vx_tree.specs.Slots.{NoneBefore}
use Rattle.vx_tree.proofs.suspended.first_from.Given as goal

abbrev pub invariant-loop-index : goal.invariant-loop-index
invariant-loop-index l = NoneBefore l.index (slots_of l.slots)
