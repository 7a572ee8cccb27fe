use Rattle.std.proofs.Common.{take}
use Rattle.vx_tree.specs.Tree.{slots_of}
use Rattle.vx_step.specs.Waiting.{AreColumns}
use Rattle.vx_step.proofs.function.first_waiting.Given as goal

abbrev pub invariant-loop-index : goal.invariant-loop-index
invariant-loop-index l = AreColumns (slots_of (take l.index l.slots))
