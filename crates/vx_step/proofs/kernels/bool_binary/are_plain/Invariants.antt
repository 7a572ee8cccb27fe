use Rattle.std.proofs.Common.{◌≡◌, true, take}
use Rattle.vx_tree.specs.Tree.{slots_of}
use Rattle.vx_step.specs.Kernels.{are_plain}
use Rattle.vx_step.proofs.kernels.bool_binary.are_plain.Given as goal

abbrev pub invariant-loop-index : goal.invariant-loop-index
invariant-loop-index l = are_plain (slots_of (take l.index l.slots)) ≡ true
