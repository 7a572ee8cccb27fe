use Rattle.std.proofs.Common.{◌≡◌, drop}
use Rattle.vx_tree.specs.Tree.{slots_of}
use Rattle.vx_tree.specs.Well.{shapes}
use Rattle.vx_tree.specs.SlotTypes.{missing_refusal}
use Rattle.vx_tree.proofs.arrays.slots.check_present.Given as goal

abbrev pub invariant-loop-slot : goal.invariant-loop-slot
invariant-loop-slot l = missing_refusal 0 (shapes (slots_of l.slots)) ≡ missing_refusal l.slot (shapes (slots_of (drop l.slot l.slots)))
