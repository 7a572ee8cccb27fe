use Rattle.std.proofs.Common.{◌≡◌, drop}
use Rattle.vx_tree.specs.Tree.{slots_of}
use Rattle.vx_tree.specs.Well.{shapes}
use Rattle.vx_tree.specs.SlotTypes.{type_refusal}
use Rattle.vx_value.specs.View.{type_of}
use Rattle.vx_tree.proofs.arrays.slots.check_types.Given as goal

abbrev pub invariant-loop-slot : goal.invariant-loop-slot
invariant-loop-slot l =
    type_refusal (type_of l.dtype) l.first (shapes (slots_of (drop l.first l.slots)))
    ≡ type_refusal (type_of l.dtype) l.slot (shapes (slots_of (drop l.slot l.slots)))
