use Rattle.std.proofs.Common.{◌≡◌, drop}
use Rattle.vx_value.specs.View.{fields_of}
use Rattle.vx_tree.specs.Tree.{slots_of, fields_shapes}
use Rattle.vx_tree.specs.Well.{shapes}
use Rattle.vx_tree.specs.SlotShapes.{first_refusal}
use Rattle.vx_tree.proofs.arrays.structs.check_each.Given as goal

-- the fields to come decide
abbrev pub invariant-loop-slot : goal.invariant-loop-slot
invariant-loop-slot l =
    first_refusal l.kept 0 (fields_shapes l.len (fields_of l.fields)) (shapes (slots_of l.slots))
    ≡ first_refusal l.kept l.slot (fields_shapes l.len (fields_of (drop l.slot l.fields))) (shapes (slots_of (drop l.slot l.slots)))
