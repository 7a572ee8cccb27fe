use Rattle.std.proofs.Common.{◌≡◌, take, map}
use Rattle.vx_tree.specs.Tree.{slots_of, filled_slots}
use Rattle.vx_tree.specs.Canonicals.{columnar_tree}
use Rattle.vx_step.proofs.function.columns_of.Given as goal

abbrev pub invariant-loop-slot : goal.invariant-loop-slot
invariant-loop-slot l = filled_slots (map columnar_tree l.columns.items) ≡ slots_of (take l.slot-index l.slots)
