use Rattle.std.proofs.Common.{◌≡◌, ◌+◌, ◌*◌, length, drop}
use Rattle.vx_value.specs.Values.{height, values_height}
use Rattle.vx_value.specs.View.{value_of, cell_of, values_of}
use Rattle.vx_value.specs.Order.{same_values}
use Rattle.vx_value.proofs.compare.+values.Given as goal

abbrev pub decreases-same_cells : goal.decreases-same_cells
decreases-same_cells l = 3 * height (cell_of l.left.now) + 2

abbrev pub decreases-same_present : goal.decreases-same_present
decreases-same_present l = 3 * height (value_of l.left.now) + 1

abbrev pub decreases-same_items : goal.decreases-same_items
decreases-same_items l = 3 * values_height (values_of l.left.now) + 3

-- the values to come decide
abbrev pub invariant-same_items-loop-i : goal.invariant-same_items-loop-i
invariant-same_items-loop-i l =
    (length l.left ≡ length l.right)
    × (same_values (values_of l.left) (values_of l.right) ≡ same_values (values_of (drop l.i l.left)) (values_of (drop l.i l.right)))
