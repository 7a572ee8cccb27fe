use Rattle.std.proofs.Common.{◌≡◌, map, take}
use Rattle.vx_value.specs.Values.{boolean}
use Rattle.vx_value.specs.Cell.{value}
use Rattle.vx_tree.specs.Cells.{rows, shown_cell}
use Rattle.vx_column.proofs.validity.shown_rows.Given as goal

abbrev pub invariant-loop-index : goal.invariant-loop-index
invariant-loop-index l = take l.index (map shown_cell (rows l.array)) ≡ map (λ b. value (boolean b)) l.bits
