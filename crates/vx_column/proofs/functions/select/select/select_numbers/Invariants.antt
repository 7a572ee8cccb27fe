use Rattle.std.proofs.Common.{◌≡◌, ◌≤◌, map, vec_len, vec_capacity}
use Rattle.vx_column.specs.Operands.{number_in}
use Rattle.vx_column.specs.Selected.{selected_rows}
use Rattle.vx_column.proofs.functions.select.select.select_numbers.Given as goal

abbrev pub invariant-loop-index : goal.invariant-loop-index
invariant-loop-index g l =
    (vec_len l.numbers ≡ l.index) × (l.len ≤ vec_capacity l.numbers)
    × (map g.T.Number.value l.numbers.items
    ≡ selected_rows l.choice (number_in g.T.Number.value l.left) (number_in g.T.Number.value l.right) l.index)
