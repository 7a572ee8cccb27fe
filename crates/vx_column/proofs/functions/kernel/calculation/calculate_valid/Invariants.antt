use Rattle.std.proofs.Common.{◌≡◌, ◌≤◌, map, vec_len, vec_capacity, pos}
use Rattle.vx_value.specs.Cell.{value}
use Rattle.vx_mask.specs.Logic.{bit_row}
use Rattle.vx_column.specs.Operands.{calculated_rows}
use Rattle.vx_column.proofs.functions.kernel.calculation.calculate_valid.Given as goal

abbrev pub invariant-loop-index : goal.invariant-loop-index
invariant-loop-index g l =
    (vec_len l.numbers ≡ l.index) × (l.len ≤ vec_capacity l.numbers)
    × (map (λ x. value (g.C.Calculation.stands_for l.calculation (g.U.Number.value x))) l.numbers.items
    ≡ calculated_rows (g.C.Calculation.stands_for l.calculation (pos 0)) (bit_row l.valid) (g.C.Calculation.cell l.calculation) l.index)
