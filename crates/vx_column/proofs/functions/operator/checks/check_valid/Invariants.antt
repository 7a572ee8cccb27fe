use Rattle.std.proofs.Common.{◌≡◌}
use Rattle.vx_mask.specs.Logic.{bit_row}
use Rattle.vx_column.specs.Checks.{checked_rows}
use Rattle.vx_column.proofs.functions.operator.checks.check_valid.Given as goal

abbrev pub invariant-loop-index : goal.invariant-loop-index
invariant-loop-index g l = l.bits ≡ checked_rows (bit_row l.valid) (g.C.RowCheck.answer l.check) l.index
