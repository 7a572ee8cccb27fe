use Rattle.std.proofs.Common.{◌≡◌, true}
use Rattle.vx_column.specs.Checks.{checked_rows}
use Rattle.vx_column.proofs.functions.operator.checks.check_all.Given as goal

abbrev pub invariant-loop-index : goal.invariant-loop-index
invariant-loop-index g l = l.bits ≡ checked_rows (λ i. true) (g.C.RowCheck.answer l.check) l.index
