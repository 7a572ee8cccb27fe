use Rattle.std.proofs.Common.{take}
use Rattle.std.specs.List.{AllZip}
use Rattle.vx_column.proofs.RowByRowLemmas.{IsReadFrom}
use Rattle.vx_column.proofs.functions.apply.each.apply_at.Given as goal

abbrev pub invariant-loop-column : goal.invariant-loop-column
invariant-loop-column l = AllZip (IsReadFrom l.index) (take l.column-index l.arguments) l.scalars.items
