use Rattle.std.proofs.Common.{take}
use Rattle.std.specs.List.{AllZip}
use Rattle.vx_column.specs.Applied.{Repeats}
use Rattle.vx_column.proofs.functions.apply.constant.constants.Given as goal

abbrev pub invariant-loop-column : goal.invariant-loop-column
invariant-loop-column l = AllZip Repeats (take l.column-index l.columns) l.scalars.items
