use Rattle.std.proofs.Common.{take}
use Rattle.std.specs.List.{AllZip}
use Rattle.vx_column.specs.Arguments.{IsArgument}
use Rattle.vx_column.proofs.rows.argument.arguments_of.Given as goal

abbrev pub invariant-loop-column : goal.invariant-loop-column
invariant-loop-column l = AllZip IsArgument (take l.column-index l.columns) l.arguments.items
