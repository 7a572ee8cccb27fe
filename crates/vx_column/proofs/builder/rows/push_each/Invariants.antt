use Rattle.std.proofs.Common.{◌≡◌, ◌++◌, []}
use Rattle.vx_column.specs.Arguments.{bytes_in}
use Rattle.vx_column.specs.Growing.{rows_or}
use Rattle.vx_column.proofs.builder.rows.push_each.Given as goal

abbrev pub invariant-loop-index : goal.invariant-loop-index
invariant-loop-index l = l.kept ≡ l.initial.kept ++ rows_or [] l.valid (bytes_in l.bytes) l.index
