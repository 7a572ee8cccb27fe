use Rattle.std.proofs.Common.{◌≡◌}
use Rattle.vx_column.specs.Arguments.{bytes_in}
use Rattle.vx_column.specs.Selected.{selected_rows}
use Rattle.vx_column.proofs.functions.select.select.select_views.Given as goal

abbrev pub invariant-loop-index : goal.invariant-loop-index
invariant-loop-index l = l.rows ≡ selected_rows l.choice (bytes_in l.left) (bytes_in l.right) l.index
