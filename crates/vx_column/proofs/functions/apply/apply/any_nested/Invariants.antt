use Rattle.std.proofs.Common.{◌≡◌, map, drop}
use Rattle.vx_tree.specs.Canonicals.{columnar_tree}
use Rattle.vx_column.specs.Arguments.{any_nested}
use Rattle.vx_column.proofs.functions.apply.apply.any_nested.Given as goal

abbrev pub invariant-loop-column : goal.invariant-loop-column
invariant-loop-column l = any_nested (map columnar_tree l.columns) ≡ any_nested (map columnar_tree (drop l.column-index l.columns))
