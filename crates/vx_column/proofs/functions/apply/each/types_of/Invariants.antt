use Rattle.std.proofs.Common.{◌≡◌, map, take}
use Rattle.vx_value.specs.View.{type_of}
use Rattle.vx_tree.specs.Tree.{dtype}
use Rattle.vx_tree.specs.Canonicals.{columnar_tree}
use Rattle.vx_column.proofs.functions.apply.each.types_of.Given as goal

abbrev pub invariant-loop-column : goal.invariant-loop-column
invariant-loop-column l = map type_of l.types.items ≡ map dtype (map columnar_tree (take l.column-index l.columns))
