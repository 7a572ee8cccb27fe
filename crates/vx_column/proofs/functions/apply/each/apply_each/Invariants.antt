use Rattle.std.proofs.Common.{◌≡◌, [], map, Some}
use Rattle.vx_value.specs.Cell.{value}
use Rattle.vx_fn.specs.ReturnTypes.{return_type}
use Rattle.vx_tree.specs.Tree.{dtype}
use Rattle.vx_tree.specs.Canonicals.{columnar_tree}
use Rattle.vx_column.specs.Applied.{row_in}
use Rattle.vx_column.specs.Computed.{cells_of}
use Rattle.vx_column.proofs.functions.apply.each.apply_each.Given as goal

abbrev pub invariant-loop-index : goal.invariant-loop-index
invariant-loop-index l =
    let ts = map columnar_tree l.arguments in
    (l.column.pieces ≡ [])
    × (return_type l.function (map dtype ts) ≡ Some l.column.of_type)
    × (map (λ v. value v) l.column.values ≡ cells_of l.function (map dtype ts) l.column.of_type (row_in ts) l.index)
