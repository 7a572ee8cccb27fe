use Rattle.std.proofs.Common.{◌≡◌, [], map}
use Rattle.vx_value.specs.Cell.{value}
use Rattle.vx_tree.specs.Tree.{dtype}
use Rattle.vx_tree.specs.Cells.{rows}
use Rattle.vx_column.specs.LookedUp.{named_cells, named_type}
use Rattle.vx_column.specs.ValidRows.{nullability_in}
use Rattle.vx_column.proofs.lookup.each.take_each.Given as goal

abbrev pub invariant-loop-index : goal.invariant-loop-index
invariant-loop-index l =
    (l.column.pieces ≡ [])
    × (l.column.of_type ≡ named_type (nullability_in l.valid) (dtype l.values))
    × (map (λ v. value v) l.column.values ≡ named_cells l.valid l.places (rows l.values) l.index)
