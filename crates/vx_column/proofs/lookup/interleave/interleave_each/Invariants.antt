use Rattle.std.proofs.Common.{◌≡◌, [], map}
use Rattle.vx_value.specs.Cell.{value}
use Rattle.vx_tree.specs.Canonicals.{columnar_tree}
use Rattle.vx_column.specs.Interleaved.{first_type, pair_cells}
use Rattle.vx_column.proofs.lookup.interleave.interleave_each.Given as goal

abbrev pub invariant-loop-index : goal.invariant-loop-index
invariant-loop-index l =
    (l.column.pieces ≡ [])
    × (l.column.of_type ≡ first_type (map columnar_tree l.values))
    × (map (λ v. value v) l.column.values
    ≡ pair_cells (columnar_tree l.array_indices) (columnar_tree l.row_indices) (map columnar_tree l.values) l.index)
