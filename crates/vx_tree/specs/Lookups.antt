-- Cells that are looked up by other cells: by codes, and by pairs of indices.
use Rattle.std.specs.Prelude.{ℕ, pos, List, [], ◌∷◌, map, slice_index_or}
use Rattle.vx_value.specs.Values.{null, integer}
use Rattle.vx_value.specs.Cell.{Cell, value, fault}
use Rattle.vx_tree.specs.SlotCells.{cells_at}

-- the cell that a code names among the values: null if the code is null; a fault if it is one, is negative, or names no value
abbrev pub taken : List Cell → Cell → Cell
taken values (value (integer (pos k))) = slice_index_or values k fault
taken values (value null) = value null
taken values _ = fault

-- the cells that the codes name
abbrev pub taken_cells : List Cell → List Cell → List Cell
taken_cells codes values = map (taken values) codes

-- the cell that a pair of indices names: which of the lists, and which of its rows; a fault if an index is one, is negative, or leaves its target
abbrev pub paired : List (List Cell) → Cell → Cell → Cell
paired css (value (integer (pos i))) (value (integer (pos k))) = slice_index_or (cells_at css i) k fault
paired css _ _ = fault

-- the cells that the pairs name
abbrev pub paired_cells : List (List Cell) → List Cell → List Cell → List Cell
paired_cells css [] ks = []
paired_cells css (i ∷ is) [] = []
paired_cells css (i ∷ is) (k ∷ ks) = paired css i k ∷ paired_cells css is ks
