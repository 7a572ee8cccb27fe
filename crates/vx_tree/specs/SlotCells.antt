-- The cells of a node's slots, and cells masked by a validity.
use Rattle.std.specs.Prelude.{ℕ, zero, suc, true, false, List, [], ◌∷◌, ◌++◌, map, slice_index_or}
use Rattle.vx_value.specs.Values.{null, boolean}
use Rattle.vx_value.specs.Cell.{Cell, value, fault}

-- the cells of slot k; of an absent one, none
abbrev pub cells_at : List (List Cell) → ℕ → List Cell
cells_at [] k = []
cells_at (cs ∷ css) zero = cs
cells_at (cs ∷ css) (suc k) = cells_at css k

-- the cells of the slots, one slot after the other
abbrev pub chained : List (List Cell) → List Cell
chained [] = []
chained (cs ∷ css) = cs ++ chained css

-- row i of each slot, a fault if the slot has no such row
abbrev pub row_at : List (List Cell) → ℕ → List Cell
row_at css i = map (λ cs. slice_index_or cs i fault) css

-- a cell masked by the validity's cell: itself if that is true, null if it is false; a fault in either is a fault
abbrev pub valid_cell : Cell → Cell → Cell
valid_cell (value (boolean true)) c = c
valid_cell (value (boolean false)) (value v) = value null
valid_cell v c = fault

-- cells masked by those of a validity; unchanged if there is no validity
abbrev pub valid_cells : List Cell → List Cell → List Cell
valid_cells [] cs = cs
valid_cells (v ∷ vs) [] = []
valid_cells (v ∷ vs) (c ∷ cs) = valid_cell v c ∷ valid_cells vs cs

-- whether a cell isn't null; a fault stays a fault
abbrev pub shown_cell : Cell → Cell
shown_cell (value null) = value (boolean false)
shown_cell (value v) = value (boolean true)
shown_cell fault = fault
