-- The layout of a function's column, as far as its rows tell it: its validity, its bits, and the columns of the parts of nested rows.
use Rattle.std.specs.Prelude.{◌≡◌, List, [], ◌∷◌, length, map, Bool, true, false, not}
use Rattle.vx_value.specs.IsOf.{is_null}
use Rattle.vx_value.specs.Values.{boolean}
use Rattle.vx_value.specs.Cell.{Cell, value}
use Rattle.vx_tree.specs.Tree.{Tree, dtype, len, datum, slots, slots_of, bool, is_bool, is_flat, is_composed}
use Rattle.vx_tree.specs.Cells.{rows, shown_cell}
use Rattle.vx_tree.specs.Validities.{child_by}
use Rattle.vx_column.specs.Built.{values_in}
use Rattle.vx_column.specs.ValueColumns.{column_of}

-- whether the cell isn't null
abbrev pub is_shown : Cell → Bool
is_shown (value v) = not (is_null v)
is_shown _ = true

-- the bits tell which rows of the tree aren't null
pub record TellsShown (t : Tree) (bits : List Bool) : Type 0 where
  pub long : length bits ≡ len t
  pub told : map shown_cell (rows t) ≡ map (λ b. value (boolean b)) bits

-- whether the cell is the value true
abbrev pub is_true : Cell → Bool
is_true (value (boolean b)) = b
is_true _ = false

-- a column that holds its rows itself has the one validity of its rows, absent if none is null; booleans are false under nulls; one of nested rows
-- is the one column of its values
pub record IsFormed (u : Tree) : Type 0 where
  pub validity_told : is_flat (datum u) ≡ true → slots u ≡ slots_of (child_by (map is_shown (rows u)) ∷ [])
  pub bits_cleared : is_bool (datum u) ≡ true → datum u ≡ bool (map is_true (rows u))
  pub parts_built : is_composed (datum u) ≡ true → u ≡ column_of (dtype u) (values_in (rows u))
