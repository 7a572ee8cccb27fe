-- Rows chosen between two arguments by bits.
use Rattle.std.specs.Prelude.{◌≡◌, ℕ, Bool, true, List, length, map, if◌then◌else◌}
use Rattle.std.specs.List.{range_with_len}
use Rattle.vx_value.specs.Cell.{value}
use Rattle.vx_value.specs.Nullabilities.{with_nullability, union}
use Rattle.vx_mask.specs.Logic.{bit_row}
use Rattle.vx_mask.specs.Operands.{bit_in}
use Rattle.vx_mask.specs.declared.operand.BitOperand.{BitOperand}
use Rattle.vx_tree.specs.Tree.{Tree, dtype, len, datum, slots, is_canonical}
use Rattle.vx_tree.specs.Cells.{rows, AreClean}
use Rattle.vx_column.specs.Arguments.{plain_type, value_at, cell_at, HasStored}
use Rattle.vx_column.specs.ValidRows.{nullability_in, HasValidity}
use Rattle.vx_column.specs.declared.rows.argument.Argument.{Argument}
use Rattle.vx_column.specs.declared.rows.argument.ArgumentRows.{ArgumentRows}
use Rattle.vx_column.specs.declared.rows.valid.ValidRows.{ValidRows}
use Rattle.vx_column.specs.Computed.{IsColumnOfCells}
use Rattle.vx_column.specs.Formed.{IsFormed}

-- x in row i if its bit is true, else y
abbrev pub selected : {A : Type 0} → BitOperand → (ℕ → A) → (ℕ → A) → ℕ → A
selected choice x y i = if bit_in choice i then x i else y i

-- the same by stored bits
abbrev pub selected_by : {A : Type 0} → List Bool → (ℕ → A) → (ℕ → A) → ℕ → A
selected_by bits x y i = if bit_row bits i then x i else y i

-- n rows chosen so
abbrev pub selected_rows : {A : Type 0} → List Bool → (ℕ → A) → (ℕ → A) → ℕ → List A
selected_rows bits x y n = map (selected_by bits x y) (range_with_len 0 n)

-- two arguments of one type, n rows each, n bits that choose between them, and the rows that are valid
pub record AreSides (bits : List Bool) (x y : ArgumentRows) (valid : ValidRows) (n : ℕ) : Type 0 where
  pub long : length bits ≡ n
  pub left : HasStored x n
  pub right : HasStored y n
  pub same : plain_type x ≡ plain_type y
  pub sized : HasValidity valid n

-- u is the canonical column of the chosen values, null in the rows that aren't valid
pub record AreSelected (bits : List Bool) (x y : ArgumentRows) (valid : ValidRows) (n : ℕ) (u : Tree) : Type 0 where
  pub typed : dtype u ≡ with_nullability (nullability_in valid) (plain_type x)
  pub made : IsColumnOfCells valid (λ i. value (selected_by bits (value_at x) (value_at y) i)) n u

-- u is the canonical column of the chosen cells, nullable if one of the two arguments is
pub record IsSelected (choice : BitOperand) (x y : Argument) (n : ℕ) (u : Tree) : Type 0 where
  pub typed : dtype u ≡ with_nullability (union (nullability_in x.valid) (nullability_in y.valid)) (plain_type x.rows)
  pub counted : len u ≡ n
  pub shown : rows u ≡ map (selected choice (cell_at x) (cell_at y)) (range_with_len 0 n)
  pub clean : AreClean (slots u)
  pub canonical : is_canonical (datum u) ≡ true
  pub formed : IsFormed u
