-- A row of a column by its validity.
use Rattle.std.specs.Prelude.{◌≡◌, ◌<◌, ℕ, List, [], Option, Some, None, slice_get}
use Rattle.vx_value.specs.Types.{DataType, bool, nullability_of}
use Rattle.vx_value.specs.Cell.{Cell}
use Rattle.vx_value.specs.declared.dtype.Nullability.TheVariants.{NonNullable, Nullable}
use Rattle.vx_tree.specs.Tree.{Tree, dtype, len}
use Rattle.vx_tree.specs.Cells.{rows, valid_cells}

-- the validity, if there is one, is a nullable column's and has a row i
abbrev pub TellsRow : DataType → Option Tree → ℕ → Type 0
TellsRow ty None i = Unit {0}
TellsRow ty (Some t) i = (nullability_of ty ≡ Nullable) × (dtype t ≡ bool NonNullable) × (i < len t)

-- the cells of a validity; no cells if it is absent
abbrev pub validity_cells : Option Tree → List Cell
validity_cells None = []
validity_cells (Some t) = rows t

-- c is row i of each column that has this validity and stores `stored` there
abbrev pub IsRowBy : Option Tree → ℕ → Cell → Cell → Type 0
IsRowBy validity i stored c =
    (cs : List Cell) → slice_get cs i ≡ Some stored → slice_get (valid_cells (validity_cells validity) cs) i ≡ Some c
