-- Columns whose rows are those of several others, by pairs of indices.
use Rattle.std.specs.Prelude.{◌≡◌, ◌⊎◌, ◌<◌, ◌&&◌, false, ℕ, List, [], ◌∷◌, map, length, slice_index_or}
use Rattle.std.specs.List.{range_with_len}
use Rattle.vx_value.specs.Types as type
use Rattle.vx_value.specs.Types.{DataType, primitive}
use Rattle.vx_value.specs.Typed.{Typed}
use Rattle.vx_value.specs.Cell.{Cell, value, fault}
use Rattle.vx_value.specs.declared.dtype.PType.{PType}
use Rattle.vx_value.specs.declared.dtype.Nullability.TheVariants.{NonNullable}
use Rattle.vx_value.specs.declared.error.VortexError.{VortexError}
use Rattle.vx_value.specs.declared.error.VortexError.TheVariants.{OutOfMemory, Fault}
use Rattle.vx_tree.specs.Tree.{Tree, dtype, len, datum, is_constant}
use Rattle.vx_tree.specs.Cells.{rows}
use Rattle.vx_tree.specs.Lookups.{paired, paired_cells}
use Rattle.vx_column.specs.LookedUp.{IsLookedUp, IsNotLookedUp}

-- a type of integers without null
abbrev pub IsIndexType : DataType → Type 0
IsIndexType ty = (p : PType) × (ty ≡ primitive p NonNullable)

-- the type of the first of several columns
abbrev pub first_type : List Tree → DataType
first_type [] = type.null
first_type (t ∷ ts) = dtype t

-- all are of this type
abbrev pub AreOfType : DataType → List Tree → Type 0
AreOfType ty [] = Unit {0}
AreOfType ty (t ∷ ts) = (dtype t ≡ ty) × AreOfType ty ts

-- two columns of indices, of one length, and columns of one type, of which there is one
pub record AreInterleaved (arrays places : Tree) (values : List Tree) : Type 0 where
  pub arrays_typed : IsIndexType (dtype arrays)
  pub places_typed : IsIndexType (dtype places)
  pub long : len places ≡ len arrays
  pub some : 0 < length values
  pub typed : AreOfType (first_type values) values

-- the cells that the pairs name
abbrev pub cells_interleaved : Tree → Tree → List Tree → List Cell
cells_interleaved arrays places values = paired_cells (map rows values) (rows arrays) (rows places)

-- u has the rows of the values that the pairs name
abbrev pub IsInterleaving : Tree → Tree → List Tree → Tree → Type 0
IsInterleaving arrays places values u =
    IsLookedUp (first_type values) (len arrays) (cells_interleaved arrays places values) (is_constant (datum arrays) && is_constant (datum places)) u

abbrev pub IsNotInterleaving : Tree → Tree → List Tree → VortexError → Type 0
IsNotInterleaving arrays places values e = IsNotLookedUp (cells_interleaved arrays places values) e

-- ---- one pair

-- s is the value that two indices name, of the values' type
abbrev pub IsPaired : List Tree → Typed → Typed → Typed → Type 0
IsPaired values array place s =
    (paired (map rows values) (value array.value) (value place.value) ≡ value s.value) × (s.of_type ≡ first_type values)

-- why there is none
abbrev pub IsNotPaired : List Tree → Typed → Typed → VortexError → Type 0
IsNotPaired values array place e =
    (e ≡ OutOfMemory) ⊎ ((e ≡ Fault) × (paired (map rows values) (value array.value) (value place.value) ≡ fault))

-- the cell that pair i names
abbrev pub pair_cell : Tree → Tree → List Tree → ℕ → Cell
pair_cell arrays places values i = paired (map rows values) (slice_index_or (rows arrays) i fault) (slice_index_or (rows places) i fault)

-- the cells that the first n pairs name
abbrev pub pair_cells : Tree → Tree → List Tree → ℕ → List Cell
pair_cells arrays places values n = map (pair_cell arrays places values) (range_with_len 0 n)
