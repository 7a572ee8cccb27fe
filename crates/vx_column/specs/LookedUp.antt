-- Columns of cells that are looked up: by codes, and by pairs of indices.
use Rattle.std.specs.Prelude.{◌≡◌, ◌⊎◌, ◌<◌, ℕ, ℤ, pos, List, [], map, length, Option, Some, None, IfSome, IfNone, slice_index_or, Bool, true, false, ◌&&◌, nat_lt, if◌then◌else◌}
use Rattle.std.specs.List.{range_with_len}
use Rattle.vx_value.specs.Types.{DataType, nullability_of}
use Rattle.vx_value.specs.Storage.{is_nested}
use Rattle.vx_value.specs.Decimals.{has_digits}
use Rattle.vx_value.specs.declared.decimal.DecimalDType.{DecimalDType}
use Rattle.vx_value.specs.Typed.{Typed}
use Rattle.vx_value.specs.Values.{Value, null, integer, decimal}
use Rattle.vx_value.specs.Cell.{Cell, value, fault}
use Rattle.vx_value.specs.Nullabilities.{with_nullability, union}
use Rattle.vx_value.specs.declared.dtype.Nullability.{Nullability}
use Rattle.vx_value.specs.declared.dtype.Nullability.TheVariants.{Nullable}
use Rattle.vx_value.specs.declared.error.VortexError.{VortexError}
use Rattle.vx_value.specs.declared.error.VortexError.TheVariants.{OutOfMemory, Fault}
use Rattle.vx_fn.specs.Meanings.{widen}
use Rattle.vx_tree.specs.Tree.{Tree, dtype, len, datum, slots, is_canonical, is_constant}
use Rattle.vx_tree.specs.Cells.{rows, HasNoFault, IsClean, AreClean}
use Rattle.vx_tree.specs.Lookups.{taken, taken_cells}
use Rattle.vx_tree.specs.ColumnTypes.{are_bytes_of}
use Rattle.vx_tree.specs.Views.{ViewedRows, rows_of, view_at}
use Rattle.vx_tree.specs.declared.views.view.View.{View}
use Rattle.vx_column.specs.Arguments.{plain_type, value_at, cell_at, bytes_in}
use Rattle.vx_column.specs.Computed.{IsColumnOfCells}
use Rattle.vx_column.specs.Formed.{IsFormed}
use Rattle.vx_column.specs.ValidRows.{is_valid, nullability_in, null_unless}
use Rattle.vx_column.specs.declared.rows.argument.Argument.{Argument}
use Rattle.vx_column.specs.declared.rows.argument.BytesOperand.{BytesOperand}
use Rattle.vx_column.specs.declared.rows.argument.ArgumentRows.{ArgumentRows}
use Rattle.vx_column.specs.declared.rows.valid.ValidRows.{ValidRows}

-- u has these n cells, of this type, and no fault; it is a constant if and only if there is a row and `constant` says so; its validity has one
-- form, and its booleans are false under nulls
pub record IsLookedUp (ty : DataType) (n : ℕ) (cells : List Cell) (constant : Bool) (u : Tree) : Type 0 where
  pub typed : dtype u ≡ ty
  pub counted : len u ≡ n
  pub shown : rows u ≡ cells
  pub clean : IsClean u
  pub constant_kept : is_constant (datum u) ≡ (nat_lt 0 n && constant)
  pub formed : IsFormed u

-- why there is no such tree: out of memory, or one of the cells is a fault
abbrev pub IsNotLookedUp : List Cell → VortexError → Type 0
IsNotLookedUp cells e = (e ≡ OutOfMemory) ⊎ ((e ≡ Fault) × ¬ (HasNoFault cells))

-- ---- by codes

-- the values' type, nullable if the codes' type is
abbrev pub taken_type : Tree → Tree → DataType
taken_type codes values = widen (dtype codes) (dtype values)

-- u has the values that the codes name
abbrev pub AreTaken : Tree → Tree → Tree → Type 0
AreTaken codes values u = IsLookedUp (taken_type codes values) (len codes) (taken_cells (rows codes) (rows values)) (is_constant (datum codes)) u

abbrev pub AreNotTaken : Tree → Tree → VortexError → Type 0
AreNotTaken codes values e = IsNotLookedUp (taken_cells (rows codes) (rows values)) e

-- ---- rows that are named

-- a value as the number of one of n rows; a fault if it is no integer, is negative, or names no row
abbrev pub place_cell : ℕ → Value → Cell
place_cell n (integer (pos k)) = if nat_lt k n then value (integer (pos k)) else fault
place_cell n _ = fault

-- the row that place i of a list names
abbrev pub place_at : List ℕ → ℕ → ℕ
place_at places i = slice_index_or places i 0

-- one place for each of n codes: the row that it names, among `bound` rows, if it isn't null
pub record AreNamed (codes : ArgumentRows) (valid : ValidRows) (bound n : ℕ) (places : List ℕ) : Type 0 where
  pub counted : length places ≡ n
  pub named : (i : ℕ) → i < n → is_valid valid i ≡ true → value (integer (pos (place_at places i))) ≡ place_cell bound (value_at codes i)

-- the cell of a row that is named; null if none is
abbrev pub cell_named : List Cell → Option ℕ → Cell
cell_named cs None = value null
cell_named cs (Some k) = slice_index_or cs k fault

-- the place, if its row is valid
abbrev pub place_if : Bool → ℕ → Option ℕ
place_if true k = Some k
place_if _ k = None

-- the cells of the valid rows' places, null in the others
abbrev pub named_cells : ValidRows → List ℕ → List Cell → ℕ → List Cell
named_cells valid places cs n = map (λ i. cell_named cs (place_if (is_valid valid i) (place_at places i))) (range_with_len 0 n)

-- the values' type, nullable if the codes are
abbrev pub named_type : Nullability → DataType → DataType
named_type codes ty = with_nullability (union codes (nullability_of ty)) ty

-- among `bound` cells, the code names this one, or none if it is null
pub record IsPlaceOf (code : Typed) (bound : ℕ) (place : Option ℕ) : Type 0 where
  pub named : (cs : List Cell) → length cs ≡ bound → taken cs (value code.value) ≡ cell_named cs place
  pub within : IfSome place (λ k. k < bound)
  pub nullable : IfNone place (nullability_of code.of_type ≡ Nullable)
  pub exactly : IfSome place (λ k. value (integer (pos k)) ≡ place_cell bound code.value)

-- why it names none: it is negative, or too large
abbrev pub IsNoPlace : Typed → ℕ → VortexError → Type 0
IsNoPlace code bound e =
    (e ≡ Fault) × ((cs : List Cell) → length cs ≡ bound → taken cs (value code.value) ≡ fault) × (place_cell bound code.value ≡ fault)

-- s is the value of the row that is named, of the values' type, nullable if the codes are
abbrev pub IsNamed : Nullability → Tree → Option ℕ → Typed → Type 0
IsNamed codes values place s =
    (cell_named (rows values) place ≡ value s.value) × (s.of_type ≡ named_type codes (dtype values))

-- why it can't be read
abbrev pub IsNotNamed : Tree → Option ℕ → VortexError → Type 0
IsNotNamed values place e = (e ≡ OutOfMemory) ⊎ ((e ≡ Fault) × (cell_named (rows values) place ≡ fault))

-- the places of the valid rows are rows of the values
abbrev pub AreWithin : ValidRows → List ℕ → Tree → ℕ → Type 0
AreWithin valid places values n = (i : ℕ) → i < n → is_valid valid i ≡ true → place_at places i < len values

-- u is the canonical column of n cells of a type; none is a fault if the type is nested
pub record IsCanonicalOf (ty : DataType) (n : ℕ) (cells : List Cell) (u : Tree) : Type 0 where
  pub typed : dtype u ≡ ty
  pub counted : len u ≡ n
  pub shown : rows u ≡ cells
  pub clean : AreClean (slots u)
  pub canonical : is_canonical (datum u) ≡ true
  pub told : is_nested ty ≡ true → HasNoFault cells
  pub formed : IsFormed u

-- u is the canonical column of the rows of the values that the valid places name
abbrev pub AreNamedRows : ValidRows → List ℕ → Tree → ℕ → Tree → Type 0
AreNamedRows valid places values n u = IsCanonicalOf (named_type (nullability_in valid) (dtype values)) n (named_cells valid places (rows values) n) u

-- the same cells, as an argument shows them
abbrev pub argument_cells : ValidRows → List ℕ → Argument → ℕ → List Cell
argument_cells valid places a n = map (λ i. null_unless (is_valid valid i) (cell_at a (place_at places i))) (range_with_len 0 n)

-- ---- values that are gathered

-- u is the canonical column of n values, of which row i is the one that the rows store at place i; null unless it is valid
abbrev pub IsGathered : ArgumentRows → List ℕ → ValidRows → ℕ → Tree → Type 0
IsGathered r places valid n u =
    (dtype u ≡ with_nullability (nullability_in valid) (plain_type r)) × IsColumnOfCells valid (λ i. value (value_at r (place_at places i))) n u

-- a number as a decimal of a type without its point; a fault if it has too many digits
abbrev pub decimal_cell : DecimalDType → ℤ → Cell
decimal_cell d z = if has_digits d.precision z then value (decimal z d.scale) else fault

-- the view at place k, of no bytes if the row isn't valid or past the last one
abbrev pub view_of : List View → Bool → ℕ → View
view_of vs true k = slice_index_or vs k (view_at 0 0)
view_of vs false k = view_at 0 0

-- the views of n rows
abbrev pub views_named : List View → List ℕ → ValidRows → ℕ → List View
views_named vs places valid n = map (λ i. view_of vs (is_valid valid i) (place_at places i)) (range_with_len 0 n)

-- n rows of bytes of which each valid one has those that are stored at its place
pub record AreGatheredBytes (bs : BytesOperand) (places : List ℕ) (valid : ValidRows) (n : ℕ) (r : ViewedRows) : Type 0 where
  pub counted : length r.views ≡ n
  pub stored : are_bytes_of bs.storage (rows_of r) ≡ true
  pub named : (i : ℕ) → i < n → is_valid valid i ≡ true → slice_index_or (rows_of r) i [] ≡ bytes_in bs (place_at places i)
