-- The rows that a builder keeps: columns of a nested type that were appended, and the values after them. Rows of a type that isn't nested are values
-- alone.
use Rattle.std.specs.Prelude.{◌≡◌, ◌⊎◌, ℕ, ◌+◌, ◌<◌, ◌^◌, ◌==◌, List, [], ◌∷◌, ◌++◌, length, map, sum, Option, Some, None, true, if◌then◌else◌, refl}
use Rattle.std.specs.Coded.{Coded, code_by, coded×, coded_list}
use Rattle.std.specs.List.{list_all, All}
use Rattle.vx_value.specs.Types as type
use Rattle.vx_value.specs.Types.{DataType, coded_type, nullability_of, is_nullable, same_type}
use Rattle.vx_value.specs.Values.{Value, coded_value}
use Rattle.vx_value.specs.Cell.{Cell, value}
use Rattle.vx_value.specs.Typed.{Typed}
use Rattle.vx_value.specs.IsOf.{is_of}
use Rattle.vx_value.specs.Storage.{is_nested}
use Rattle.vx_value.specs.Supported.{has_columns}
use Rattle.vx_value.specs.declared.error.VortexError.{VortexError}
use Rattle.vx_value.specs.declared.error.VortexError.TheVariants.{OutOfMemory, InvalidArgument, Fault}
use Rattle.vx_value.specs.declared.error.ArgKind.TheVariants.{BadType}
use Rattle.vx_tree.specs.Conditions.{first_of_both, unless}
use Rattle.vx_tree.specs.Tree.{Tree, dtype, len, datum, slots, coded_tree, is_composed, last_tree}
use Rattle.vx_tree.specs.Cells.{rows, HasNoFault}
use Rattle.vx_tree.specs.Well.{IsWell}
use Rattle.vx_column.specs.Built.{length_refusal, values_in}
use Rattle.vx_column.specs.Expanded.{expansion}
use Rattle.vx_column.specs.Joined.{joined}
use Rattle.vx_column.specs.Nulls.{validity_cells}
use Rattle.vx_column.specs.ValueColumns.{column_of}

pub record GrownRows : Type 0 where
  pub of_type : DataType
  pub pieces : List Tree
  pub values : List Value

abbrev pub coded_grown : Coded GrownRows
coded_grown =
    code_by (DataType × (List Tree × List Value)) (coded× coded_type (coded× (coded_list coded_tree) (coded_list coded_value)))
    (λ r. (r.of_type, (r.pieces, r.values))) (λ p. record { of_type = p.0; pieces = p.1.0; values = p.1.1 }) (λ _. refl)

-- the cells of all, and their number
abbrev pub cells_in : List Tree → List Cell
cells_in [] = []
cells_in (t ∷ ts) = rows t ++ cells_in ts

abbrev pub grown_cells : GrownRows → List Cell
grown_cells r = cells_in r.pieces ++ map (λ v. value v) r.values

abbrev pub count : GrownRows → ℕ
count r = sum (map len r.pieces) + length r.values

-- no rows of the type
abbrev pub none_of : DataType → GrownRows
none_of ty = record { of_type = ty; pieces = []; values = [] }

-- the rows, followed by these values
abbrev pub with_values : GrownRows → List Value → GrownRows
with_values r vs = record { of_type = r.of_type; pieces = r.pieces; values = r.values ++ vs }

-- the column of the values after the pieces, if there are any
abbrev pub open_piece : DataType → List Value → List Tree
open_piece ty [] = []
open_piece ty (v ∷ vs) = column_of ty (v ∷ vs) ∷ []

-- the pieces, the last one of the values
abbrev pub closed : GrownRows → List Tree
closed r = r.pieces ++ open_piece r.of_type r.values

-- the rows, followed by those of a column: of a nested type the canonical column is kept, of another its values
abbrev pub with_column : GrownRows → Tree → GrownRows
with_column r t =
    if is_nested r.of_type then record { of_type = r.of_type; pieces = closed r ++ expansion t ∷ []; values = [] } else with_values r (values_in (rows t))

-- their column
abbrev pub grown_by : List Tree → GrownRows → Tree
grown_by [] r = column_of r.of_type r.values
grown_by (p ∷ ps) r = joined r.of_type (closed r)

abbrev pub grown : GrownRows → Tree
grown r = grown_by r.pieces r

-- the cells of a canonical column of the type that are read when it is appended: its validity, of a nested type; else its rows
abbrev pub cells_read : DataType → Tree → List Cell
cells_read (type.struct fs m) t = validity_cells (last_tree (slots t))
cells_read (type.extension i ty) t = []
cells_read ty t = rows t

-- a canonical column of the type
pub record IsPiece (ty : DataType) (t : Tree) : Type 0 where
  pub typed : dtype t ≡ ty
  pub composed : is_composed (datum t) ≡ true
  pub well : IsWell t
  pub told : HasNoFault (cells_read ty t)

-- the values are of the type, as are the pieces
pub record IsGrown (r : GrownRows) : Type 0 where
  pub columns : has_columns r.of_type ≡ true
  pub typed : list_all (is_of r.of_type) r.values ≡ true
  pub pieces : All (IsPiece r.of_type) r.pieces
  pub nested : is_nested r.of_type ≡ true ⊎ (r.pieces ≡ [])
  pub fits : count r < 2 ^ 64

-- ---- refusals

-- why nothing of this type can be appended
abbrev pub type_refusal : GrownRows → DataType → Option VortexError
type_refusal r ty = unless (same_type ty r.of_type) (InvalidArgument BadType)

-- why a scalar, or k nulls, can't be appended
abbrev pub scalar_refusal : GrownRows → Typed → Option VortexError
scalar_refusal r s = first_of_both (type_refusal r s.of_type) (length_refusal (count r) 1)

abbrev pub more_nulls_refusal : GrownRows → ℕ → Option VortexError
more_nulls_refusal r k =
    if k == 0 then None else
    first_of_both (unless (is_nullable (nullability_of r.of_type)) (InvalidArgument BadType)) (length_refusal (count r) k)

-- why a column's rows can't be appended, whatever they are
abbrev pub column_refusal : GrownRows → Tree → Option VortexError
column_refusal r t = first_of_both (type_refusal r (dtype t)) (length_refusal (count r) (len t))

-- why a column isn't appended: out of memory, a refusal, or, if there is none, a fault among the cells that are read
abbrev pub IsUnappended : GrownRows → Tree → VortexError → Type 0
IsUnappended r t e =
    (e ≡ OutOfMemory) ⊎ ((column_refusal r t ≡ Some e)
    ⊎ ((column_refusal r t ≡ None) × (e ≡ Fault) × (HasNoFault (cells_read r.of_type (expansion t)) → ⊥)))
