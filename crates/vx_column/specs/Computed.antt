-- The results of a function, row by row.
use Rattle.std.specs.Prelude.{◌≡◌, ◌⊎◌, ℕ, List, map, Some, true}
use Rattle.std.specs.List.{range_with_len, AllByRecursion}
use Rattle.vx_value.specs.Types.{DataType}
use Rattle.vx_value.specs.Cell.{Cell}
use Rattle.vx_value.specs.declared.error.VortexError.{VortexError}
use Rattle.vx_value.specs.declared.error.VortexError.TheVariants.{OutOfMemory, Fault}
use Rattle.vx_fn.specs.Apply.{apply}
use Rattle.vx_fn.specs.ReturnTypes.{return_type}
use Rattle.vx_fn.specs.declared.function.ScalarFnRef.{ScalarFnRef}
use Rattle.vx_tree.specs.Tree.{Tree, dtype, len, datum, slots, is_canonical}
use Rattle.vx_tree.specs.Cells.{rows, HasNoFault, AreClean}
use Rattle.vx_column.specs.Arguments.{types_of, row_of, IsSized}
use Rattle.vx_column.specs.Formed.{IsFormed}
use Rattle.vx_column.specs.ValidRows.{is_valid, null_unless}
use Rattle.vx_column.specs.declared.rows.argument.Argument.{Argument}
use Rattle.vx_column.specs.declared.rows.valid.ValidRows.{ValidRows}

-- f applied to n rows of the types tys, of which row i is `row i`, with a result of type ty
abbrev pub cells_of : ScalarFnRef → List DataType → DataType → (ℕ → List Cell) → ℕ → List Cell
cells_of f tys ty row n = map (λ i. apply f tys ty (row i)) (range_with_len 0 n)

-- u has the cells of f applied to n rows of the types tys
pub record IsResult (f : ScalarFnRef) (tys : List DataType) (row : ℕ → List Cell) (n : ℕ) (u : Tree) : Type 0 where
  pub typed : return_type f tys ≡ Some (dtype u)
  pub counted : len u ≡ n
  pub shown : rows u ≡ cells_of f tys (dtype u) row n
  pub clean : AreClean (slots u)

-- why there is no such tree: out of memory, or one of the cells is a fault
abbrev pub IsNoResult : ScalarFnRef → List DataType → (ℕ → List Cell) → ℕ → VortexError → Type 0
IsNoResult f tys row n e =
    (e ≡ OutOfMemory) ⊎ ((e ≡ Fault) × ((ty : DataType) → return_type f tys ≡ Some ty → ¬ (HasNoFault (cells_of f tys ty row n))))

-- u is the canonical column of n rows: row i is `stored i`, null unless it is valid
pub record IsColumnOfCells (valid : ValidRows) (stored : ℕ → Cell) (n : ℕ) (u : Tree) : Type 0 where
  pub counted : len u ≡ n
  pub shown : rows u ≡ map (λ i. null_unless (is_valid valid i) (stored i)) (range_with_len 0 n)
  pub clean : AreClean (slots u)
  pub canonical : is_canonical (datum u) ≡ true
  pub formed : IsFormed u

-- u is the canonical column of f applied to the arguments, n rows each
pub record IsCanonicalResult (f : ScalarFnRef) (args : List Argument) (n : ℕ) (u : Tree) : Type 0 where
  pub result : IsResult f (types_of args) (row_of args) n u
  pub canonical : is_canonical (datum u) ≡ true
  pub formed : IsFormed u

abbrev pub HasNoCanonicalResult : ScalarFnRef → List Argument → ℕ → VortexError → Type 0
HasNoCanonicalResult f args n e = IsNoResult f (types_of args) (row_of args) n e

-- f accepts arguments of these types
abbrev pub IsTaken : ScalarFnRef → List DataType → Type 0
IsTaken f tys = (ty : DataType) × (return_type f tys ≡ Some ty)

-- f accepts these arguments, n rows each
pub record Takes (f : ScalarFnRef) (args : List Argument) (n : ℕ) : Type 0 where
  pub sized : AllByRecursion (IsSized n) args
  pub types : IsTaken f (types_of args)
