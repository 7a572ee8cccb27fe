-- The results of a function on the valid rows.
use Rattle.std.specs.Prelude.{◌≡◌, ◌⊎◌, ℕ, List, map, Option, Some, IsSome, option_map}
use Rattle.std.specs.List.{range_with_len}
use Rattle.vx_value.specs.Types.{DataType}
use Rattle.vx_value.specs.Nullabilities.{with_nullability}
use Rattle.vx_value.specs.Cell.{Cell}
use Rattle.vx_value.specs.declared.error.VortexError.{VortexError}
use Rattle.vx_value.specs.declared.error.VortexError.TheVariants.{OutOfMemory, Fault}
use Rattle.vx_fn.specs.Apply.{apply}
use Rattle.vx_fn.specs.Binary.{operator_type}
use Rattle.vx_fn.specs.declared.function.Operator.{Operator}
use Rattle.vx_fn.specs.declared.function.ScalarFnRef.{ScalarFnRef}
use Rattle.vx_fn.specs.declared.function.ScalarFnRef.TheVariants.{Binary}
use Rattle.vx_tree.specs.Tree.{Tree, dtype}
use Rattle.vx_tree.specs.Cells.{HasNoFault}
use Rattle.vx_column.specs.Arguments.{plain_type, pair_types, pair_at, HasStored}
use Rattle.vx_column.specs.declared.rows.argument.ArgumentRows.{ArgumentRows}
use Rattle.vx_column.specs.ValidRows.{is_valid, nullability_in, null_unless, HasValidity}
use Rattle.vx_column.specs.declared.rows.valid.ValidRows.{ValidRows}
use Rattle.vx_column.specs.Computed.{IsColumnOfCells}

-- the type of the result, if its values have the type `of_type`
abbrev pub filled_type : ValidRows → Option DataType → Option DataType
filled_type valid of_type = option_map (with_nullability (nullability_in valid)) of_type

-- f applied to n rows of the types tys, of which row i is `row i`, with a result of type ty: null in the rows that aren't valid
abbrev pub filled_cells : ScalarFnRef → List DataType → DataType → (ℕ → List Cell) → ValidRows → ℕ → List Cell
filled_cells f tys ty row valid n = map (λ i. null_unless (is_valid valid i) (apply f tys ty (row i))) (range_with_len 0 n)

-- u is the canonical column of these cells
pub record IsRowwiseResult (f : ScalarFnRef) (tys : List DataType) (of_type : Option DataType) (row : ℕ → List Cell) (valid : ValidRows) (n : ℕ) (u : Tree)
    : Type 0 where
  pub typed : filled_type valid of_type ≡ Some (dtype u)
  pub made : IsColumnOfCells valid (λ i. apply f tys (dtype u) (row i)) n u

-- why there is no such column: out of memory, or one of the cells is a fault
abbrev pub HasNoRowwiseResult : ScalarFnRef → List DataType → Option DataType → (ℕ → List Cell) → ValidRows → ℕ → VortexError → Type 0
HasNoRowwiseResult f tys of_type row valid n e =
    (e ≡ OutOfMemory) ⊎ ((e ≡ Fault) × ((ty : DataType) → filled_type valid of_type ≡ Some ty → ¬ (HasNoFault (filled_cells f tys ty row valid n))))

-- op accepts the rows of two arguments of one type, n rows each, with the rows that are valid
pub record Operates (op : Operator) (lhs rhs : ArgumentRows) (valid : ValidRows) (n : ℕ) : Type 0 where
  pub left : HasStored lhs n
  pub right : HasStored rhs n
  pub same : plain_type lhs ≡ plain_type rhs
  pub taken : IsSome (operator_type op (plain_type lhs))
  pub sized : HasValidity valid n

-- u is the canonical column of an operator applied to the rows of two arguments of one type: null in the rows that aren't valid
abbrev pub IsOperatorResult : Operator → (lhs rhs : ArgumentRows) → ValidRows → ℕ → Tree → Type 0
IsOperatorResult op lhs rhs valid n u = IsRowwiseResult (Binary op) (pair_types lhs rhs) (operator_type op (plain_type lhs)) (pair_at lhs rhs) valid n u

-- why there is no such column
abbrev pub HasNoOperatorResult : Operator → (lhs rhs : ArgumentRows) → ValidRows → ℕ → VortexError → Type 0
HasNoOperatorResult op lhs rhs valid n e = HasNoRowwiseResult (Binary op) (pair_types lhs rhs) (operator_type op (plain_type lhs)) (pair_at lhs rhs) valid n e
