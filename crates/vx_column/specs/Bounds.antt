-- Whether the rows of an argument lie between those of two others.
use Rattle.std.specs.Prelude.{◌≡◌, ℕ, Bool, ◌&&◌, List}
use Rattle.vx_value.specs.Values.{Value}
use Rattle.vx_value.specs.Order.{value_cmp}
use Rattle.vx_fn.specs.Between.{is_below}
use Rattle.vx_fn.specs.Comparisons.{holds}
use Rattle.vx_fn.specs.declared.function.Operator.{Operator}
use Rattle.vx_fn.specs.declared.function.Operator.TheVariants.{Lt, Lte}
use Rattle.vx_fn.specs.declared.functions.between.StrictComparison.{StrictComparison}
use Rattle.vx_fn.specs.declared.functions.between.StrictComparison.TheVariants.{Strict, NonStrict}
use Rattle.vx_fn.specs.declared.functions.between.BetweenOptions.{BetweenOptions}
use Rattle.vx_column.specs.Arguments.{value_at, plain_type, HasStored}
use Rattle.vx_column.specs.ValidRows.{is_valid, HasValidity}
use Rattle.vx_column.specs.declared.rows.argument.ArgumentRows.{ArgumentRows}
use Rattle.vx_column.specs.declared.rows.valid.ValidRows.{ValidRows}
use Rattle.vx_column.specs.Checks.{checked_rows}

-- the operator by which a bound is compared
abbrev pub bound_by : StrictComparison → Operator
bound_by Strict = Lt
bound_by NonStrict = Lte

-- an array and its bounds, n rows of one type each, with the rows that are valid
pub record AreBounded (array lower upper : ArgumentRows) (valid : ValidRows) (n : ℕ) : Type 0 where
  pub array_stored : HasStored array n
  pub lower_stored : HasStored lower n
  pub upper_stored : HasStored upper n
  pub same_lower : plain_type array ≡ plain_type lower
  pub same_upper : plain_type array ≡ plain_type upper
  pub sized : HasValidity valid n

-- row i of `array` lies between row i of the bounds
abbrev pub is_between : BetweenOptions → (array lower upper : ℕ → Value) → ℕ → Bool
is_between options array lower upper i =
    is_below options.lower_strict (value_cmp (lower i) (array i)) && is_below options.upper_strict (value_cmp (array i) (upper i))

-- the bits that a column of the answers stores for n rows: false if the row is null
pub record AreBetween (options : BetweenOptions) (valid : ValidRows) (array lower upper : ArgumentRows) (n : ℕ) (bits : List Bool) : Type 0 where
  pub made : bits ≡ checked_rows (is_valid valid) (is_between options (value_at array) (value_at lower) (value_at upper)) n

-- `first` holds of row i of `lower` and `array`, and `second` of row i of `array` and `upper`
abbrev pub is_bounded : (first second : Operator) → (array lower upper : ℕ → Value) → ℕ → Bool
is_bounded first second array lower upper i = holds first (value_cmp (lower i) (array i)) && holds second (value_cmp (array i) (upper i))
