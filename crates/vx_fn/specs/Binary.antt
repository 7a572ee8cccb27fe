-- The binary operators: the types that they accept, and the results.
use Rattle.std.specs.Prelude.{Bool, true, false, if◌then◌else◌, Option, Some, None, codes}
use Rattle.vx_value.specs.Types.{DataType, bool, primitive, decimal}
use Rattle.vx_value.specs.Nullabilities.{same_but_nullability}
use Rattle.vx_value.specs.Values as value
use Rattle.vx_value.specs.Values.{Value, integer}
use Rattle.vx_value.specs.Cell.{Cell, fault}
use Rattle.vx_value.specs.Casts.{sized}
use Rattle.vx_value.specs.declared.dtype.Nullability.TheVariants.{NonNullable}
use Rattle.vx_value.specs.declared.id.Id.TheVariants as id
use Rattle.vx_fn.specs.Meanings.{Meaning, taking_two, widened, null_through, as_given}
use Rattle.vx_fn.specs.Comparisons.{ordered_type, compared}
use Rattle.vx_fn.specs.Arithmetic.{summed_type, multiplied_type, calculated, calculated_by}
use Rattle.vx_fn.specs.Logic.{both, either}
use Rattle.vx_fn.specs.declared.function.Operator.{Operator}
use Rattle.vx_fn.specs.declared.function.Operator.TheVariants as operator

-- the comparisons, whose result is a boolean
abbrev pub is_comparison : Operator → Bool
is_comparison operator.Eq = true
is_comparison operator.NotEq = true
is_comparison operator.Gt = true
is_comparison operator.Gte = true
is_comparison operator.Lt = true
is_comparison operator.Lte = true
is_comparison _ = false

-- the operators that join booleans, null among them
abbrev pub is_logical : Operator → Bool
is_logical operator.And = true
is_logical operator.Or = true
is_logical _ = false

abbrev pub logical_type : DataType → Option DataType
logical_type (bool n) = Some (bool NonNullable)
logical_type _ = None

-- the result's type for two arguments of one type: a line for each operator
abbrev pub operator_type : Operator → DataType → Option DataType
operator_type operator.Eq t = Some (bool NonNullable)
operator_type operator.NotEq t = Some (bool NonNullable)
operator_type operator.Gt t = ordered_type t
operator_type operator.Gte t = ordered_type t
operator_type operator.Lt t = ordered_type t
operator_type operator.Lte t = ordered_type t
operator_type operator.Add t = summed_type t
operator_type operator.Sub t = summed_type t
operator_type operator.Mul t = multiplied_type t
operator_type operator.Div t = multiplied_type t
operator_type operator.And t = logical_type t
operator_type operator.Or t = logical_type t

abbrev pub binary_type : Operator → DataType → DataType → Option DataType
binary_type op s t = if same_but_nullability s t then operator_type op s else None

-- the result, if it is a boolean: logical operators join the values, the others compare them
abbrev pub decided : Operator → Value → Value → Cell
decided operator.And v w = both v w
decided operator.Or v w = either v w
decided op v w = compared op v w

-- the result, by its type: a boolean from any values, a number from numbers
abbrev pub operated : Operator → DataType → Value → Value → Cell
operated op (bool n) v w = decided op v w
operated op (primitive p n) (integer x) (integer y) = calculated op p x y
operated op (decimal p s n) (value.decimal x q) (value.decimal y r) = calculated_by op (sized p s) x y
operated op _ _ _ = fault

-- logical operators take null as a truth value; any other result for null is null
abbrev pub null_rule : Bool → Value → Cell → Cell
null_rule true = as_given
null_rule false = null_through

abbrev pub binary : Operator → Meaning
binary op = taking_two widened (null_rule (is_logical op)) id.Binary (codes "lhs") (codes "rhs") (binary_type op) (operated op)
