-- Arithmetic on two unbounded whole numbers: the types that it accepts, and the results.
use Rattle.std.specs.Prelude.{◌≡◌, FitsSigned, ℤ, pos, ◌+ℤ◌, ◌-ℤ◌, ◌*ℤ◌, int_div, if◌then◌else◌, Option, Some, None}
use Rattle.std.specs.Ordering.{int_cmp, is_eq}
use Rattle.std.specs.Int.{w128}
use Rattle.vx_value.specs.Types.{DataType, primitive, decimal}
use Rattle.vx_value.specs.Values.{integer}
use Rattle.vx_value.specs.Cell.{Cell, value, fault}
use Rattle.vx_value.specs.IsOf.{in_range}
use Rattle.vx_value.specs.declared.dtype.PType.{PType}
use Rattle.vx_value.specs.declared.dtype.Nullability.TheVariants.{NonNullable}
use Rattle.vx_fn.specs.declared.function.Operator.{Operator}
use Rattle.vx_fn.specs.declared.function.Operator.TheVariants as operator

-- integers and decimals are added and subtracted in their own type
abbrev pub summed_type : DataType → Option DataType
summed_type (primitive p n) = Some (primitive p NonNullable)
summed_type (decimal p s n) = Some (decimal p s NonNullable)
summed_type _ = None

-- only integers are multiplied and divided
abbrev pub multiplied_type : DataType → Option DataType
multiplied_type (primitive p n) = Some (primitive p NonNullable)
multiplied_type _ = None

-- the number; a fault if it is out of the type's range
abbrev pub number : PType → ℤ → Cell
number p z = if in_range p z then value (integer z) else fault

-- truncated toward zero; a fault if the divisor is 0
abbrev pub divided : (ℤ → Cell) → ℤ → ℤ → Cell
divided fit x y = if is_eq (int_cmp y (pos 0)) then fault else fit (int_div x y)

-- the result, a value if it fits the type, as `fit` says: a line for each operator; the others don't calculate
abbrev pub calculated_by : Operator → (ℤ → Cell) → ℤ → ℤ → Cell
calculated_by operator.Add fit x y = fit (x +ℤ y)
calculated_by operator.Sub fit x y = fit (x -ℤ y)
calculated_by operator.Mul fit x y = fit (x *ℤ y)
calculated_by operator.Div fit x y = divided fit x y
calculated_by _ fit x y = fault

abbrev pub quotient : PType → ℤ → ℤ → Cell
quotient p = divided (number p)

abbrev pub calculated : Operator → PType → ℤ → ℤ → Cell
calculated op p = calculated_by op (number p)

-- each number that doesn't fit 128 bits is a fault
abbrev pub IsBounded : (ℤ → Cell) → Type 0
IsBounded fit = (z : ℤ) → ¬ FitsSigned w128 z → fit z ≡ fault
