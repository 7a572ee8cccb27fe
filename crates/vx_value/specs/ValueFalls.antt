-- Each part of a value is lower than the value.
use Rattle.std.specs.Prelude.{ℕ, ◌≤◌, ◌+◌, List, [], ◌∷◌, max, Option, Some, None}
use Rattle.std.proofs.Common.{arith}
use Rattle.vx_value.specs.Values.{Value, Values, height, values_height}
use Rattle.vx_value.specs.View.{value_of, cell_of, values_of}
use Rattle.vx_value.specs.declared.scalar.ScalarValue.{ScalarValue}
use Rattle.vx_value.specs.declared.scalar.ScalarValue.TheVariants as scalar
use Rattle.vx_value.specs.declared.values.ScalarValues.TheDeep.{deep-ScalarValue}
use Rattle.vx_value.specs.declared.values.ScalarValues.TheShapes.{weighed-ScalarValues-items-at-1, weighed-ValueRef-value-at-1}
use denote.Param.Weighed.{most}

-- a line for each variant that holds values
pub value_below : (v : ScalarValue) → deep-ScalarValue v ≤ height (value_of v)
value_below (scalar.List vs) = omega arith
value_below (scalar.Struct vs) = omega arith
value_below (scalar.Union tag v) = omega arith
value_below (scalar.Variant t v) = omega arith
value_below _ = omega arith

pub cell_below : (v : Option ScalarValue) → weighed-ValueRef-value-at-1.weight ScalarValue deep-ScalarValue v ≤ height (cell_of v)
cell_below None = omega arith
cell_below (Some v) = omega (arith, value_below v)

pub values_below : (vs : List (Option ScalarValue)) → most (weighed-ScalarValues-items-at-1.weight ScalarValue deep-ScalarValue) vs ≤ values_height (values_of vs)
values_below [] = omega arith
values_below (None ∷ vs) = omega (arith, values_below vs)
values_below (Some v ∷ vs) = omega (arith, value_below v, values_below vs)
