-- An operator applied to two booleans.
use Rattle.std.specs.Prelude.{Bool, ◌&&◌, ◌||◌}
use Rattle.std.specs.Ordering.{bool_cmp}
use Rattle.vx_fn.specs.Comparisons.{holds}
use Rattle.vx_fn.specs.declared.function.Operator.{Operator}
use Rattle.vx_fn.specs.declared.function.Operator.TheVariants as operator

-- logical operators join them, all others compare them
abbrev pub bit_by : Operator → Bool → Bool → Bool
bit_by operator.And a b = a && b
bit_by operator.Or a b = a || b
bit_by op a b = holds op (bool_cmp a b)
