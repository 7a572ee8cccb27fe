-- Comparisons of two values: their order, when each operator holds, and which types are ordered.
use Rattle.std.specs.Prelude.{Bool, true, false, ◌&&◌, if◌then◌else◌, Option, Some, None}
use Rattle.std.specs.Ordering.{is_eq, is_ne, is_lt, is_le, is_gt, is_ge}
use Rattle.std.specs.declared.cmp.Ordering.{Ordering}
use Rattle.std.specs.declared.cmp.Ordering.TheVariants.{Less, Equal}
use Rattle.vx_value.specs.Types as type
use Rattle.vx_value.specs.Types.{DataType}
use Rattle.vx_value.specs.Values.{Value, boolean}
use Rattle.vx_value.specs.Cell.{Cell, value}
use Rattle.vx_value.specs.Order.{value_cmp, same_value, is_unnested}
use Rattle.vx_value.specs.declared.dtype.Nullability.TheVariants.{NonNullable}
use Rattle.vx_fn.specs.declared.function.Operator.{Operator}
use Rattle.vx_fn.specs.declared.function.Operator.TheVariants as operator

-- the types whose values have an order: a line for each
abbrev pub is_ordered : DataType → Bool
is_ordered (type.bool n) = true
is_ordered (type.primitive p n) = true
is_ordered (type.decimal p s n) = true
is_ordered (type.utf8 n) = true
is_ordered (type.binary n) = true
is_ordered _ = false

abbrev pub ordered_type : DataType → Option DataType
ordered_type t = if is_ordered t then Some (type.bool NonNullable) else None

-- whether the operator holds for two values with this ordering: a line for each comparison; the other operators never hold
abbrev pub holds : Operator → Ordering → Bool
holds operator.Eq o = is_eq o
holds operator.NotEq o = is_ne o
holds operator.Gt o = is_gt o
holds operator.Gte o = is_ge o
holds operator.Lt o = is_lt o
holds operator.Lte o = is_le o
holds _ o = false

-- by sameness alone: no operator uses the order of nested values
abbrev pub same_cmp : Value → Value → Ordering
same_cmp v w = if same_value v w then Equal else Less

-- false comes before true, numbers by size, and bytes by the first that differs; a nested value is equal to the same one, part by part
abbrev pub compare : Value → Value → Ordering
compare v w = if is_unnested v && is_unnested w then value_cmp v w else same_cmp v w

abbrev pub compared : Operator → Value → Value → Cell
compared op v w = value (boolean (holds op (compare v w)))
