-- Whether a value lies between two others.
use Rattle.std.specs.Prelude.{Bool, ◌&&◌, if◌then◌else◌, Option, None, codes}
use Rattle.std.specs.Ordering.{is_lt, is_le}
use Rattle.std.specs.declared.cmp.Ordering.{Ordering}
use Rattle.vx_value.specs.Types.{DataType}
use Rattle.vx_value.specs.Nullabilities.{same_but_nullability}
use Rattle.vx_value.specs.Values.{Value, boolean}
use Rattle.vx_value.specs.Cell.{Cell, value}
use Rattle.vx_value.specs.Order.{value_cmp}
use Rattle.vx_value.specs.declared.id.Id.TheVariants as id
use Rattle.vx_fn.specs.Meanings.{Meaning, taking_three, widened, null_through}
use Rattle.vx_fn.specs.Comparisons.{ordered_type}
use Rattle.vx_fn.specs.declared.functions.between.StrictComparison.{StrictComparison}
use Rattle.vx_fn.specs.declared.functions.between.StrictComparison.TheVariants.{Strict, NonStrict}
use Rattle.vx_fn.specs.declared.functions.between.BetweenOptions.{BetweenOptions}

-- three arguments of one type whose values have an order
abbrev pub between_type : DataType → DataType → DataType → Option DataType
between_type s t u = if same_but_nullability s t && same_but_nullability s u then ordered_type s else None

-- whether the first of two values is below the other, or may be the same
abbrev pub is_below : StrictComparison → Ordering → Bool
is_below Strict o = is_lt o
is_below NonStrict o = is_le o

abbrev pub lies_between : BetweenOptions → Value → Value → Value → Cell
lies_between options v lower upper =
    value (boolean (is_below options.lower_strict (value_cmp lower v) && is_below options.upper_strict (value_cmp v upper)))

abbrev pub between : BetweenOptions → Meaning
between options =
    taking_three widened null_through id.Between (codes "array") (codes "lower") (codes "upper") between_type (λ ty. lies_between options)
