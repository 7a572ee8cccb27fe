-- Whether a list has an element.
use Rattle.std.specs.Prelude.{Bool, true, false, ◌||◌, if◌then◌else◌, Option, Some, None, codes}
use Rattle.vx_value.specs.Types as type
use Rattle.vx_value.specs.Types.{DataType, nullability_of}
use Rattle.vx_value.specs.Nullabilities.{same_but_nullability}
use Rattle.vx_value.specs.Values.{Value, Values, no_values, item, null, list}
use Rattle.vx_value.specs.Cell.{Cell, value, fault}
use Rattle.vx_value.specs.Order.{same_value}
use Rattle.vx_value.specs.declared.id.Id.TheVariants as id
use Rattle.vx_fn.specs.Meanings.{Meaning, taking_two, widened, null_through}
use Rattle.vx_fn.specs.Logic.{truth}

-- a boolean, nullable if the elements are, if they have the type of the needle
abbrev pub contains_type : DataType → DataType → Option DataType
contains_type (type.list t n) u = if same_but_nullability t u then Some (type.bool (nullability_of t)) else None
contains_type _ _ = None

-- whether one of the values is this one
abbrev pub has : Value → Values → Bool
has w no_values = false
has w (item v vs) = same_value v w || has w vs

-- true if an element is the needle, else unknown if one is null, else false
abbrev pub contained : Value → Values → Option Bool
contained w vs = if has w vs then Some true else (if has null vs then None else Some false)

abbrev pub contains : Value → Value → Cell
contains (list vs) w = value (truth (contained w vs))
contains _ w = fault

abbrev pub list_contains : Meaning
list_contains = taking_two widened null_through id.ListContains (codes "list") (codes "needle") contains_type (λ ty. contains)
