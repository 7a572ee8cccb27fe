-- A list that is known in advance.
use Rattle.std.specs.Prelude.{Option, Some, None, if◌then◌else◌}
use Rattle.vx_value.specs.Types.{DataType, list}
use Rattle.vx_value.specs.Cell.{value}
use Rattle.vx_value.specs.Typed.{Typed}
use Rattle.vx_value.specs.IsOf.{is_of}
use Rattle.vx_value.specs.declared.id.Id.TheVariants as id
use Rattle.vx_fn.specs.Meanings.{Meaning, taking_none}

-- the type, if it is one of lists
abbrev pub list_type : DataType → Option DataType
list_type (list t n) = Some (list t n)
list_type _ = None

-- the scalar's type, if it is one of lists; a `Scalar` always holds a value of its type
abbrev pub set_type : Typed → Option DataType
set_type s = if is_of s.of_type s.value then list_type s.of_type else None

abbrev pub prepared_set : Typed → Meaning
prepared_set s = taking_none id.PreparedSet (set_type s) (value s.value)
