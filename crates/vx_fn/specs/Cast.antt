-- Casts as a function.
use Rattle.std.specs.Prelude.{if◌then◌else◌, Option, Some, None, codes}
use Rattle.vx_value.specs.Types.{DataType}
use Rattle.vx_value.specs.Casts.{has_cast, cast_to}
use Rattle.vx_value.specs.declared.id.Id.TheVariants as id
use Rattle.vx_fn.specs.Meanings.{Meaning, taking_one, as_given}

-- the target, if there is a cast to it
abbrev pub cast_type : DataType → DataType → Option DataType
cast_type target s = if has_cast s target then Some target else None

abbrev pub conversion : DataType → Meaning
conversion target = taking_one as_given as_given id.Cast (codes "input") (cast_type target) cast_to
