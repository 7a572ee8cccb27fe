-- The first value if the mask is true, else the second.
use Rattle.std.specs.Prelude.{true, if◌then◌else◌, Option, Some, None, codes}
use Rattle.vx_value.specs.Types.{DataType, bool, nullability_of}
use Rattle.vx_value.specs.Nullabilities.{with_nullability, union, same_but_nullability}
use Rattle.vx_value.specs.Values.{Value, boolean}
use Rattle.vx_value.specs.Cell.{Cell, value}
use Rattle.vx_value.specs.declared.id.Id.TheVariants as id
use Rattle.vx_fn.specs.Meanings.{Meaning, taking_three, as_given}

-- the type of the two values, nullable if one of them is
abbrev pub chosen_type : DataType → DataType → Option DataType
chosen_type s t = if same_but_nullability s t then Some (with_nullability (union (nullability_of s) (nullability_of t)) s) else None

abbrev pub zip_type : DataType → DataType → DataType → Option DataType
zip_type s t (bool n) = chosen_type s t
zip_type s t _ = None

-- a null mask counts as false
abbrev pub zipped : Value → Value → Value → Cell
zipped v w (boolean true) = value v
zipped v w _ = value w

abbrev pub zip : Meaning
zip = taking_three as_given as_given id.Zip (codes "if_true") (codes "if_false") (codes "mask") zip_type (λ ty. zipped)
