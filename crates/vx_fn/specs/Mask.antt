-- The value if the mask is true, null if it is false.
use Rattle.std.specs.Prelude.{true, Option, Some, None, codes}
use Rattle.vx_value.specs.Types.{DataType, bool}
use Rattle.vx_value.specs.Nullabilities.{with_nullability}
use Rattle.vx_value.specs.Values.{Value, null, boolean}
use Rattle.vx_value.specs.Cell.{Cell, value}
use Rattle.vx_value.specs.declared.dtype.Nullability.TheVariants.{NonNullable, Nullable}
use Rattle.vx_value.specs.declared.id.Id.TheVariants as id
use Rattle.vx_fn.specs.Meanings.{Meaning, taking_two, as_given}

abbrev pub mask_type : DataType → DataType → Option DataType
mask_type s (bool NonNullable) = Some (with_nullability Nullable s)
mask_type s _ = None

abbrev pub masked : Value → Value → Cell
masked v (boolean true) = value v
masked v _ = value null

abbrev pub mask : Meaning
mask = taking_two as_given as_given id.Mask (codes "input") (codes "mask") mask_type (λ ty. masked)
