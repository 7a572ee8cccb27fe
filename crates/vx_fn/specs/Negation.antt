-- The negation of a boolean.
use Rattle.std.specs.Prelude.{Option, Some, None, codes}
use Rattle.std.proofs.Math.Bool.{not}
use Rattle.vx_value.specs.Types.{DataType, bool}
use Rattle.vx_value.specs.Values.{Value, boolean}
use Rattle.vx_value.specs.Cell.{Cell, value, fault}
use Rattle.vx_value.specs.declared.dtype.Nullability.TheVariants.{NonNullable}
use Rattle.vx_value.specs.declared.id.Id.TheVariants as id
use Rattle.vx_fn.specs.Meanings.{Meaning, taking_one, widened, null_through}

-- only booleans are negated
abbrev pub not_type : DataType → Option DataType
not_type (bool n) = Some (bool NonNullable)
not_type _ = None

abbrev pub negated : Value → Cell
negated (boolean b) = value (boolean (not b))
negated _ = fault

abbrev pub negation : Meaning
negation = taking_one widened null_through id.Not (codes "input") not_type (λ ty. negated)
