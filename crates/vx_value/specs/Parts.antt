-- The boolean, the number or the bytes that a value is.
use Rattle.std.specs.Prelude.{Bool, ℕ, ℤ, List, Option, Some, None}
use Rattle.vx_value.specs.Values as value
use Rattle.vx_value.specs.Values.{Value}
use Rattle.vx_value.specs.Types as type
use Rattle.vx_value.specs.Types.{DataType}
use Rattle.vx_value.specs.Typed.{Typed}

-- the boolean; None for any other value
abbrev pub boolean_in : Value → Option Bool
boolean_in (value.boolean b) = Some b
boolean_in _ = None

-- the number; None for any other value
abbrev pub integer_in : Value → Option ℤ
integer_in (value.integer z) = Some z
integer_in _ = None

-- the number without its point, and its scale; None for any other value
abbrev pub decimal_in : Value → Option (ℤ × ℕ)
decimal_in (value.decimal z s) = Some (z, s)
decimal_in _ = None

-- the scale of a decimal; 0 for any other value
abbrev pub scale_in : Value → ℕ
scale_in (value.decimal z s) = s
scale_in _ = 0

-- the bytes; None for any other value
abbrev pub bytes_in : Value → Option (List ℕ)
bytes_in (value.bytes bs) = Some bs
bytes_in _ = None

-- the bytes of a text, by its type; None for any other value
abbrev pub text_of : DataType → Value → Option (List ℕ)
text_of (type.utf8 n) v = bytes_in v
text_of _ v = None

abbrev pub text_in : Typed → Option (List ℕ)
text_in s = text_of s.of_type s.value
