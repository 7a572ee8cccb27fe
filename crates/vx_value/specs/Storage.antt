-- How the values of a type are stored.
use Rattle.std.specs.Prelude.{Bool, true, false}
use Rattle.vx_value.specs.Types as type
use Rattle.vx_value.specs.Types.{DataType}
use Rattle.vx_value.specs.declared.dtype.Storage.{Storage}
use Rattle.vx_value.specs.declared.dtype.Storage.TheVariants.{Nulls, Bits, Integers, Decimals, Text, Bytes, Nested}

-- a line for each type that isn't nested
abbrev pub storage_of : DataType → Storage
storage_of type.null = Nulls
storage_of (type.bool n) = Bits
storage_of (type.primitive p n) = Integers p
storage_of (type.decimal p s n) = Decimals p s
storage_of (type.utf8 n) = Text
storage_of (type.binary n) = Bytes
storage_of _ = Nested

-- whether the parts of the values are stored in columns of their own
abbrev pub has_parts : Storage → Bool
has_parts Nested = true
has_parts _ = false

abbrev pub is_nested : DataType → Bool
is_nested t = has_parts (storage_of t)
