-- The zero value and the default value of a type.
use Rattle.std.specs.Prelude.{[], false, if◌then◌else◌, pos}
use Rattle.vx_value.specs.Types as type
use Rattle.vx_value.specs.Types.{DataType, Fields, Variants, nullability_of, is_nullable}
use Rattle.vx_value.specs.Values as value
use Rattle.vx_value.specs.Values.{Value, Values, repeated}

-- false, 0, no bytes or no elements; the zero values of the parts; null if there is no other value: a line for each type
abbrev mutual
  pub zero_of : DataType → Value
  zero_of type.null = value.null
  zero_of (type.bool n) = value.boolean false
  zero_of (type.primitive p n) = value.integer (pos 0)
  zero_of (type.decimal p s n) = value.decimal (pos 0) s
  zero_of (type.utf8 n) = value.bytes []
  zero_of (type.binary n) = value.bytes []
  zero_of (type.list t n) = value.list value.no_values
  zero_of (type.fixed_size_list t k n) = value.list (repeated k (zero_of t))
  zero_of (type.map k v n) = value.list value.no_values
  zero_of (type.struct fs n) = value.fields (zeros_of fs)
  zero_of (type.union us n) = first_zero us
  zero_of (type.variant n) = value.variant type.null value.null
  zero_of (type.extension id t) = zero_of t

  pub zeros_of : Fields → Values
  zeros_of type.no_fields = value.no_values
  zeros_of (type.field name t fs) = value.item (zero_of t) (zeros_of fs)

  -- of the first variant
  pub first_zero : Variants → Value
  first_zero type.no_variants = value.null
  first_zero (type.alternative tag name t us) = value.tagged tag (zero_of t)

-- null if the type is nullable, else the zero value
abbrev pub default_of : DataType → Value
default_of t = if is_nullable (nullability_of t) then value.null else zero_of t
