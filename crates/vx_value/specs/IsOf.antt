-- Which values are of a type.
use Rattle.std.specs.Prelude.{ℕ, ℤ, pos, negsuc, ◌^◌, Bool, true, false, nat_lt, ◌==◌, ◌&&◌, is_some}
use Rattle.std.specs.Str.{is_utf8}
use Rattle.vx_value.specs.Types as type
use Rattle.vx_value.specs.Types.{DataType, Fields, nullability_of, is_nullable}
use Rattle.vx_value.specs.Nested.{entry_type, tag_type, the_type, bare}
use Rattle.vx_value.specs.Values as value
use Rattle.vx_value.specs.Values.{Value, Values, count}
use Rattle.vx_value.specs.Storage.{storage_of}
use Rattle.vx_value.specs.Decimals.{has_digits}
use Rattle.vx_value.specs.declared.dtype.Nullability.{Nullability}
use Rattle.vx_value.specs.declared.dtype.Storage.{Storage}
use Rattle.vx_value.specs.declared.dtype.Storage.TheVariants.{Bits, Integers, Decimals, Text, Bytes, Nested}
use Rattle.vx_value.specs.declared.dtype.PType.{PType}
use Rattle.vx_value.specs.declared.dtype.PType.TheVariants as ptype

-- from 0, and below the bound
abbrev pub is_unsigned_below : ℕ → ℤ → Bool
is_unsigned_below bound (pos n) = nat_lt n bound
is_unsigned_below bound (negsuc n) = false

-- from minus the bound, and below the bound
abbrev pub is_signed_below : ℕ → ℤ → Bool
is_signed_below bound (pos n) = nat_lt n bound
is_signed_below bound (negsuc n) = nat_lt n bound

abbrev pub in_range : PType → ℤ → Bool
in_range ptype.U8 z = is_unsigned_below (2 ^ 8) z
in_range ptype.U16 z = is_unsigned_below (2 ^ 16) z
in_range ptype.U32 z = is_unsigned_below (2 ^ 32) z
in_range ptype.U64 z = is_unsigned_below (2 ^ 64) z
in_range ptype.I8 z = is_signed_below (2 ^ 7) z
in_range ptype.I16 z = is_signed_below (2 ^ 15) z
in_range ptype.I32 z = is_signed_below (2 ^ 31) z
in_range ptype.I64 z = is_signed_below (2 ^ 63) z

-- null if the type is nullable; else a value of the kind that is stored: a line for each storage. Of a nested type the parts
-- decide.
abbrev pub is_stored : Nullability → Storage → Bool → Value → Bool
is_stored n _ nested value.null = is_nullable n
is_stored n Bits nested (value.boolean b) = true
is_stored n (Integers p) nested (value.integer z) = in_range p z
is_stored n (Decimals p s) nested (value.decimal z r) = (r == s) && has_digits p z
is_stored n Text nested (value.bytes bs) = is_utf8 bs
is_stored n Bytes nested (value.bytes bs) = true
is_stored n Nested nested v = nested
is_stored n _ nested _ = false

-- the same, of a type and of what an extension is stored as, given whether the parts are of the parts of the type
abbrev pub is_held : DataType → Bool → Value → Bool
is_held t parts v =
    is_stored (nullability_of t) (storage_of t) (is_stored (nullability_of t) (storage_of (bare t)) parts v) v

abbrev mutual
  -- whether the parts of a value are of the parts of a type that isn't an extension: a line for each nested type
  pub are_parts : DataType → Value → Bool
  are_parts (type.list t n) (value.list vs) = all_of t vs
  are_parts (type.fixed_size_list t k n) (value.list vs) = (count vs == k) && all_of t vs
  are_parts (type.map k v n) (value.list vs) = all_of (entry_type k v) vs
  are_parts (type.struct fs n) (value.fields vs) = are_of fs vs
  are_parts (type.union us n) (value.tagged tag v) = is_some (tag_type tag us) && is_held (the_type (tag_type tag us)) (are_parts (bare (the_type (tag_type tag us))) v) v
  are_parts (type.variant n) (value.variant t v) = is_held t (are_parts (bare t) v) v
  are_parts _ _ = false

  pub all_of : DataType → Values → Bool
  all_of t value.no_values = true
  all_of t (value.item v vs) = is_held t (are_parts (bare t) v) v && all_of t vs

  pub are_of : Fields → Values → Bool
  are_of type.no_fields value.no_values = true
  are_of (type.field name t fs) (value.item v vs) = is_held t (are_parts (bare t) v) v && are_of fs vs
  are_of _ _ = false

abbrev pub is_of : DataType → Value → Bool
is_of t v = is_held t (are_parts (bare t) v) v

abbrev pub is_null : Value → Bool
is_null value.null = true
is_null _ = false
