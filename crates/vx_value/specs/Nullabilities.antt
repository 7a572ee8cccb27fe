-- Types with another nullability, and types that are the same but for it.
use Rattle.std.specs.Prelude.{◌≡◌, Bool}
use Rattle.std.specs.Bool.{Decides}
use Rattle.vx_value.specs.Types as type
use Rattle.vx_value.specs.Types.{DataType, same_type, same_type_Decides}
use Rattle.vx_value.specs.declared.dtype.Nullability.{Nullability}
use Rattle.vx_value.specs.declared.dtype.Nullability.TheVariants.{NonNullable, Nullable}

-- the type with this nullability; null is always nullable, and of an extension it is the storage's: a line for each type
abbrev pub with_nullability : Nullability → DataType → DataType
with_nullability n type.null = type.null
with_nullability n (type.bool m) = type.bool n
with_nullability n (type.primitive p m) = type.primitive p n
with_nullability n (type.decimal p s m) = type.decimal p s n
with_nullability n (type.utf8 m) = type.utf8 n
with_nullability n (type.binary m) = type.binary n
with_nullability n (type.list t m) = type.list t n
with_nullability n (type.fixed_size_list t k m) = type.fixed_size_list t k n
with_nullability n (type.map k v m) = type.map k v n
with_nullability n (type.struct fs m) = type.struct fs n
with_nullability n (type.union vs m) = type.union vs n
with_nullability n (type.variant m) = type.variant n
with_nullability n (type.extension id t) = type.extension id (with_nullability n t)

-- nullable if one of the two is
abbrev pub union : Nullability → Nullability → Nullability
union NonNullable n = n
union Nullable n = Nullable

-- the same type, once both are non-nullable
abbrev pub same_but_nullability : DataType → DataType → Bool
same_but_nullability s t = same_type (with_nullability NonNullable s) (with_nullability NonNullable t)

pub same_but_nullability_Decides : (s t : DataType) → Decides (same_but_nullability s t) (with_nullability NonNullable s ≡ with_nullability NonNullable t)
same_but_nullability_Decides s t = same_type_Decides (with_nullability NonNullable s) (with_nullability NonNullable t)
