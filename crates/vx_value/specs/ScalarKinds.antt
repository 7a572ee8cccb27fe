-- A scalar, opened: its type and its value, together.
use Rattle.std.specs.Prelude.{◌≡◌, ℕ}
use Rattle.vx_value.specs.Values as value
use Rattle.vx_value.specs.Typed.{Typed}
use Rattle.vx_value.specs.View.{type_of, value_of}
use Rattle.vx_value.specs.Storage.{storage_of}
use Rattle.vx_value.specs.declared.dtype.Storage.TheVariants.{Bits, Integers, Decimals, Text, Bytes, Nested}
use Rattle.vx_value.specs.declared.scalar.ScalarKind.{ScalarKind}
use Rattle.vx_value.specs.declared.scalar.ScalarKind.TheVariants as kind

-- the scalar that a kind stands for: a line for each storage
abbrev pub scalar_of : ScalarKind → Typed
scalar_of (kind.Null ty) = record { of_type = type_of ty.now; value = value.null }
scalar_of (kind.Bool b ty) = record { of_type = type_of ty.now; value = value.boolean b }
scalar_of (kind.Integer z p ty) = record { of_type = type_of ty.now; value = value.integer z }
scalar_of (kind.Decimal d ty) = record { of_type = type_of ty.now; value = value.decimal d.unscaled d.scale }
scalar_of (kind.Utf8 bs ty) = record { of_type = type_of ty.now; value = value.bytes bs.now }
scalar_of (kind.Binary bs ty) = record { of_type = type_of ty.now; value = value.bytes bs.now }
scalar_of (kind.Nested v ty) = record { of_type = type_of ty.now; value = value_of v.now }

-- the kind is that of the type's storage
abbrev pub IsStored : ScalarKind → Type 0
IsStored (kind.Null ty) = Unit {0}
IsStored (kind.Bool b ty) = storage_of (type_of ty.now) ≡ Bits
IsStored (kind.Integer z p ty) = storage_of (type_of ty.now) ≡ Integers p
IsStored (kind.Decimal d ty) = (p : ℕ) × (storage_of (type_of ty.now) ≡ Decimals p d.scale)
IsStored (kind.Utf8 bs ty) = storage_of (type_of ty.now) ≡ Text
IsStored (kind.Binary bs ty) = storage_of (type_of ty.now) ≡ Bytes
IsStored (kind.Nested v ty) = storage_of (type_of ty.now) ≡ Nested
