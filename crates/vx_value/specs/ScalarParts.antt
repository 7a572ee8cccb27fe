-- Nested scalars, as they are made of their parts, and the parts of a scalar.
use Rattle.std.specs.Prelude.{◌≡◌, true, List, [], ◌∷◌}
use Rattle.vx_value.specs.Types as type
use Rattle.vx_value.specs.Types.{DataType, Fields}
use Rattle.vx_value.specs.Values as value
use Rattle.vx_value.specs.Values.{Value, Values}
use Rattle.vx_value.specs.Typed.{Typed}
use Rattle.vx_value.specs.Defaults.{default_of}
use Rattle.vx_value.specs.IsOf.{is_of}
use Rattle.vx_value.specs.Fits.{ListsFit}

-- the values of scalars
abbrev pub values_in : List Typed → Values
values_in [] = value.no_values
values_in (s ∷ ss) = value.item s.value (values_in ss)

-- the value is of the type, and the lists in it fit
abbrev pub IsSound : Typed → Type 0
IsSound s = (is_of s.of_type s.value ≡ true) × ListsFit s.of_type s.value

-- a scalar for each field, of its type
abbrev pub AreFields : Fields → List Typed → Type 0
AreFields type.no_fields [] = Unit {0}
AreFields (type.field name t fs) (s ∷ ss) = (s.of_type ≡ t) × AreFields fs ss
AreFields _ _ = ⊥

-- the same, of the fields of a struct
abbrev pub HaveFields : DataType → List Typed → Type 0
HaveFields (type.struct fs n) ss = AreFields fs ss
HaveFields _ ss = ⊥

-- the type is a struct
abbrev pub IsStruct : DataType → Type 0
IsStruct (type.struct fs n) = Unit {0}
IsStruct _ = ⊥

-- the type is an extension
abbrev pub IsExtension : DataType → Type 0
IsExtension (type.extension id t) = Unit {0}
IsExtension _ = ⊥

-- the type that an extension's values are stored as
abbrev pub storage_type : DataType → DataType
storage_type (type.extension id t) = t
storage_type t = t

-- a scalar for each field: its value, or the default value of its type if the struct is null
abbrev pub fields_by : Fields → Value → List Typed
fields_by type.no_fields v = []
fields_by (type.field name t fs) (value.fields (value.item v vs)) = record { of_type = t; value = v } ∷ fields_by fs (value.fields vs)
fields_by (type.field name t fs) v = record { of_type = t; value = default_of t } ∷ fields_by fs v

-- the fields of a value of a struct type; none of any other
abbrev pub fields_of_type : DataType → Value → List Typed
fields_of_type (type.struct fs n) v = fields_by fs v
fields_of_type _ v = []

-- the same, of a scalar
abbrev pub fields_in : Typed → List Typed
fields_in s = fields_of_type s.of_type s.value
