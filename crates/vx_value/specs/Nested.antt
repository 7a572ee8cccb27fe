-- The conditions of nested types, and their parts by name and by tag.
use Rattle.std.specs.Prelude.{ℕ, suc, ◌+◌, List, Bool, true, false, not, ◌&&◌, ◌||◌, ◌==◌, Option, Some, None, if◌then◌else◌, codes, is_some, option_map}
use Rattle.std.specs.Str.{bytes_eq}
use Rattle.vx_value.specs.Types as type
use Rattle.vx_value.specs.Types.{DataType, Fields, Variants, nullability_of, is_nullable}
use Rattle.vx_value.specs.declared.dtype.Nullability.TheVariants.{NonNullable}

-- ---- structs

-- the type of the field of this name; None if there is none
abbrev pub field_type : List ℕ → Fields → Option DataType
field_type name type.no_fields = None
field_type name (type.field other t fs) = if bytes_eq name other then Some t else field_type name fs

-- the place of the field of this name, from 0; None if there is none
abbrev pub field_place : List ℕ → Fields → Option ℕ
field_place name type.no_fields = None
field_place name (type.field other t fs) = if bytes_eq name other then Some 0 else option_map suc (field_place name fs)

abbrev pub fields_count : Fields → ℕ
fields_count type.no_fields = 0
fields_count (type.field name t fs) = fields_count fs + 1

-- no two fields have one name
abbrev pub are_fields : Fields → Bool
are_fields type.no_fields = true
are_fields (type.field name t fs) = not (is_some (field_type name fs)) && are_fields fs

-- ---- unions

-- the type of the variant with this tag; None if there is none
abbrev pub tag_type : ℕ → Variants → Option DataType
tag_type tag type.no_variants = None
tag_type tag (type.alternative other name t vs) = if tag == other then Some t else tag_type tag vs

-- whether a variant has this name
abbrev pub has_variant : List ℕ → Variants → Bool
has_variant name type.no_variants = false
has_variant name (type.alternative tag other t vs) = bytes_eq name other || has_variant name vs

-- no two variants have one tag or one name
abbrev pub are_distinct : Variants → Bool
are_distinct type.no_variants = true
are_distinct (type.alternative tag name t vs) = not (is_some (tag_type tag vs)) && not (has_variant name vs) && are_distinct vs

abbrev pub is_some_variant : Variants → Bool
is_some_variant type.no_variants = false
is_some_variant _ = true

-- from 1 to 256 variants, since their tags are bytes
abbrev pub are_variants : Variants → Bool
are_variants vs = is_some_variant vs && are_distinct vs

-- ---- maps

-- keys aren't null
abbrev pub is_map : DataType → DataType → Bool
is_map key value = not (is_nullable (nullability_of key))

-- the type of an entry
abbrev pub entry_type : DataType → DataType → DataType
entry_type key value = type.struct (type.field (codes "key") key (type.field (codes "value") value type.no_fields)) NonNullable

-- the types of the key and of the value of an entry of this type
abbrev pub key_in : DataType → DataType
key_in (type.struct (type.field name k fs) n) = k
key_in t = t

abbrev pub value_in : DataType → DataType
value_in (type.struct (type.field name k (type.field other v fs)) n) = v
value_in t = t

-- ---- extensions

abbrev pub is_id : List ℕ → Bool
is_id id = not (bytes_eq id (codes ""))

-- the type that a type is stored as, however often it is extended
abbrev pub bare : DataType → DataType
bare (type.extension id t) = bare t
bare t = t

-- the type, null if there is none
abbrev pub the_type : Option DataType → DataType
the_type (Some t) = t
the_type None = type.null
