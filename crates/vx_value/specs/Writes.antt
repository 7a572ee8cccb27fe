-- What `hash` writes for a type and a value: the place of each variant, and then what it holds.
use Rattle.std.specs.Prelude.{◌++◌, pos, codes}
use Rattle.std.specs.Hash as hash
use Rattle.std.specs.Hash.{HashWrites}
use Rattle.vx_value.specs.Types as type
use Rattle.vx_value.specs.Types.{DataType, Fields, Variants, nullability_number, ptype_number}
use Rattle.vx_value.specs.Values as value
use Rattle.vx_value.specs.Values.{Value, Values}
use Rattle.vx_value.specs.Typed.{Typed}
use Rattle.vx_value.specs.Bytes.{bytes_writes}
use Rattle.vx_value.specs.declared.dtype.Nullability.{Nullability}
use Rattle.vx_value.specs.declared.dtype.Nullability.TheVariants.{NonNullable}
use Rattle.vx_value.specs.declared.dtype.PType.{PType}

-- as the derives write the variants of an enum
abbrev pub nullability_writes : Nullability → HashWrites
nullability_writes n = hash.isize (pos (nullability_number n))

abbrev pub ptype_writes : PType → HashWrites
ptype_writes p = hash.isize (pos (ptype_number p))

-- a map by the type of its entries: a struct of a key and a value
abbrev pub entry_writes : HashWrites → HashWrites → HashWrites
entry_writes key value =
    hash.u8 9 ++ nullability_writes NonNullable ++ hash.str (codes "key") ++ key ++ hash.str (codes "value") ++ value ++ hash.u8 0

-- a line for each type
abbrev mutual
  pub type_writes : DataType → HashWrites
  type_writes type.null = hash.u8 0
  type_writes (type.bool n) = hash.u8 1 ++ nullability_writes n
  type_writes (type.primitive p n) = hash.u8 2 ++ ptype_writes p ++ nullability_writes n
  type_writes (type.decimal p s n) = hash.u8 3 ++ hash.u8 p ++ hash.u8 s ++ nullability_writes n
  type_writes (type.utf8 n) = hash.u8 4 ++ nullability_writes n
  type_writes (type.binary n) = hash.u8 5 ++ nullability_writes n
  type_writes (type.list t n) = hash.u8 6 ++ nullability_writes n ++ type_writes t
  type_writes (type.fixed_size_list t k n) = hash.u8 7 ++ nullability_writes n ++ hash.u32 k ++ type_writes t
  type_writes (type.map k v n) = hash.u8 8 ++ nullability_writes n ++ entry_writes (type_writes k) (type_writes v)
  type_writes (type.struct fs n) = hash.u8 9 ++ nullability_writes n ++ fields_writes fs
  type_writes (type.union us n) = hash.u8 10 ++ nullability_writes n ++ variants_writes us
  type_writes (type.variant n) = hash.u8 11 ++ nullability_writes n
  type_writes (type.extension id t) = hash.u8 12 ++ hash.str id ++ type_writes t

  pub fields_writes : Fields → HashWrites
  fields_writes type.no_fields = hash.u8 0
  fields_writes (type.field name t fs) = hash.str name ++ type_writes t ++ fields_writes fs

  pub variants_writes : Variants → HashWrites
  variants_writes type.no_variants = hash.u8 0
  variants_writes (type.alternative tag name t us) = hash.u8 tag ++ hash.str name ++ type_writes t ++ variants_writes us

-- a line for each kind of value
abbrev mutual
  pub value_writes : Value → HashWrites
  value_writes value.null = hash.u8 0
  value_writes (value.boolean b) = hash.u8 1 ++ hash.bool b
  value_writes (value.integer z) = hash.u8 2 ++ hash.i128 z
  value_writes (value.decimal z s) = hash.u8 3 ++ hash.i128 z ++ hash.u8 s
  value_writes (value.bytes bs) = hash.u8 4 ++ bytes_writes bs
  value_writes (value.list vs) = hash.u8 5 ++ values_writes vs
  value_writes (value.fields vs) = hash.u8 6 ++ values_writes vs
  value_writes (value.tagged tag v) = hash.u8 7 ++ hash.u8 tag ++ value_writes v
  value_writes (value.variant t v) = hash.u8 8 ++ type_writes t ++ value_writes v

  pub values_writes : Values → HashWrites
  values_writes value.no_values = hash.u8 9
  values_writes (value.item v vs) = value_writes v ++ values_writes vs

abbrev pub scalar_writes : Typed → HashWrites
scalar_writes s = type_writes s.of_type ++ value_writes s.value
