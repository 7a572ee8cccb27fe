-- The type and the value that the program's types stand for.
use Rattle.std.specs.Prelude.{Option, Some, None, List, [], ◌∷◌}
use denote.Bor.{Bor}
use Rattle.vx_value.specs.Types as type
use Rattle.vx_value.specs.Types.{DataType, Fields, Variants}
use Rattle.vx_value.specs.Values as value
use Rattle.vx_value.specs.Values.{Value, Values}
use Rattle.vx_value.specs.declared.dtype.DType.{DType}
use Rattle.vx_value.specs.declared.dtype.DType.TheVariants as dtype
use Rattle.vx_value.specs.declared.nested.Field.{Field}
use Rattle.vx_value.specs.declared.nested.UnionVariant.{UnionVariant}
use Rattle.vx_value.specs.declared.scalar.ScalarValue.{ScalarValue}
use Rattle.vx_value.specs.declared.scalar.ScalarValue.TheVariants as scalar

abbrev pub type_of : DType → DataType
type_of dtype.Null = type.null
type_of (dtype.Bool n) = type.bool n
type_of (dtype.Primitive p n) = type.primitive p n
type_of (dtype.Decimal d n) = type.decimal d.precision d.scale n
type_of (dtype.Utf8 n) = type.utf8 n
type_of (dtype.Binary n) = type.binary n
type_of (dtype.List t n) = type.list t n
type_of (dtype.FixedSizeList t k n) = type.fixed_size_list t k n
type_of (dtype.Map m n) = type.map m.0 m.1 n
type_of (dtype.Struct fs n) = type.struct fs n
type_of (dtype.Union vs n) = type.union vs n
type_of (dtype.Variant n) = type.variant n
type_of (dtype.Extension e) = type.extension e.0 e.1

abbrev pub fields_of : List Field → Fields
fields_of [] = type.no_fields
fields_of (f ∷ fs) = type.field f.name (type_of f.dtype) (fields_of fs)

abbrev pub variants_of : List UnionVariant → Variants
variants_of [] = type.no_variants
variants_of (v ∷ vs) = type.alternative v.tag v.name (type_of v.dtype) (variants_of vs)

abbrev pub value_of : ScalarValue → Value
value_of (scalar.Bool b) = value.boolean b
value_of (scalar.Integer z) = value.integer z
value_of (scalar.Decimal d) = value.decimal d.unscaled d.scale
value_of (scalar.Bytes bs) = value.bytes bs
value_of (scalar.List vs) = value.list vs
value_of (scalar.Struct vs) = value.fields vs
value_of (scalar.Union tag v) = value.tagged tag v
value_of (scalar.Variant t v) = value.variant t v

-- the value, null if there is none
abbrev pub cell_of : Option ScalarValue → Value
cell_of None = value.null
cell_of (Some v) = value_of v

-- the same for a borrowed value
abbrev pub cell_seen : Option (Bor ScalarValue) → Value
cell_seen None = value.null
cell_seen (Some v) = value_of v.now

abbrev pub values_of : List (Option ScalarValue) → Values
values_of [] = value.no_values
values_of (v ∷ vs) = value.item (cell_of v) (values_of vs)
