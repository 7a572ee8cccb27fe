-- The text of a type.
use Rattle.std.specs.Prelude.{ℕ, List, [], ◌++◌, Bool, true, false, if◌then◌else◌, codes}
use Rattle.std.specs.Fmt.{decimal}
use Rattle.vx_value.specs.Types as type
use Rattle.serde_json.specs.Data as json
use Rattle.serde_json.specs.Written.{compact_text}
use Rattle.vx_value.specs.Types.{DataType, Fields, Variants, nullability_of}
use Rattle.vx_value.specs.declared.dtype.Nullability.{Nullability}
use Rattle.vx_value.specs.declared.dtype.Nullability.TheVariants.{NonNullable, Nullable}
use Rattle.vx_value.specs.declared.dtype.PType.{PType}
use Rattle.vx_value.specs.declared.dtype.PType.TheVariants as ptype

-- a nullable type ends in a question mark
abbrev pub mark : Nullability → List ℕ
mark NonNullable = []
mark Nullable = codes "?"

abbrev pub ptype_text : PType → List ℕ
ptype_text ptype.U8 = codes "u8"
ptype_text ptype.U16 = codes "u16"
ptype_text ptype.U32 = codes "u32"
ptype_text ptype.U64 = codes "u64"
ptype_text ptype.I8 = codes "i8"
ptype_text ptype.I16 = codes "i16"
ptype_text ptype.I32 = codes "i32"
ptype_text ptype.I64 = codes "i64"

-- a text as JSON writes strings
abbrev pub json_string : List ℕ → List ℕ
json_string s = compact_text (json.string s)

-- null, which is always nullable, has no mark, nor has an extension: its storage has one
abbrev pub type_mark : DataType → List ℕ
type_mark type.null = []
type_mark (type.extension id t) = []
type_mark t = mark (nullability_of t)

abbrev pub comma_if : Bool → List ℕ
comma_if later = if later then codes "," else []

-- the text of a type apart from its nullability
abbrev mutual
  pub bare_text : DataType → List ℕ
  bare_text type.null = codes "null"
  bare_text (type.bool n) = codes "bool"
  bare_text (type.primitive p n) = ptype_text p
  bare_text (type.decimal p s n) = codes "decimal(" ++ decimal p ++ codes "," ++ decimal s ++ codes ")"
  bare_text (type.utf8 n) = codes "utf8"
  bare_text (type.binary n) = codes "binary"
  bare_text (type.list t n) = codes "list(" ++ (bare_text t ++ type_mark t) ++ codes ")"
  bare_text (type.fixed_size_list t k n) = codes "fsl(" ++ (bare_text t ++ type_mark t) ++ codes "," ++ decimal k ++ codes ")"
  bare_text (type.map k v n) = codes "map(" ++ (bare_text k ++ type_mark k) ++ codes "," ++ (bare_text v ++ type_mark v) ++ codes ")"
  bare_text (type.struct fs n) = codes "struct(" ++ fields_text false fs ++ codes ")"
  bare_text (type.union us n) = codes "union(" ++ variants_text false us ++ codes ")"
  bare_text (type.variant n) = codes "variant"
  bare_text (type.extension id t) = codes "ext(" ++ json_string id ++ codes "," ++ (bare_text t ++ type_mark t) ++ codes ")"

  -- the fields, separated by commas; the first has one before it if it comes later in the list
  pub fields_text : Bool → Fields → List ℕ
  fields_text later type.no_fields = []
  fields_text later (type.field name t fs) =
      comma_if later ++ json_string name ++ codes ":" ++ (bare_text t ++ type_mark t) ++ fields_text true fs

  pub variants_text : Bool → Variants → List ℕ
  variants_text later type.no_variants = []
  variants_text later (type.alternative tag name t us) =
      comma_if later ++ decimal tag ++ codes ":" ++ json_string name ++ codes ":" ++ (bare_text t ++ type_mark t) ++ variants_text true us

abbrev pub type_text : DataType → List ℕ
type_text t = bare_text t ++ type_mark t
