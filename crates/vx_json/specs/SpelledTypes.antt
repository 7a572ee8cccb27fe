-- The type that JSON spells: a text names it, or an object spells it by its parts.
use Rattle.std.specs.Prelude.{◌≡◌, ℕ, ◌+◌, ◌-◌, ◌^◌, nat_le, nat_lt, List, [], ◌∷◌, length, take, drop, codes, bytes_eq}
use Rattle.std.specs.Prelude.{Bool, true, false, ◌&&◌, if◌then◌else◌, Option, Some, None, is_some, option_map, option_and_then}
use Rattle.std.specs.Bool.{Decides}
use Rattle.std.specs.Map.{lookup}
use Rattle.std.specs.Option.{option_flatten}
use Rattle.std.specs.Ordering.{nat_cmp, match_ordering}
use Rattle.std.specs.Cmp.Lexicographic.{slice_cmp}
use Rattle.std.proofs.lemmas.Bool.{and_parts, and_from, leb-true, le-leb}
use Rattle.serde_json.specs.Data as json
use Rattle.serde_json.specs.Data.{Data, Items, no_items, item, Members, no_members, member}
use Rattle.serde_json.specs.Find.{get, as_bool, as_str}
use Rattle.vx_value.specs.Types as type
use Rattle.vx_value.specs.Types.{DataType, null, bool, primitive, decimal, utf8, binary, struct, extension, Fields, no_fields, field, Variants}
use Rattle.vx_value.specs.Decimals.{IsDecimal}
use Rattle.vx_value.specs.Nested.{are_fields, are_variants, is_map, is_id}
use Rattle.vx_value.specs.Supported.{has_columns}
use Rattle.vx_value.specs.View.{type_of}
use Rattle.vx_value.specs.declared.dtype.Nullability.{Nullability}
use Rattle.vx_value.specs.declared.dtype.Nullability.TheVariants.{NonNullable, Nullable}
use Rattle.vx_value.specs.declared.dtype.PType.TheVariants.{U8, U16, U32, U64, I8, I16, I32, I64}
use Rattle.vx_value.specs.declared.nested.Field.{Field}
use Rattle.vx_value.specs.declared.nested.UnionVariant.{UnionVariant}
use Rattle.vx_json.specs.Fields.{keyed, whole_number, number_at, items_at}

-- the types of either nullability that have a name: a line for each
abbrev pub named_types : List (List ℕ × (Nullability → DataType))
named_types =
    (codes "bool", bool)
    ∷ (codes "u8", primitive U8)
    ∷ (codes "u16", primitive U16)
    ∷ (codes "u32", primitive U32)
    ∷ (codes "u64", primitive U64)
    ∷ (codes "i8", primitive I8)
    ∷ (codes "i16", primitive I16)
    ∷ (codes "i32", primitive I32)
    ∷ (codes "i64", primitive I64)
    ∷ (codes "utf8", utf8)
    ∷ (codes "binary", binary)
    ∷ (codes "variant", type.variant)
    ∷ []

-- the type of the name, with this nullability
abbrev pub type_named : List ℕ → Nullability → Option DataType
type_named name m = option_map (λ of. of m) (lookup (bytes_eq name) named_types)

-- whether a text ends with the mark `?`, and the text in front of the mark
abbrev pub is_marked : List ℕ → Bool
is_marked text = bytes_eq (drop (length text - 1) text) (codes "?")

abbrev pub unmarked : List ℕ → List ℕ
unmarked text = take (length text - 1) text

-- the name of a type, followed by the mark if the type is nullable; type null is always nullable, and takes no mark
abbrev pub type_spelled : List ℕ → Option DataType
type_spelled text =
    if bytes_eq text (codes "null") then Some null
    else (if is_marked text then type_named (unmarked text) Nullable else type_named text NonNullable)

-- ---- the nullability, from what is under `null`: nullable for `true`, non-nullable for `false` or without the key

abbrev pub nullable_if : Bool → Nullability
nullable_if true = Nullable
nullable_if false = NonNullable

abbrev pub nullability_spelled : Option Data → Option Nullability
nullability_spelled None = Some NonNullable
nullability_spelled (Some d) = option_map nullable_if (as_bool d)

-- the number of keys of a form with one key of its own, and `null` too
abbrev pub form_keys : Option Data → ℕ
form_keys under = if is_some under then 2 else 1

-- the nullability of a form with one key of its own, and `more` others
abbrev pub form_nullability : ℕ → Data → Option Nullability
form_nullability more d = keyed (more + form_keys (get (codes "null") d)) d (nullability_spelled (get (codes "null") d))

-- the type of a form with one key of its own, by its nullability
abbrev pub nullable_form : Data → (Nullability → Option DataType) → Option DataType
nullable_form d form = option_and_then form (form_nullability 0 d)

-- ---- `{"decimal":[P,S]}`, or with `"null"` too: the type of decimals of precision P and scale S

-- there is such a type: the precision is from 1 to 38, and the scale at most the precision
abbrev pub is_decimal : ℕ → ℕ → Bool
is_decimal precision scale = nat_le 1 precision && nat_le precision 38 && nat_le scale precision

pub is_decimal_Decides : (precision scale : ℕ) → Decides (is_decimal precision scale) (IsDecimal precision scale)
is_decimal_Decides p s =
    let from : is_decimal p s ≡ true → IsDecimal p s =
    λ e. let scaled = and_parts (nat_le 1 p && nat_le p 38) (nat_le s p) e in
    let sized = and_parts (nat_le 1 p) (nat_le p 38) scaled.0 in
    (leb-true 1 p sized.0, leb-true p 38 sized.1, leb-true s p scaled.1) in
    (from, λ h. and_from _ _ (and_from _ _ (le-leb 1 p h.0) (le-leb p 38 h.1)) (le-leb s p h.2))

abbrev pub decimal_sized : Nullability → ℕ → ℕ → Option DataType
decimal_sized m precision scale = if is_decimal precision scale then Some (decimal precision scale m) else None

-- the type whose precision and scale are listed
abbrev pub decimal_listed : Nullability → Items → Option DataType
decimal_listed m (item p (item s no_items)) = option_and_then (λ precision. option_and_then (decimal_sized m precision) (whole_number s)) (whole_number p)
decimal_listed m _ = None

abbrev pub decimal_type_spelled : Data → Option DataType
decimal_type_spelled d = nullable_form d (λ m. option_and_then (decimal_listed m) (items_at (codes "decimal") d))

-- ---- `{"list":T}`, or with `"null"` too: the type of lists of elements of type T

abbrev pub list_type_spelled : Data → Option DataType → Option DataType
list_type_spelled d element = option_and_then (λ t. option_map (type.list t) (form_nullability 0 d)) element

-- ---- `{"fsl":T,"size":N}`, or with `"null"` too: the type of lists of N elements of type T, N below 2^32

abbrev pub sized : ℕ → Option ℕ
sized n = if nat_lt n (2 ^ 32) then Some n else None

abbrev pub size_at : Data → Option ℕ
size_at d = option_and_then sized (number_at (codes "size") d)

abbrev pub fixed_size_list_type_spelled : Data → Option DataType → Option DataType
fixed_size_list_type_spelled d element =
    option_and_then (λ t. option_and_then (λ n. option_map (type.fixed_size_list t n) (form_nullability 1 d)) (size_at d)) element

-- ---- `{"map":[K,V]}`, or with `"null"` too: the type of maps of keys of type K, which isn't nullable, and values of type V

-- the types of the keys and of the values
abbrev pub Pair : Type 0
Pair = DataType × DataType

abbrev pub map_with : Nullability → Pair → Option DataType
map_with m p = if is_map p.0 p.1 then Some (type.map p.0 p.1 m) else None

abbrev pub map_type_spelled : Data → Option Pair → Option DataType
map_type_spelled d pair = nullable_form d (λ m. option_and_then (map_with m) pair)

-- ---- `{"struct":[["name",T],..]}`, or with `"null"` too: the type of structs of these fields, no two of which have one name

-- a name and a type
abbrev pub Named : Type 0
Named = List ℕ × DataType

abbrev pub fields_named : List Named → Fields
fields_named [] = no_fields
fields_named (f ∷ fs) = field f.0 f.1 (fields_named fs)

abbrev pub struct_with : List Named → Nullability → Option DataType
struct_with fs m = if are_fields (fields_named fs) then Some (struct (fields_named fs) m) else None

abbrev pub struct_type_spelled : Data → Option (List Named) → Option DataType
struct_type_spelled d fs = option_and_then (λ named. nullable_form d (struct_with named)) fs

-- ---- `{"union":[[tag,"name",T],..]}`, or with `"null"` too: the type of unions of these variants, of which there is one at least, and no two of which have
-- one tag or one name

-- a tag is a byte
abbrev pub byte : ℕ → Option ℕ
byte n = if nat_lt n 256 then Some n else None

abbrev pub tag_spelled : Data → Option ℕ
tag_spelled d = option_and_then byte (whole_number d)

-- a tag, a name and a type
abbrev pub Tagged : Type 0
Tagged = ℕ × Named

abbrev pub variants_tagged : List Tagged → Variants
variants_tagged [] = type.no_variants
variants_tagged (v ∷ vs) = type.alternative v.0 v.1.0 v.1.1 (variants_tagged vs)

abbrev pub union_with : List Tagged → Nullability → Option DataType
union_with vs m = if are_variants (variants_tagged vs) then Some (type.union (variants_tagged vs) m) else None

abbrev pub union_type_spelled : Data → Option (List Tagged) → Option DataType
union_type_spelled d vs = option_and_then (λ tagged. nullable_form d (union_with tagged)) vs

-- ---- `{"ext":["id",T]}`: the extension with this id, which isn't empty, that is stored as T

abbrev pub extension_with : Named → Option DataType
extension_with e = if is_id e.0 then Some (extension e.0 e.1) else None

abbrev pub extension_type_spelled : Data → Option Named → Option DataType
extension_type_spelled d e = keyed 1 d (option_and_then extension_with e)

-- ---- the types that objects spell

-- what a value spells as each part of a type: a type itself, a list of two types, one of a name and a type, one of a tag, a name and a type, and a list of
-- each of the last two
pub record Parts : Type 0 where
  pub element : Option DataType
  pub pair : Option Pair
  pub named : Option Named
  pub tagged : Option Tagged
  pub fields : Option (List Named)
  pub variants : Option (List Tagged)

abbrev pub no_parts : Parts
no_parts = record { element = None; pair = None; named = None; tagged = None; fields = None; variants = None }

-- no part but a type
abbrev pub element_alone : Option DataType → Parts
element_alone t = record { element = t; pair = None; named = None; tagged = None; fields = None; variants = None }

-- the keys of the forms, and the type that an object of each spells, given the parts under each key: a line for each
abbrev pub type_forms : Data → (List ℕ → Parts) → List (List ℕ × Option DataType)
type_forms d parts =
    (codes "decimal", decimal_type_spelled d)
    ∷ (codes "list", list_type_spelled d (parts (codes "list")).element)
    ∷ (codes "fsl", fixed_size_list_type_spelled d (parts (codes "fsl")).element)
    ∷ (codes "map", map_type_spelled d (parts (codes "map")).pair)
    ∷ (codes "struct", struct_type_spelled d (parts (codes "struct")).fields)
    ∷ (codes "union", union_type_spelled d (parts (codes "union")).variants)
    ∷ (codes "ext", extension_type_spelled d (parts (codes "ext")).named)
    ∷ []

-- the type of the form whose key the object has
abbrev pub object_type : Data → (List ℕ → Parts) → Option DataType
object_type d parts = option_flatten (lookup (λ k. is_some (get k d)) (type_forms d parts))

-- ---- the type that a value spells

-- both of two
abbrev pub both : {A B : Type 0} → Option A → Option B → Option (A × B)
both a b = option_and_then (λ x. option_map (λ y. (x, y)) b) a

-- one in front of others
abbrev pub first_of : {A : Type 0} → Option A → Option (List A) → Option (List A)
first_of one others = option_and_then (λ a. option_map (λ rest. a ∷ rest) others) one

-- what the only item of a list spells, if there are no others
abbrev pub if_alone : {A : Type 0} → Items → Option A → Option A
if_alone no_items answer = answer
if_alone _ answer = None

-- what a value spells, what a list does, and what stands under a key
abbrev mutual
  pub parts_in : Data → Parts
  parts_in (json.string text) = element_alone (type_spelled text)
  parts_in (json.object ms) = element_alone (object_type (json.object ms) (λ k. parts_under k ms))
  parts_in (json.array ds) = record {
    element = None;
    pair = pair_listed ds;
    named = named_listed ds;
    tagged = tagged_listed ds;
    fields = fields_listed ds;
    variants = variants_listed ds;
  }
  parts_in _ = no_parts

  pub parts_under : List ℕ → Members → Parts
  parts_under k no_members = no_parts
  parts_under k (member l d ms) = match_ordering (slice_cmp nat_cmp k l) (parts_under k ms) (parts_in d) (parts_under k ms)

  -- the type of the only item
  pub type_alone : Items → Option DataType
  type_alone no_items = None
  type_alone (item d ds) = if_alone ds (parts_in d).element

  pub pair_listed : Items → Option Pair
  pair_listed no_items = None
  pair_listed (item d ds) = both (parts_in d).element (type_alone ds)

  pub named_listed : Items → Option Named
  named_listed no_items = None
  named_listed (item d ds) = both (as_str d) (type_alone ds)

  pub tagged_listed : Items → Option Tagged
  tagged_listed no_items = None
  tagged_listed (item d ds) = both (tag_spelled d) (named_listed ds)

  pub fields_listed : Items → Option (List Named)
  fields_listed no_items = Some []
  fields_listed (item d ds) = first_of (parts_in d).named (fields_listed ds)

  pub variants_listed : Items → Option (List Tagged)
  variants_listed no_items = Some []
  variants_listed (item d ds) = first_of (parts_in d).tagged (variants_listed ds)

abbrev pub type_in : Data → Option DataType
type_in d = (parts_in d).element

abbrev pub named_in : Data → Option Named
named_in d = (parts_in d).named

abbrev pub tagged_in : Data → Option Tagged
tagged_in d = (parts_in d).tagged

-- ---- the same by look-ups of keys, as the reader does it

abbrev pub element_at : List ℕ → Data → Option DataType
element_at k d = option_and_then type_in (get k d)

abbrev pub listed_at : {A : Type 0} → (Items → Option A) → List ℕ → Data → Option A
listed_at listed k d = option_and_then listed (items_at k d)

abbrev pub parts_at : List ℕ → Data → Parts
parts_at k d = record {
  element = element_at k d;
  pair = listed_at pair_listed k d;
  named = listed_at named_listed k d;
  tagged = listed_at tagged_listed k d;
  fields = listed_at fields_listed k d;
  variants = listed_at variants_listed k d;
}

abbrev pub object_type_spelled : Data → Option DataType
object_type_spelled d = object_type d (λ k. parts_at k d)

-- the type under `type`
abbrev pub type_at : Data → Option DataType
type_at d = element_at (codes "type") d

-- the type under `type` of a node's rows, of which there have to be columns
abbrev pub if_columns : DataType → Option DataType
if_columns t = if has_columns t then Some t else None

abbrev pub column_type_at : Data → Option DataType
column_type_at d = option_and_then if_columns (type_at d)

-- ---- the named and the tagged type that the program's parts stand for

abbrev pub named_of : Field → Named
named_of f = (f.name, type_of f.dtype)

abbrev pub tagged_of : UnionVariant → Tagged
tagged_of v = (v.tag, (v.name, type_of v.dtype))
