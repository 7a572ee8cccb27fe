-- The value that JSON spells, by type, and the values that a list spells.
use Rattle.std.specs.Prelude.{ℕ, ℤ, List, [], ◌∷◌, Bool, ◌&&◌, if◌then◌else◌, Option, Some, None, is_some, is_none, option_map, option_and_then, bytes_eq, codes}
use Rattle.std.specs.Char.{is_ascii_uppercase}
use Rattle.std.specs.Cmp.Lexicographic.{slice_cmp}
use Rattle.std.specs.Fmt.{signed_decimal}
use Rattle.std.specs.List.{list_any}
use Rattle.std.specs.Ordering.{nat_cmp, match_ordering}
use Rattle.std.specs.Result.{result_ok}
use Rattle.std.specs.Str.Parse.{signed_digits_value}
use Rattle.hex.specs.Hex.{decode_of}
use Rattle.serde_json.specs.Data as json
use Rattle.serde_json.specs.Data.{Data, Items, no_items, item, Members, no_members, member}
use Rattle.serde_json.specs.Find.{get, as_null, as_bool, as_number, as_integer, as_str}
use Rattle.vx_value.specs.Types as type
use Rattle.vx_value.specs.Types.{DataType, Fields, no_fields, field, Variants, nullability_of, is_nullable}
use Rattle.vx_value.specs.Nested.{fields_count, tag_type, bare}
use Rattle.vx_value.specs.Values.{Value, null, boolean, integer, decimal, bytes, list, fields, tagged, variant, Values, no_values, item as value_item}
use Rattle.vx_value.specs.Typed.{Typed}
use Rattle.vx_value.specs.Decimals.{has_digits}
use Rattle.vx_value.specs.Fits.{list_overflow}
use Rattle.vx_value.specs.Storage.{storage_of}
use Rattle.vx_value.specs.IsOf.{is_of, in_range}
use Rattle.vx_value.specs.declared.dtype.Storage.{Storage}
use Rattle.vx_value.specs.declared.dtype.Storage.TheVariants.{Bits, Integers, Decimals, Text, Bytes}
use Rattle.vx_value.specs.declared.dtype.PType.{PType}
use Rattle.vx_value.specs.declared.dtype.Nullability.{Nullability}
use Rattle.vx_tree.specs.Rows.{item_or}
use Rattle.vx_json.specs.Fields.{keyed}
use Rattle.vx_json.specs.SpelledTypes.{if_alone, tag_spelled, type_at}

-- the number, if it is in the range of the type
abbrev pub within : PType → ℤ → Option ℤ
within p z = if in_range p z then Some z else None

-- a whole number, and one in the range of the type
abbrev pub integer_in : Data → Option ℤ
integer_in d = option_and_then as_integer (as_number d)

abbrev pub integer_spelled : PType → Data → Option ℤ
integer_spelled p d = option_and_then (within p) (integer_in d)

-- z, if it has at most p digits and the text is its decimal form: without `+`, leading zeros or `-0`
abbrev pub written_so : ℕ → List ℕ → ℤ → Option ℤ
written_so p text z = if has_digits p z && bytes_eq (signed_decimal z) text then Some z else None

-- the number that the text spells in decimal
abbrev pub decimal_in : ℕ → List ℕ → Option ℤ
decimal_in p text = written_so p text (signed_digits_value 10 text)

-- the unscaled integer of a decimal, from a string
abbrev pub decimal_spelled : ℕ → Data → Option ℤ
decimal_spelled p d = option_and_then (decimal_in p) (as_str d)

-- the bytes of lower-case hex, two digits each
abbrev pub hex_bytes : List ℕ → Option (List ℕ)
hex_bytes digits = if list_any is_ascii_uppercase digits then None else result_ok (decode_of digits)

-- the bytes of a string: its own for text, those of its hex for bytes; a line for each storage of bytes
abbrev pub bytes_spelled : Storage → Data → Option (List ℕ)
bytes_spelled Text d = as_str d
bytes_spelled Bytes d = option_and_then hex_bytes (as_str d)
bytes_spelled _ d = None

-- `true` or `false` for a boolean, a whole number for an integer, a string for a decimal, text and bytes: a line for each storage that has a spelling; type
-- null has none. That an integer is in the range of the type is a condition of the whole value, below
abbrev pub value_stored : Storage → Data → Option Value
value_stored Bits d = option_map boolean (as_bool d)
value_stored (Integers p) d = option_map integer (integer_in d)
value_stored (Decimals p s) d = option_map (λ z. decimal z s) (decimal_spelled p d)
value_stored Text d = option_map bytes (bytes_spelled Text d)
value_stored Bytes d = option_map bytes (bytes_spelled Bytes d)
value_stored _ d = None

abbrev pub is_null : Data → Bool
is_null d = is_some (as_null d)

-- None for null, if the type is nullable; else what is read
abbrev pub or_null : {A : Type 0} → Nullability → (Data → Option A) → Data → Option (Option A)
or_null m read d = if is_nullable m && is_null d then Some None else option_map Some (read d)

-- a value of a type that isn't nested, or null
abbrev pub plain_spelled : DataType → Data → Option Value
plain_spelled t d = option_map (item_or null) (or_null (nullability_of t) (value_stored (storage_of t)) d)

-- ---- values of nested types

-- a value in front of others
abbrev pub value_first : Option Value → Option Values → Option Values
value_first value others = option_and_then (λ v. option_map (value_item v) others) value

-- an entry of a map, of a key and a value
abbrev pub entry_of : Value → Value → Value
entry_of key value = fields (value_item key (value_item value no_values))

abbrev pub entry_with : Option Value → Option Value → Option Value
entry_with key value = option_and_then (λ k. option_map (entry_of k) value) key

-- a value of the variant with this tag, if the union has it, given what is spelled of a type
abbrev pub tagged_with : Variants → Option ℕ → (DataType → Option Value) → Option Value
tagged_with us tag of_type = option_and_then (λ n. option_map (tagged n) (option_and_then of_type (tag_type n us))) tag

-- what an array spells, given what its items spell as values of a type, as entries of a map and as the tag and the value of a union: a line for each type
-- with such values
abbrev pub array_spelled : DataType → (DataType → Option Values) → (DataType → DataType → Option Values) → (Variants → Option Value) → Option Value
array_spelled (type.list t n) items entries chosen = option_map list (items t)
array_spelled (type.fixed_size_list t k n) items entries chosen = option_map list (items t)
array_spelled (type.map k v n) items entries chosen = option_map list (entries k v)
array_spelled (type.union us n) items entries chosen = chosen us
array_spelled _ items entries chosen = None

-- a value for each field, given what is spelled under a name
abbrev pub fields_spelled : (List ℕ → DataType → Option Value) → Fields → Option Values
fields_spelled under no_fields = Some no_values
fields_spelled under (field name t fs) = value_first (under name t) (fields_spelled under fs)

-- a type under `type`, and a value of it under `value`
abbrev pub variant_spelled : Data → (List ℕ → DataType → Option Value) → Option Value
variant_spelled d under = option_and_then (λ t. option_map (variant t) (under (codes "value") t)) (type_at d)

-- what an object spells, given what it spells under a key, of a type: a line for each type with such values
abbrev pub object_spelled : DataType → Data → (List ℕ → DataType → Option Value) → Option Value
object_spelled (type.struct fs n) d under = keyed (fields_count fs) d (option_map fields (fields_spelled under fs))
object_spelled (type.variant n) d under = keyed 2 d (variant_spelled d under)
object_spelled _ d under = None

-- what is spelled as a value of a type, of an extension as what it is stored as: for a list or a fixed-size list an array of its elements, for a map an
-- array of `[key,value]`, for a union `[tag,value]`, for a struct an object of exactly its fields, and for a variant `{"type":T,"value":v}`. That the value
-- is of the type, as that a fixed-size list has its size, is a condition of the whole, below
abbrev mutual
  pub value_in : DataType → Data → Option Value
  value_in t (json.array ds) = array_spelled (bare t) (λ e. items_in e ds) (λ k v. entries_in k v ds) (λ us. chosen_in us ds)
  value_in t (json.object ms) = object_spelled (bare t) (json.object ms) (λ k e. value_under k e ms)
  value_in t d = plain_spelled (bare t) d

  pub items_in : DataType → Items → Option Values
  items_in t no_items = Some no_values
  items_in t (item d ds) = value_first (value_in t d) (items_in t ds)

  -- of the only item
  pub value_alone : DataType → Items → Option Value
  value_alone t no_items = None
  value_alone t (item d ds) = if_alone ds (value_in t d)

  pub entry_listed : DataType → DataType → Items → Option Value
  entry_listed k v no_items = None
  entry_listed k v (item d ds) = entry_with (value_in k d) (value_alone v ds)

  pub entry_in : DataType → DataType → Data → Option Value
  entry_in k v (json.array ds) = entry_listed k v ds
  entry_in k v _ = None

  pub entries_in : DataType → DataType → Items → Option Values
  entries_in k v no_items = Some no_values
  entries_in k v (item d ds) = value_first (entry_in k v d) (entries_in k v ds)

  pub chosen_in : Variants → Items → Option Value
  chosen_in us no_items = None
  chosen_in us (item d ds) = tagged_with us (tag_spelled d) (λ t. value_alone t ds)

  pub value_under : List ℕ → DataType → Members → Option Value
  value_under k t no_members = None
  value_under k t (member l d ms) = match_ordering (slice_cmp nat_cmp k l) (value_under k t ms) (value_in t d) (value_under k t ms)

-- the value, if it is of the type, and each list in it fits the type of its elements
abbrev pub if_sound : DataType → Value → Option Value
if_sound t v = if is_of t v && is_none (list_overflow t v) then Some v else None

abbrev pub value_spelled : DataType → Data → Option Value
value_spelled t d = option_and_then (if_sound t) (value_in t d)

-- ---- the same by look-ups of keys, as the reader does it

abbrev pub value_at : Data → List ℕ → DataType → Option Value
value_at d k t = option_and_then (value_in t) (get k d)

abbrev pub array_in : DataType → Items → Option Value
array_in t ds = array_spelled t (λ e. items_in e ds) (λ k v. entries_in k v ds) (λ us. chosen_in us ds)

abbrev pub object_in : DataType → Data → Option Value
object_in t d = object_spelled t d (value_at d)

-- a value with its type
abbrev pub typed_as : DataType → Option Value → Option Typed
typed_as t v = option_map (λ w. record { of_type = t; value = w }) v

-- all items of a list, or None if one can't be read
abbrev pub all_read : {A : Type 0} → (Data → Option A) → Items → Option (List A)
all_read read no_items = Some []
all_read read (item d ds) = option_and_then (λ a. option_map (λ rest. a ∷ rest) (all_read read ds)) (read d)
