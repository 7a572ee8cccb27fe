-- The text of a row.
use Rattle.std.specs.Prelude.{ℕ, List, [], ◌∷◌, ◌++◌, Bool, true, false, ◌||◌, ◌==◌, nat_lt, codes}
use Rattle.std.specs.Fmt.{signed_decimal, decimal as decimal_text}
use Rattle.hex.specs.Hex.{encode_lower}
use Rattle.serde_json.specs.Data.{string}
use Rattle.serde_json.specs.Written.{comma_if, compact_text}
use Rattle.vx_value.specs.Types as type
use Rattle.vx_value.specs.Types.{DataType, Fields}
use Rattle.vx_value.specs.Nested.{bare, tag_type, the_type}
use Rattle.vx_value.specs.Text.{type_text}
use Rattle.vx_value.specs.Values.{Value, null, boolean, integer, decimal, bytes, list, fields, tagged, variant, Values, no_values, item}

abbrev pub boolean_text : Bool → List ℕ
boolean_text true = codes "true"
boolean_text false = codes "false"

-- the byte has an escape in a JSON string: it is a control character, a quotation mark or a backslash
abbrev pub has_escape : ℕ → Bool
has_escape x = nat_lt x 32 || (x == 34) || (x == 92)

-- between quotation marks
abbrev pub in_quotes : List ℕ → List ℕ
in_quotes text = codes "\"" ++ text ++ codes "\""

-- a text as a JSON string, other bytes as pairs of hexadecimal digits
abbrev pub bytes_text : DataType → List ℕ → List ℕ
bytes_text (type.utf8 n) bs = compact_text (string bs)
bytes_text _ bs = in_quotes (encode_lower bs)

-- the text of a row of a type that isn't nested, or null, by its type and value: a line for each kind of value that isn't nested
abbrev pub plain_text : DataType → Value → List ℕ
plain_text ty null = codes "null"
plain_text ty (boolean b) = boolean_text b
plain_text ty (integer z) = signed_decimal z
plain_text ty (decimal z s) = in_quotes (signed_decimal z)
plain_text ty (bytes bs) = bytes_text ty bs
plain_text ty _ = []

-- a field of an object: a comma if others stand before it, its name as a JSON string, a colon and its text
abbrev pub field_text : Bool → List ℕ → List ℕ → List ℕ
field_text later name text = comma_if later ++ (compact_text (string name) ++ (58 ∷ text))

-- an array of two
abbrev pub array_of_two : List ℕ → List ℕ → List ℕ
array_of_two a b = 91 ∷ (a ++ (44 ∷ (b ++ 93 ∷ [])))

-- the text of a value, by its type, which isn't an extension: of a list or a fixed-size list an array of its elements, of a map one of `[key,value]`, of a
-- union `[tag,value]`, of a struct an object of its fields, in order, and of a variant an object of the text of its type and of its value
abbrev mutual
  pub text_of : DataType → Value → List ℕ
  text_of (type.list t n) (list vs) = 91 ∷ items_text false t vs
  text_of (type.fixed_size_list t k n) (list vs) = 91 ∷ items_text false t vs
  text_of (type.map k v n) (list vs) = 91 ∷ entries_text false k v vs
  text_of (type.struct fs n) (fields vs) = 123 ∷ fields_text false fs vs
  text_of (type.union us n) (tagged tag v) = array_of_two (decimal_text tag) (text_of (bare (the_type (tag_type tag us))) v)
  text_of (type.variant n) (variant t v) =
      codes "{\"type\":" ++ (compact_text (string (type_text t)) ++ (codes ",\"value\":" ++ (text_of (bare t) v ++ 125 ∷ [])))
  text_of t v = plain_text t v

  -- with the closing bracket or brace
  pub items_text : Bool → DataType → Values → List ℕ
  items_text later t no_values = 93 ∷ []
  items_text later t (item v vs) = comma_if later ++ (text_of (bare t) v ++ items_text true t vs)

  pub entries_text : Bool → DataType → DataType → Values → List ℕ
  entries_text later k v no_values = 93 ∷ []
  entries_text later k v (item e es) = comma_if later ++ (entry_text k v e ++ entries_text true k v es)

  pub entry_text : DataType → DataType → Value → List ℕ
  entry_text k v (fields (item key (item value no_values))) = array_of_two (text_of (bare k) key) (text_of (bare v) value)
  entry_text k v _ = []

  pub fields_text : Bool → Fields → Values → List ℕ
  fields_text later (type.field name t fs) (item v vs) = field_text later name (text_of (bare t) v) ++ fields_text true fs vs
  fields_text later (type.field name t fs) no_values = 125 ∷ []
  fields_text later type.no_fields vs = 125 ∷ []

-- the text of a row, by its type and value: of an extension the text of what it is stored as
abbrev pub row_text : DataType → Value → List ℕ
row_text t v = text_of (bare t) v

-- that of an entry of a map, by its key and its value
abbrev pub pair_text : DataType → DataType → Value → Value → List ℕ
pair_text k v key value = array_of_two (row_text k key) (row_text v value)
