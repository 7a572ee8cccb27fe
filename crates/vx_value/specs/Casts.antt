-- Which casts there are, and their results.
use Rattle.std.specs.Prelude.{ℕ, ℤ, pos, ◌*ℤ◌, ◌-◌, ◌^◌, int_div, int_rem, nat_le, Bool, true, false, ◌&&◌, ◌||◌, ◌==◌, Option, Some, None, if◌then◌else◌}
use Rattle.std.specs.Ordering.{int_eq}
use Rattle.std.specs.Str.{is_utf8, bytes_eq}
use Rattle.vx_value.specs.Types as type
use Rattle.vx_value.specs.Types.{DataType, Fields, nullability_of, is_nullable}
use Rattle.vx_value.specs.Nested.{bare}
use Rattle.vx_value.specs.Fits.{fits}
use Rattle.vx_value.specs.Nullabilities.{same_but_nullability}
use Rattle.vx_value.specs.Values as value
use Rattle.vx_value.specs.Values.{Value, Values, count}
use Rattle.vx_value.specs.Cell as cell
use Rattle.vx_value.specs.Cell.{Cell}
use Rattle.vx_value.specs.IsOf.{in_range, are_parts}
use Rattle.vx_value.specs.Decimals.{has_digits}
use Rattle.vx_value.specs.declared.dtype.PType.{PType}

-- ---- the result for a value that isn't null, by the target type

-- an integer stays; a fault if it is out of the type's range
abbrev pub to_integer : PType → Value → Cell
to_integer p (value.integer z) = if in_range p z then cell.value (value.integer z) else cell.fault
to_integer p _ = cell.fault

-- a number of scale s; a fault if it has more than p digits
abbrev pub sized : ℕ → ℕ → ℤ → Cell
sized p s z = if has_digits p z then cell.value (value.decimal z s) else cell.fault

-- ten to the power of k
abbrev pub power : ℕ → ℤ
power k = pos (10 ^ k)

-- a number with k zeros appended
abbrev pub lengthened : ℕ → ℕ → ℤ → ℕ → Cell
lengthened p s z k = sized p s (z *ℤ power k)

-- a number without its last k digits; a fault if one of them isn't 0
abbrev pub shortened : ℕ → ℕ → ℤ → ℕ → Cell
shortened p s z k = if int_eq (int_rem z (power k)) (pos 0) then sized p s (int_div z (power k)) else cell.fault

-- a number of scale r, brought to scale s
abbrev pub rescaled : ℕ → ℕ → ℤ → ℕ → Cell
rescaled p s z r = if nat_le r s then lengthened p s z (s - r) else shortened p s z (r - s)

-- an integer has scale 0
abbrev pub to_decimal : ℕ → ℕ → Value → Cell
to_decimal p s (value.integer z) = rescaled p s z 0
to_decimal p s (value.decimal z r) = rescaled p s z r
to_decimal p s _ = cell.fault

abbrev pub to_bool : Value → Cell
to_bool (value.boolean b) = cell.value (value.boolean b)
to_bool _ = cell.fault

-- bytes stay; a fault if they aren't text
abbrev pub to_text : Value → Cell
to_text (value.bytes bs) = if is_utf8 bs then cell.value (value.bytes bs) else cell.fault
to_text _ = cell.fault

abbrev pub to_bytes : Value → Cell
to_bytes (value.bytes bs) = cell.value (value.bytes bs)
to_bytes _ = cell.fault

-- ---- nested results: a fault if a part is one, or if a list has more elements than a column of their type can have

abbrev pub joined : Cell → Option Values → Option Values
joined (cell.value v) (Some vs) = Some (value.item v vs)
joined _ _ = None

abbrev pub list_cell : Option Values → Cell
list_cell (Some vs) = cell.value (value.list vs)
list_cell None = cell.fault

abbrev pub fields_cell : Option Values → Cell
fields_cell (Some vs) = cell.value (value.fields vs)
fields_cell None = cell.fault

abbrev pub fitting : DataType → ℕ → Cell → Cell
fitting t n c = if fits t n then c else cell.fault

-- null stays null if the type is nullable, else it is a fault
abbrev pub null_into : DataType → Cell
null_into t = if is_nullable (nullability_of t) then cell.value value.null else cell.fault

-- ---- the table: whether there is a cast from the first type to the second

-- whether one of the rows after the first accepts the types, the second of which isn't an extension: a line each. Extensions are
-- cast as what they are stored as.
abbrev mutual
  pub has_other_row : DataType → DataType → Bool
  has_other_row type.null t = is_nullable (nullability_of t)
  has_other_row (type.extension id s) t = same_but_nullability s t || has_other_row s t
  has_other_row (type.primitive p m) (type.primitive q n) = true
  has_other_row (type.primitive p m) (type.decimal q s n) = true
  has_other_row (type.decimal p r m) (type.decimal q s n) = true
  has_other_row (type.utf8 m) (type.binary n) = true
  has_other_row (type.binary m) (type.utf8 n) = true
  has_other_row (type.list s m) (type.list t n) = same_but_nullability s t || has_other_row s (bare t)
  has_other_row (type.fixed_size_list s j m) (type.fixed_size_list t k n) = (j == k) && (same_but_nullability s t || has_other_row s (bare t))
  has_other_row (type.struct fs m) (type.struct gs n) = have_rows fs gs
  has_other_row _ _ = false

  -- of the same names in order
  pub have_rows : Fields → Fields → Bool
  have_rows type.no_fields type.no_fields = true
  have_rows (type.field i s fs) (type.field j t gs) = bytes_eq i j && (same_but_nullability s t || has_other_row s (bare t)) && have_rows fs gs
  have_rows _ _ = false

-- the first row: a cast to the same type, up to nullability
abbrev pub has_cast : DataType → DataType → Bool
has_cast s t = same_but_nullability s t || has_other_row s (bare t)

-- ---- the result of a cast

-- null by the target, a value of the same type stays, and each other value is cast by the other rows
abbrev pub cast_by : DataType → DataType → Value → Cell → Cell
cast_by s t value.null other = null_into t
cast_by s t v other = if same_but_nullability (bare s) (bare t) then cell.value v else other

-- between types that aren't extensions
abbrev mutual
  pub other_cast : DataType → DataType → Value → Cell
  other_cast (type.primitive p m) (type.primitive q n) v = to_integer q v
  other_cast (type.primitive p m) (type.decimal q s n) v = to_decimal q s v
  other_cast (type.decimal p r m) (type.decimal q s n) v = to_decimal q s v
  other_cast (type.utf8 m) (type.binary n) v = to_bytes v
  other_cast (type.binary m) (type.utf8 n) v = to_text v
  other_cast (type.list s m) (type.list t n) (value.list vs) = fitting t (count vs) (list_cell (cast_all s t vs))
  other_cast (type.fixed_size_list s j m) (type.fixed_size_list t k n) (value.list vs) =
      if count vs == k then list_cell (cast_all s t vs) else cell.fault
  other_cast (type.struct fs m) (type.struct gs n) (value.fields vs) = fields_cell (cast_each fs gs vs)
  other_cast _ _ _ = cell.fault

  pub cast_all : DataType → DataType → Values → Option Values
  cast_all s t value.no_values = Some value.no_values
  cast_all s t (value.item v vs) = joined (cast_by s t v (other_cast (bare s) (bare t) v)) (cast_all s t vs)

  pub cast_each : Fields → Fields → Values → Option Values
  cast_each type.no_fields type.no_fields value.no_values = Some value.no_values
  cast_each (type.field i s fs) (type.field j t gs) (value.item v vs) =
      joined (cast_by s t v (other_cast (bare s) (bare t) v)) (cast_each fs gs vs)
  cast_each _ _ _ = None

abbrev pub cast_value : DataType → DataType → Value → Cell
cast_value s t v = cast_by s t v (other_cast (bare s) (bare t) v)

-- ---- the same from the target alone, for a value of a type that has a cast to it

abbrev pub into_by : DataType → Value → Cell → Cell
into_by t value.null other = null_into t
into_by t v other = other

-- a value of the type
abbrev pub kept : DataType → Value → Cell
kept t v = if are_parts t v then cell.value v else cell.fault

-- a line for each type that isn't an extension; only null is of type null
abbrev mutual
  pub into : DataType → Value → Cell
  into (type.bool n) v = to_bool v
  into (type.primitive p n) v = to_integer p v
  into (type.decimal p s n) v = to_decimal p s v
  into (type.utf8 n) v = to_text v
  into (type.binary n) v = to_bytes v
  into (type.list t n) (value.list vs) = fitting t (count vs) (list_cell (all_into t vs))
  into (type.fixed_size_list t k n) (value.list vs) = if count vs == k then list_cell (all_into t vs) else cell.fault
  into (type.map k t n) v = kept (type.map k t n) v
  into (type.struct fs n) (value.fields vs) = fields_cell (each_into fs vs)
  into (type.union us n) v = kept (type.union us n) v
  into (type.variant n) v = kept (type.variant n) v
  into _ v = cell.fault

  pub all_into : DataType → Values → Option Values
  all_into t value.no_values = Some value.no_values
  all_into t (value.item v vs) = joined (into_by t v (into (bare t) v)) (all_into t vs)

  pub each_into : Fields → Values → Option Values
  each_into type.no_fields value.no_values = Some value.no_values
  each_into (type.field name t fs) (value.item v vs) = joined (into_by t v (into (bare t) v)) (each_into fs vs)
  each_into _ _ = None

abbrev pub cast_to : DataType → Value → Cell
cast_to t v = into_by t v (into (bare t) v)
