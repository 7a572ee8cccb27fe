-- Whether the parts of a column can be counted.
use Rattle.std.specs.Prelude.{◌≡◌, ℕ, ◌*◌, ◌^◌, nat_lt, Bool, not, Option, Some, None, is_some, if◌then◌else◌}
use Rattle.vx_value.specs.Types as type
use Rattle.vx_value.specs.Types.{DataType, Fields, Variants}
use Rattle.vx_value.specs.Nested.{entry_type, tag_type, the_type, bare}
use Rattle.vx_value.specs.Values as value
use Rattle.vx_value.specs.Values.{Value, Values, count}

-- the first if there is one, else the second
abbrev pub or_else : {A : Type 0} → Option A → Option A → Option A
or_else (Some x) o = Some x
or_else None o = o

-- ---- the first fixed-size lists with too many elements, in a column of a type with so many rows: their number and their size.
-- The elements of a list are a column of their own length.
abbrev mutual
  pub overflow : DataType → ℕ → Option (ℕ × ℕ)
  overflow (type.fixed_size_list t k n) rows = if nat_lt (rows * k) (2 ^ 64) then overflow t (rows * k) else Some (rows, k)
  overflow (type.struct fs n) rows = fields_overflow fs rows
  overflow (type.union us n) rows = variants_overflow us rows
  overflow (type.extension id t) rows = overflow t rows
  overflow _ rows = None

  pub fields_overflow : Fields → ℕ → Option (ℕ × ℕ)
  fields_overflow type.no_fields rows = None
  fields_overflow (type.field name t fs) rows = or_else (overflow t rows) (fields_overflow fs rows)

  pub variants_overflow : Variants → ℕ → Option (ℕ × ℕ)
  variants_overflow type.no_variants rows = None
  variants_overflow (type.alternative tag name t us) rows = or_else (overflow t rows) (variants_overflow us rows)

-- a column of the type can have so many rows
abbrev pub fits : DataType → ℕ → Bool
fits t rows = not (is_some (overflow t rows))

-- ---- the same for the elements of the first list in a value that has too many of them
abbrev mutual
  -- of a type that isn't an extension
  pub parts_overflow : DataType → Value → Option (ℕ × ℕ)
  parts_overflow (type.list t n) (value.list vs) = or_else (overflow t (count vs)) (each_overflow t vs)
  parts_overflow (type.fixed_size_list t k n) (value.list vs) = each_overflow t vs
  parts_overflow (type.map k v n) (value.list vs) = or_else (overflow (entry_type k v) (count vs)) (each_overflow (entry_type k v) vs)
  parts_overflow (type.struct fs n) (value.fields vs) = named_overflow fs vs
  parts_overflow (type.union us n) (value.tagged tag v) = parts_overflow (bare (the_type (tag_type tag us))) v
  parts_overflow (type.variant n) (value.variant t v) = parts_overflow (bare t) v
  parts_overflow _ _ = None

  pub each_overflow : DataType → Values → Option (ℕ × ℕ)
  each_overflow t value.no_values = None
  each_overflow t (value.item v vs) = or_else (parts_overflow (bare t) v) (each_overflow t vs)

  pub named_overflow : Fields → Values → Option (ℕ × ℕ)
  named_overflow (type.field name t fs) (value.item v vs) = or_else (parts_overflow (bare t) v) (named_overflow fs vs)
  named_overflow _ _ = None

abbrev pub list_overflow : DataType → Value → Option (ℕ × ℕ)
list_overflow t v = parts_overflow (bare t) v

-- each list in the value has as many elements as a column of their type can have
abbrev pub ListsFit : DataType → Value → Type 0
ListsFit t v = list_overflow t v ≡ None
