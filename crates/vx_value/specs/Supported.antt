-- Which types have columns so far: structs and extensions, and the types that aren't nested.
use Rattle.std.specs.Prelude.{Bool, true, false, ◌&&◌}
use Rattle.vx_value.specs.Types as type
use Rattle.vx_value.specs.Types.{DataType, Fields}

abbrev mutual
  pub has_columns : DataType → Bool
  has_columns (type.list t n) = false
  has_columns (type.fixed_size_list t k n) = false
  has_columns (type.map k v n) = false
  has_columns (type.struct fs n) = have_columns fs
  has_columns (type.union us n) = false
  has_columns (type.variant n) = false
  has_columns (type.extension id t) = has_columns t
  has_columns _ = true

  pub have_columns : Fields → Bool
  have_columns type.no_fields = true
  have_columns (type.field name t fs) = has_columns t && have_columns fs
