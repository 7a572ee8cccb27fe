-- The column that JSON spells, by its rows or by its values and its validity.
use Rattle.std.specs.Prelude.{ℕ, ◌+◌, length, if◌then◌else◌, Option, None, option_map, option_and_then, codes}
use Rattle.serde_json.specs.Data.{Data, Items}
use Rattle.serde_json.specs.Find.{as_null, as_bool}
use Rattle.vx_value.specs.Types as type
use Rattle.vx_value.specs.Types.{DataType, nullability_of}
use Rattle.vx_value.specs.Decimals.{smallest_width}
use Rattle.vx_value.specs.Storage.{storage_of, is_nested}
use Rattle.vx_value.specs.declared.dtype.Nullability.{Nullability}
use Rattle.vx_value.specs.declared.dtype.Storage.{Storage}
use Rattle.vx_value.specs.declared.dtype.Storage.TheVariants as storage
use Rattle.vx_value.specs.declared.dtype.Storage.TheVariants.{Bits, Integers, Decimals, Text, Bytes}
use Rattle.vx_tree.specs.Tree as enc
use Rattle.vx_tree.specs.Tree.{Tree, column, nulls_of}
use Rattle.vx_tree.specs.Rows.{boolean_rows, integer_rows, decimal_rows, bytes_rows}
use Rattle.vx_tree.specs.Validities.{child_of}
use Rattle.vx_json.specs.Fields.{keyed, items_at}
use Rattle.vx_json.specs.SpelledNulls.{null_keys, validity_spelled}
use Rattle.vx_json.specs.SpelledTypes.{column_type_at}
use Rattle.vx_json.specs.SpelledValues.{integer_spelled, decimal_spelled, bytes_spelled, or_null, value_spelled, all_read}
use Rattle.vx_json.specs.declared.nulls.Nulls.{Nulls}
use Rattle.vx_tree.specs.Views.{packed}
use Rattle.vx_column.specs.ValueColumns.{column_of}

-- `{"enc":"col","type":T,"rows":[..]}`: a column of the rows, which may be null if the type is nullable. Of a type that isn't nested, a line for each
-- storage that has a spelling
abbrev pub rows_stored : Nullability → Storage → Items → Option Tree
rows_stored m storage.Nulls ds = option_map (λ rows. nulls_of (length rows)) (all_read as_null ds)
rows_stored m Bits ds = option_map (boolean_rows m) (all_read (or_null m as_bool) ds)
rows_stored m (Integers p) ds = option_map (integer_rows m p) (all_read (or_null m (integer_spelled p)) ds)
rows_stored m (Decimals p s) ds = option_map (decimal_rows (type.decimal p s m)) (all_read (or_null m (decimal_spelled p)) ds)
rows_stored m Text ds = option_map (bytes_rows (type.utf8 m)) (all_read (or_null m (bytes_spelled Text)) ds)
rows_stored m Bytes ds = option_map (bytes_rows (type.binary m)) (all_read (or_null m (bytes_spelled Bytes)) ds)
rows_stored m _ ds = None

abbrev pub flat_rows : DataType → Items → Option Tree
flat_rows ty = rows_stored (nullability_of ty) (storage_of ty)

-- of a nested type, the column of the values
abbrev pub nested_rows : DataType → Items → Option Tree
nested_rows ty ds = option_map (column_of ty) (all_read (value_spelled ty) ds)

abbrev pub column_of_rows : DataType → Items → Option Tree
column_of_rows ty ds = if is_nested ty then nested_rows ty ds else flat_rows ty ds

abbrev pub col_spelled : Data → Option Tree
col_spelled d = keyed 3 d (option_and_then (λ ty. option_and_then (column_of_rows ty) (items_at (codes "rows") d)) (column_type_at d))

-- `{"enc":"flat","type":T,"values":[..]}`, or with `"validity"` too: a column of the values, never null; a line for each storage that has a spelling
abbrev pub flat_of : DataType → ℕ → enc.Data → Nulls → Option Tree
flat_of ty n values nulls = option_map (λ v. column ty n values (child_of v n)) (validity_spelled (nullability_of ty) n nulls)

abbrev pub values_stored : Nullability → Storage → Nulls → Items → Option Tree
values_stored m Bits nulls ds = option_and_then (λ bs. flat_of (type.bool m) (length bs) (enc.bool bs) nulls) (all_read as_bool ds)
values_stored m (Integers p) nulls ds =
    option_and_then (λ zs. flat_of (type.primitive p m) (length zs) (enc.primitive p zs) nulls) (all_read (integer_spelled p) ds)
values_stored m (Decimals p s) nulls ds =
    option_and_then (λ zs. flat_of (type.decimal p s m) (length zs) (enc.decimals (smallest_width p) zs) nulls) (all_read (decimal_spelled p) ds)
values_stored m Text nulls ds = option_and_then (λ rs. flat_of (type.utf8 m) (length rs) (enc.views (packed rs)) nulls) (all_read (bytes_spelled Text) ds)
values_stored m Bytes nulls ds = option_and_then (λ rs. flat_of (type.binary m) (length rs) (enc.views (packed rs)) nulls) (all_read (bytes_spelled Bytes) ds)
values_stored m _ nulls ds = None

abbrev pub column_of_values : Nulls → DataType → Items → Option Tree
column_of_values nulls ty = values_stored (nullability_of ty) (storage_of ty) nulls

abbrev pub flat_spelled : Data → Nulls → Option Tree
flat_spelled d nulls =
    keyed (3 + null_keys nulls) d (option_and_then (λ ty. option_and_then (column_of_values nulls ty) (items_at (codes "values") d)) (column_type_at d))
