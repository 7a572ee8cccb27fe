-- The values of a column, in the buffers of its storage.
use Rattle.std.specs.Prelude.{◌≡◌, ℕ, pos, List, [], length, Bool, false, true, Option, None}
use Rattle.serde_json.specs.Data.{Items}
use Rattle.serde_json.specs.Find.{as_bool}
use Rattle.vx_value.specs.Types as type
use Rattle.vx_value.specs.Types.{DataType}
use Rattle.vx_value.specs.Decimals.{smallest_width}
use Rattle.vx_value.specs.declared.dtype.Nullability.{Nullability}
use Rattle.vx_value.specs.declared.dtype.Nullability.TheVariants.{NonNullable}
use Rattle.vx_value.specs.declared.dtype.Storage.{Storage}
use Rattle.vx_value.specs.declared.dtype.Storage.TheVariants as storage
use Rattle.vx_value.specs.declared.error.VortexError.{VortexError}
use Rattle.vx_tree.specs.Natives.{values_of, ptype_of}
use Rattle.vx_tree.specs.DecimalNumbers.{numbers_of, decimal_type_of}
use Rattle.vx_tree.specs.ColumnTypes.{are_bytes_of}
use Rattle.vx_tree.specs.Tree as enc
use Rattle.vx_tree.specs.Validities.{flat_refusal, decimal_refusal, bytes_refusal}
use Rattle.vx_tree.specs.declared.validity.Validity.{Validity}
use Rattle.vx_json.specs.ReadRows.{AreRead}
use Rattle.vx_json.specs.SpelledValues.{integer_spelled, decimal_spelled, bytes_spelled, or_null, all_read}
use Rattle.vx_json.specs.declared.column_values.ColumnValues.{ColumnValues}
use Rattle.vx_json.specs.declared.column_values.ColumnValues.TheVariants.{Bits, Integers, Decimals, Views}
use Rattle.vx_tree.specs.Views.{rows_of, packed}

-- the data of a column's node, and its rows
abbrev pub data_of : ColumnValues → enc.Data
data_of (Bits bits) = enc.bool bits
data_of (Integers v) = enc.primitive (ptype_of v) (values_of v)
data_of (Decimals v) = enc.decimals (decimal_type_of v) (numbers_of v)
data_of (Views rows) = enc.views rows

abbrev pub count_of : ColumnValues → ℕ
count_of (Bits bits) = length bits
count_of (Integers v) = length (values_of v)
count_of (Decimals v) = length (numbers_of v)
count_of (Views rows) = length rows.views

-- why no column of these values has this type and validity
abbrev pub values_refusal : DataType → ColumnValues → Validity → Option VortexError
values_refusal ty (Bits bits) w = flat_refusal (type.bool NonNullable) ty (length bits) w
values_refusal ty (Integers v) w = flat_refusal (type.primitive (ptype_of v) NonNullable) ty (length (values_of v)) w
values_refusal ty (Decimals v) w = decimal_refusal ty (decimal_type_of v) (numbers_of v) w
values_refusal ty (Views rows) w = bytes_refusal ty rows w

-- the list spells rows of these values, in this storage: a line for each storage
abbrev pub AreReadAs : Nullability → Storage → Items → ColumnValues → List Bool → Type 0
AreReadAs m storage.Bits ds (Bits bits) valid = AreRead m false as_bool ds bits valid
AreReadAs m (storage.Integers p) ds (Integers v) valid = (ptype_of v ≡ p) × AreRead m (pos 0) (integer_spelled p) ds (values_of v) valid
AreReadAs m (storage.Decimals p s) ds (Decimals v) valid =
    (decimal_type_of v ≡ smallest_width p) × AreRead m (pos 0) (decimal_spelled p) ds (numbers_of v) valid
AreReadAs m storage.Text ds (Views rows) valid =
    (rows ≡ packed (rows_of rows)) × (are_bytes_of storage.Text (rows_of rows) ≡ true) × AreRead m [] (bytes_spelled storage.Text) ds (rows_of rows) valid
AreReadAs m storage.Bytes ds (Views rows) valid = (rows ≡ packed (rows_of rows)) × AreRead m [] (bytes_spelled storage.Bytes) ds (rows_of rows) valid
AreReadAs m _ ds v valid = ⊥

-- the list doesn't spell rows in this storage
abbrev pub AreUnread : Nullability → Storage → Items → Type 0
AreUnread m storage.Bits ds = all_read (or_null m as_bool) ds ≡ None
AreUnread m (storage.Integers p) ds = all_read (or_null m (integer_spelled p)) ds ≡ None
AreUnread m (storage.Decimals p s) ds = all_read (or_null m (decimal_spelled p)) ds ≡ None
AreUnread m storage.Text ds = all_read (or_null m (bytes_spelled storage.Text)) ds ≡ None
AreUnread m storage.Bytes ds = all_read (or_null m (bytes_spelled storage.Bytes)) ds ≡ None
AreUnread m _ ds = Unit {0}
