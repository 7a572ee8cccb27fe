-- The arguments of a function: for each a type, and a value for each row.
use Rattle.std.specs.Prelude.{◌≡◌, ◌⊎◌, ◌||◌, ◌<◌, Bool, ℕ, ℤ, pos, List, [], ◌∷◌, map, length, true, false, Option, Some, None, slice_index_or, slice_get}
use Rattle.vx_value.specs.Types as type
use Rattle.vx_value.specs.Types.{DataType, nullability_of}
use Rattle.vx_value.specs.Values.{Value, null, boolean, integer, decimal, bytes}
use Rattle.vx_value.specs.Cell.{Cell, value, fault}
use Rattle.vx_value.specs.View.{type_of}
use Rattle.vx_value.specs.Storage.{storage_of, is_nested}
use Rattle.vx_value.specs.declared.dtype.Storage.{Storage}
use Rattle.vx_value.specs.declared.dtype.Storage.TheVariants as storage
use Rattle.vx_value.specs.Nullabilities.{with_nullability}
use Rattle.vx_value.specs.Typed.{Typed}
use Rattle.vx_value.specs.IsOf.{in_range, is_null}
use Rattle.vx_value.specs.declared.dtype.Nullability.{Nullability}
use Rattle.vx_value.specs.declared.dtype.Nullability.TheVariants.{NonNullable, Nullable}
use Rattle.vx_value.specs.declared.error.VortexError.{VortexError}
use Rattle.vx_value.specs.declared.error.VortexError.TheVariants.{OutOfMemory, Fault}
use Rattle.vx_value.specs.declared.dtype.PType.{PType}
use Rattle.vx_mask.specs.Operands.{bit_in, HasBits}
use Rattle.vx_tree.specs.Natives.{values_of, ptype_of}
use Rattle.vx_tree.specs.DecimalNumbers.{numbers_of, decimal_type_of}
use Rattle.vx_value.specs.Decimals.{has_digits}
use Rattle.vx_value.specs.declared.decimal.DecimalDType.{DecimalDType}
use Rattle.vx_tree.specs.ColumnTypes.{are_decimals_of, bytes_type, are_bytes_of}
use Rattle.vx_tree.specs.Tree.{Tree, dtype, len}
use Rattle.vx_tree.specs.Cells.{rows}
use Rattle.vx_tree.specs.Canonicals.{columnar_tree}
use Rattle.vx_tree.specs.declared.canonical.columnar.Columnar.{Columnar}
use Rattle.vx_column.specs.declared.rows.argument.IntegerOperand.{IntegerOperand}
use Rattle.vx_column.specs.declared.rows.argument.IntegerRows.{IntegerRows}
use Rattle.vx_column.specs.declared.rows.argument.IntegerRows.TheVariants as rows_in
use Rattle.vx_column.specs.declared.rows.argument.DecimalOperand.{DecimalOperand}
use Rattle.vx_column.specs.declared.rows.argument.DecimalRows.{DecimalRows}
use Rattle.vx_column.specs.declared.rows.argument.DecimalRows.TheVariants as decimal_rows
use Rattle.vx_column.specs.declared.rows.argument.BytesOperand.{BytesOperand}
use Rattle.vx_column.specs.declared.rows.argument.BytesRows.{BytesRows}
use Rattle.vx_column.specs.declared.rows.argument.BytesRows.TheVariants as bytes_rows
use Rattle.vx_column.specs.declared.rows.argument.Argument.{Argument}
use Rattle.vx_column.specs.declared.rows.argument.ArgumentRows.{ArgumentRows}
use Rattle.vx_column.specs.declared.rows.argument.ArgumentRows.TheVariants as stored
use Rattle.vx_column.specs.declared.rows.valid.ValidRows.{ValidRows}
use Rattle.vx_column.specs.ValidRows.{is_valid, HasValidity, AreTold, nullability_in, null_unless}
use Rattle.vx_tree.specs.Views.{rows_of}

-- the integer at row i, 0 past the last one
abbrev pub integer_at : IntegerRows → ℕ → ℤ
integer_at (rows_in.Rows vs) i = slice_index_or (values_of vs.now) i (pos 0)
integer_at (rows_in.Value p z) i = z

abbrev pub ptype_at : IntegerRows → PType
ptype_at (rows_in.Rows vs) = ptype_of vs.now
ptype_at (rows_in.Value p z) = p

-- if one integer stands for every row, it is in the range of its type
abbrev pub IsInRange : IntegerRows → Type 0
IsInRange (rows_in.Rows vs) = Unit {0}
IsInRange (rows_in.Value p z) = in_range p z ≡ true

-- there are n rows; a single value stands for any number of them
abbrev pub HasIntegers : IntegerRows → ℕ → Type 0
HasIntegers (rows_in.Rows vs) n = length (values_of vs.now) ≡ n
HasIntegers (rows_in.Value p z) n = Unit {0}

abbrev pub integer_in : IntegerOperand → ℕ → ℤ
integer_in zs = integer_at zs.rows

abbrev pub ptype_in : IntegerOperand → PType
ptype_in zs = ptype_at zs.rows

-- n integers that are values of type p
abbrev pub AreIntegers : PType → IntegerOperand → ℕ → Type 0
AreIntegers p zs n = (ptype_in zs ≡ p) × IsInRange zs.rows × HasIntegers zs.rows n × (storage_of (type_of zs.dtype.now) ≡ storage.Integers p)

-- the decimal at row i without its point, 0 past the last one
abbrev pub unscaled_at : DecimalRows → ℕ → ℤ
unscaled_at (decimal_rows.Rows ds) i = slice_index_or (numbers_of ds.now) i (pos 0)
unscaled_at (decimal_rows.Value z) i = z

abbrev pub unscaled_in : DecimalOperand → ℕ → ℤ
unscaled_in ds = unscaled_at ds.rows

-- the number of a decimal without its point; 0 for any other value
abbrev pub unscaled_of : Value → ℤ
unscaled_of (decimal z s) = z
unscaled_of _ = pos 0

-- the storage of a type of decimals
abbrev pub stored_decimals : DecimalDType → Storage
stored_decimals d = storage.Decimals d.precision d.scale

-- n decimals of the type; a single value stands for any number of them
abbrev pub HasDecimals : DecimalDType → DecimalRows → ℕ → Type 0
HasDecimals d (decimal_rows.Rows ds) n =
    (length (numbers_of ds.now) ≡ n) × (are_decimals_of (stored_decimals d) (decimal_type_of ds.now) (numbers_of ds.now) ≡ true)
HasDecimals d (decimal_rows.Value z) n = has_digits d.precision z ≡ true

abbrev pub AreDecimals : DecimalOperand → ℕ → Type 0
AreDecimals ds = HasDecimals ds.decimal ds.rows

-- the bytes at row i, none past the last one
abbrev pub bytes_at : BytesRows → ℕ → List ℕ
bytes_at (bytes_rows.Rows rs) i = slice_index_or (rows_of rs.now) i []
bytes_at (bytes_rows.Value bs) i = bs.now

abbrev pub bytes_in : BytesOperand → ℕ → List ℕ
bytes_in bs = bytes_at bs.rows

-- n rows of bytes that are values of this storage
abbrev pub HasBytes : Storage → BytesRows → ℕ → Type 0
HasBytes st (bytes_rows.Rows rs) n = (length rs.now.views ≡ n) × (are_bytes_of st (rows_of rs.now) ≡ true)
HasBytes st (bytes_rows.Value bs) n = are_bytes_of st (bs.now ∷ []) ≡ true

abbrev pub AreBytes : BytesOperand → ℕ → Type 0
AreBytes bs = HasBytes bs.storage bs.rows

-- the value that row i stores, also if the row is null: a line for each storage
abbrev pub value_at : ArgumentRows → ℕ → Value
value_at stored.Nulls i = null
value_at (stored.Bits bs) i = boolean (bit_in bs i)
value_at (stored.Integers zs) i = integer (integer_in zs i)
value_at (stored.Decimals ds) i = decimal (unscaled_in ds i) ds.decimal.scale
value_at (stored.Bytes bs) i = bytes (bytes_in bs i)

-- the type of the values: a line for each storage
abbrev pub plain_type : ArgumentRows → DataType
plain_type stored.Nulls = type.null
plain_type (stored.Bits bs) = type.bool NonNullable
plain_type (stored.Integers zs) = type.primitive (ptype_in zs) NonNullable
plain_type (stored.Decimals ds) = type.decimal ds.decimal.precision ds.decimal.scale NonNullable
plain_type (stored.Bytes bs) = bytes_type bs.storage

-- the type of a column of these rows, by its nullability
abbrev pub type_of_rows : Nullability → ArgumentRows → DataType
type_of_rows m stored.Nulls = type.null
type_of_rows m (stored.Bits bs) = type.bool m
type_of_rows m (stored.Integers zs) = type_of zs.dtype.now
type_of_rows m (stored.Decimals ds) = type.decimal ds.decimal.precision ds.decimal.scale m
type_of_rows m (stored.Bytes bs) = with_nullability m (bytes_type bs.storage)

-- there are n rows, in a column of this nullability
abbrev pub AreStored : Nullability → ArgumentRows → ℕ → Type 0
AreStored m stored.Nulls n = m ≡ Nullable
AreStored m (stored.Bits bs) n = HasBits bs n
AreStored m (stored.Integers zs) n = AreIntegers (ptype_in zs) zs n × (nullability_of (type_of zs.dtype.now) ≡ m)
AreStored m (stored.Decimals ds) n = AreDecimals ds n
AreStored m (stored.Bytes bs) n = AreBytes bs n

-- there are n rows
abbrev pub HasStored : ArgumentRows → ℕ → Type 0
HasStored stored.Nulls n = Unit {0}
HasStored (stored.Bits bs) n = HasBits bs n
HasStored (stored.Integers zs) n = AreIntegers (ptype_in zs) zs n
HasStored (stored.Decimals ds) n = AreDecimals ds n
HasStored (stored.Bytes bs) n = AreBytes bs n

-- none of n rows of type null is valid
abbrev pub AreShown : ArgumentRows → ValidRows → ℕ → Type 0
AreShown stored.Nulls valid n = (i : ℕ) → i < n → is_valid valid i ≡ false
AreShown _ valid n = Unit {0}

abbrev pub type_of_argument : Argument → DataType
type_of_argument a = type_of_rows (nullability_in a.valid) a.rows

-- the argument has n rows
abbrev pub IsSized : ℕ → Argument → Type 0
IsSized n a = AreStored (nullability_in a.valid) a.rows n × HasValidity a.valid n × AreShown a.rows a.valid n

-- the cell at row i
abbrev pub cell_at : Argument → ℕ → Cell
cell_at a i = null_unless (is_valid a.valid i) (value (value_at a.rows i))

-- a has the type and the rows of the column c
pub record IsArgument (c : Columnar) (a : Argument) : Type 0 where
  pub typed : dtype (columnar_tree c) ≡ type_of_argument a
  pub shown : (i : ℕ) → i < len (columnar_tree c) → slice_index_or (rows (columnar_tree c)) i fault ≡ cell_at a i
  pub sized : IsSized (len (columnar_tree c)) a

-- a has the rows r of a column t, valid where its validity v says so
pub record IsTold (t : Tree) (r : ArgumentRows) (v : Option Tree) (a : Argument) : Type 0 where
  pub rows : a.rows ≡ r
  pub told : AreTold (len t) v a.valid
  pub nullability : nullability_in a.valid ≡ nullability_of (dtype t)
  pub sized : HasValidity a.valid (len t)

-- why a tree's rows can't be read: out of memory, or one of them is a fault
abbrev pub IsUnread : Tree → VortexError → Type 0
IsUnread t e = (e ≡ OutOfMemory) ⊎ ((e ≡ Fault) × (i : ℕ) × (i < len t) × (slice_get (rows t) i ≡ Some fault))

-- why the validity of n rows can't be read
abbrev pub AreUnread : ℕ → Option Tree → VortexError → Type 0
AreUnread n None e = e ≡ OutOfMemory
AreUnread n (Some t) e = (e ≡ OutOfMemory) ⊎ ((e ≡ Fault) × (i : ℕ) × (i < n) × (slice_get (rows t) i ≡ Some fault))

-- whether one of the trees has a nested type
abbrev pub any_nested : List Tree → Bool
any_nested [] = false
any_nested (t ∷ ts) = is_nested (dtype t) || any_nested ts

-- why one of the columns can't be read
abbrev pub AnyUnread : List Columnar → VortexError → Type 0
AnyUnread [] e = e ≡ OutOfMemory
AnyUnread (c ∷ cs) e = IsUnread (columnar_tree c) e ⊎ AnyUnread cs e

-- the rows of a constant
pub record IsRepeated (s : Typed) (a : ArgumentRows) : Type 0 where
  pub typed : type_of_rows (nullability_of s.of_type) a ≡ s.of_type
  pub shown : (i : ℕ) → is_null s.value ≡ false → value_at a i ≡ s.value
  pub sized : (n : ℕ) → AreStored (nullability_of s.of_type) a n

abbrev pub types_of : List Argument → List DataType
types_of args = map type_of_argument args

-- the cells at row i
abbrev pub row_of : List Argument → ℕ → List Cell
row_of args i = map (λ a. cell_at a i) args

-- the types of what two arguments store
abbrev pub pair_types : (lhs rhs : ArgumentRows) → List DataType
pair_types l r = plain_type l ∷ plain_type r ∷ []

-- the values that two arguments store in row i
abbrev pub pair_at : ArgumentRows → ArgumentRows → ℕ → List Cell
pair_at l r i = value (value_at l i) ∷ value (value_at r i) ∷ []

-- the types of scalars
abbrev pub types_of_scalars : List Typed → List DataType
types_of_scalars ss = map (λ s. s.of_type) ss

abbrev pub cells_of_scalars : List Typed → List Cell
cells_of_scalars ss = map (λ s. value s.value) ss
