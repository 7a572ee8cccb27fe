-- The rows of an argument, cast.
use Rattle.std.specs.Prelude.{◌≡◌, ◌⊎◌, ℕ, ℤ, pos, Bool, true, false, List, [], length, slice_index_or}
use Rattle.vx_value.specs.Types.{DataType, bool, primitive, decimal, nullability_of}
use Rattle.vx_value.specs.Nullabilities.{with_nullability}
use Rattle.vx_value.specs.Storage.{storage_of}
use Rattle.vx_value.specs.Values.{integer}
use Rattle.vx_value.specs.Cell.{Cell}
use Rattle.vx_value.specs.Casts.{to_integer, rescaled}
use Rattle.vx_value.specs.declared.decimal.DecimalDType.{DecimalDType}
use Rattle.vx_value.specs.declared.dtype.Nullability.TheVariants.{Nullable}
use Rattle.vx_value.specs.declared.dtype.PType.{PType}
use Rattle.vx_value.specs.declared.error.VortexError.{VortexError}
use Rattle.vx_value.specs.declared.rescaling.Rescaling.{Rescaling}
use Rattle.vx_tree.specs.Natives.{values_of}
use Rattle.vx_tree.specs.ColumnTypes.{bytes_type}
use Rattle.vx_tree.specs.Tree.{Tree}
use Rattle.vx_column.specs.Operands.{IsFaultyRow, IsPrimitiveColumnOf}
use Rattle.vx_column.specs.ValidRows.{is_valid, HasValidity}
use Rattle.vx_column.specs.declared.functions.cast.casts.Conversion.{Conversion}
use Rattle.vx_column.specs.declared.rows.argument.ArgumentRows.{ArgumentRows}
use Rattle.vx_column.specs.declared.rows.argument.ArgumentRows.TheVariants as stored

-- row i of integers, cast to the type p
abbrev pub converted : PType → (ℕ → ℤ) → ℕ → Cell
converted p z i = to_integer p (integer (z i))

-- row i of numbers of scale r, cast to decimals of type d
abbrev pub rescaled_row : DecimalDType → ℕ → (ℕ → ℤ) → ℕ → Cell
rescaled_row d r z i = rescaled d.precision d.scale (z i) r

-- the same for item i, or for 0 past the last one
abbrev pub rescaled_item : Rescaling → List ℤ → ℕ → Cell
rescaled_item x zs = rescaled_row x.target x.scale (λ i. slice_index_or zs i (pos 0))

-- the bytes that a row cast to text stores: none if the row is null
abbrev pub none_unless : Bool → List ℕ → List ℕ
none_unless true bs = bs
none_unless false bs = []

-- types of integers, and of decimals
abbrev pub IsIntegerType : DataType → Type 0
IsIntegerType t = (p : PType) × (t ≡ primitive p (nullability_of t))

abbrev pub IsDecimalType : DataType → Type 0
IsDecimalType t = (p : ℕ) × (s : ℕ) × (t ≡ decimal p s (nullability_of t))

-- the types that rows of this storage can be cast to: a line for each storage
abbrev pub IsCastTarget : ArgumentRows → DataType → Type 0
IsCastTarget stored.Nulls t = nullability_of t ≡ Nullable
IsCastTarget (stored.Bits bs) t = t ≡ bool (nullability_of t)
IsCastTarget (stored.Integers zs) t = IsIntegerType t ⊎ IsDecimalType t
IsCastTarget (stored.Decimals ds) t = IsDecimalType t
IsCastTarget (stored.Bytes bs) t = t ≡ with_nullability (nullability_of t) (bytes_type (storage_of t))

-- the integer at row i, 0 past the last one
abbrev pub value_in : Conversion → ℕ → ℤ
value_in x i = slice_index_or (values_of x.values.now) i (pos 0)

abbrev pub HasRowsToConvert : Conversion → Type 0
HasRowsToConvert x = (length (values_of x.values.now) ≡ x.len) × HasValidity x.valid.now x.len

-- u is the column of its integers in the target's type
abbrev pub IsConverted : Conversion → Tree → Type 0
IsConverted x u = IsPrimitiveColumnOf x.target x.valid.now (converted x.target (value_in x)) x.len u

-- why there is no such column: out of memory, or a valid row is out of range
abbrev pub IsNotConverted : Conversion → VortexError → Type 0
IsNotConverted x e = IsFaultyRow (is_valid x.valid.now) (converted x.target (value_in x)) x.len e
