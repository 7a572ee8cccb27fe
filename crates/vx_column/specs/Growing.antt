-- The rows that a builder keeps: a value for each, also if it is null, and which of them aren't null.
use Rattle.std.specs.Prelude.{◌≡◌, ◌⊎◌, ◌<◌, ◌≤◌, ◌-◌, ℕ, pos, Bool, true, false, if◌then◌else◌, List, [], ◌∷◌, ◌++◌, length, map, replicate}
use Rattle.std.specs.List.{list_all, range_with_len}
use Rattle.vx_value.specs.Types.{DataType, nullability_of}
use Rattle.vx_value.specs.Values as value
use Rattle.vx_value.specs.Values.{Value}
use Rattle.vx_value.specs.IsOf.{is_of, in_range}
use Rattle.vx_value.specs.Decimals.{smallest_width}
use Rattle.vx_value.specs.Storage.{storage_of}
use Rattle.vx_value.specs.declared.dtype.Storage.{Storage}
use Rattle.vx_value.specs.declared.dtype.Storage.TheVariants as storage
use Rattle.vx_value.specs.declared.dtype.PType.{PType}
use Rattle.vx_value.specs.declared.dtype.Nullability.{Nullability}
use Rattle.vx_value.specs.declared.dtype.Nullability.TheVariants.{Nullable}
use Rattle.vx_tree.specs.Widths.{fits_width}
use Rattle.vx_value.specs.declared.decimal.DecimalDType.{DecimalDType}
use Rattle.vx_tree.specs.Tree.{Tree, dtype, len, nulls_of}
use Rattle.vx_tree.specs.Cells.{rows}
use Rattle.vx_value.specs.Cell as cell
use Rattle.vx_tree.specs.declared.validity.Validity.{Validity}
use Rattle.vx_mask.specs.Operands.{HasBits}
use Rattle.vx_column.specs.Arguments.{stored_decimals, value_at, ptype_in, integer_in, AreIntegers, AreDecimals, AreBytes}
use Rattle.vx_column.specs.ValidRows.{is_valid}
use Rattle.vx_column.specs.Stored.{boolean_column, integer_column, decimal_column, bytes_column}
use Rattle.vx_column.specs.declared.rows.argument.ArgumentRows.{ArgumentRows}
use Rattle.vx_column.specs.declared.rows.argument.ArgumentRows.TheVariants as stored
use Rattle.vx_column.specs.declared.rows.valid.ValidRows.{ValidRows}
use Rattle.vx_column.specs.declared.rows.valid.ValidRows.TheVariants as valid
use Rattle.vx_column.specs.declared.builder.values.Values.{Values}
use Rattle.vx_column.specs.declared.builder.values.Values.TheVariants.{Nulls, Bits, Integers, Decimals, Bytes}
use Rattle.vx_tree.specs.Views.{packed}

-- the values, by kind: a line for each
abbrev pub stored_values : Values → List Value
stored_values (Nulls n) = replicate n value.null
stored_values (Bits bs) = map (λ b. value.boolean b) bs
stored_values (Integers zs) = map (λ z. value.integer z) zs.numbers
stored_values (Decimals zs s) = map (λ z. value.decimal z s) zs.numbers
stored_values (Bytes rs) = map (λ r. value.bytes r) rs

-- the value under a null
abbrev pub zero_in : Values → Value
zero_in (Nulls n) = value.null
zero_in (Bits bs) = value.boolean false
zero_in (Integers zs) = value.integer (pos 0)
zero_in (Decimals zs s) = value.decimal (pos 0) s
zero_in (Bytes rs) = value.bytes []

-- the values have this storage
abbrev pub HaveStorage : Storage → Values → Type 0
HaveStorage st (Nulls n) = st ≡ storage.Nulls
HaveStorage st (Bits bs) = st ≡ storage.Bits
HaveStorage st (Integers zs) = (p : PType) × (st ≡ storage.Integers p) × (zs.kind ≡ p)
HaveStorage st (Decimals zs s) = (p : ℕ) × (st ≡ storage.Decimals p s) × (p ≤ 38) × (zs.kind ≡ smallest_width p)
HaveStorage st (Bytes rs) = (st ≡ storage.Text) ⊎ (st ≡ storage.Bytes)

-- the value is of their kind
abbrev pub Accepts : Values → Value → Type 0
Accepts (Bits bs) (value.boolean b) = Unit {0}
Accepts (Integers zs) (value.integer z) = in_range zs.kind z ≡ true
Accepts (Decimals zs s) (value.decimal z r) = (fits_width zs.kind z ≡ true) × (r ≡ s)
Accepts (Bytes rs) (value.bytes r) = Unit {0}
Accepts vs v = ⊥

-- n rows are of their kind: a line for each
abbrev pub AcceptRows : Values → ArgumentRows → ℕ → Type 0
AcceptRows (Nulls k) stored.Nulls n = Unit {0}
AcceptRows (Bits bs) (stored.Bits rows) n = HasBits rows n
AcceptRows (Integers zs) (stored.Integers rows) n = AreIntegers (ptype_in rows) rows n × (ptype_in rows ≡ zs.kind)
AcceptRows (Decimals zs s) (stored.Decimals rows) n = AreDecimals rows n × (smallest_width rows.decimal.precision ≡ zs.kind) × (rows.decimal.scale ≡ s)
AcceptRows (Bytes rs) (stored.Bytes rows) n = AreBytes rows n
AcceptRows vs rows n = ⊥

-- the first n integers are in the range of their type
abbrev pub AreRanged : ArgumentRows → ℕ → Type 0
AreRanged (stored.Integers rows) n = (i : ℕ) → i < n → in_range (ptype_in rows) (integer_in rows i) ≡ true
AreRanged _ n = Unit {0}

-- n rows of f, with d in place of each that isn't valid
abbrev pub rows_or : {A : Type 0} → A → ValidRows → (ℕ → A) → ℕ → List A
rows_or d valid f n = map (λ i. if is_valid valid i then f i else d) (range_with_len 0 n)

-- the values of n rows, with d in place of each that isn't valid
abbrev pub values_or : Value → ArgumentRows → ValidRows → ℕ → List Value
values_or d rows valid n = rows_or d valid (value_at rows) n

-- the bits of n rows, true for the rows that have none
abbrev pub padded : ℕ → List Bool → List Bool
padded n bits = bits ++ replicate (n - length bits) true

-- the bits of n rows and of more rows, if one of those may be null
abbrev pub told_more : ℕ → List Bool → ValidRows → List Bool
told_more n bits (valid.All m) = bits
told_more n bits (valid.Bits more) = padded n bits ++ more

-- the values with `other` where a bit is false
abbrev pub masked_by : Value → List Bool → List Value → List Value
masked_by other [] vs = vs
masked_by other (b ∷ bs) [] = []
masked_by other (b ∷ bs) (v ∷ vs) = (if b then v else other) ∷ masked_by other bs vs

-- a nullable column of nulls
abbrev pub IsNullConstant : Tree → Type 0
IsNullConstant t = (rows t ≡ replicate (len t) (cell.value value.null)) × (nullability_of (dtype t) ≡ Nullable)

-- the values, null where a bit is false
abbrev pub rows_kept : Values → List Bool → List Value
rows_kept values bits = masked_by value.null bits (stored_values values)

-- n rows of the type, with its zero value under each null
pub record IsKept (ty : DataType) (n : ℕ) (values : Values) (bits : List Bool) : Type 0 where
  pub kind : HaveStorage (storage_of ty) values
  pub counted : length (stored_values values) ≡ n
  pub typed : list_all (is_of ty) (stored_values values) ≡ true
  pub told : length bits ≤ n
  pub nullable : 0 < length bits → nullability_of ty ≡ Nullable
  pub zeros : masked_by (zero_in values) bits (stored_values values) ≡ stored_values values

-- the valid rows among n, by their bits: all if there are no bits
abbrev pub told_rows : Nullability → ℕ → List Bool → ValidRows
told_rows m n [] = valid.All m
told_rows m n (b ∷ bits) = valid.Bits (padded n (b ∷ bits))

-- the column of the values with the validity v
abbrev pub IsColumnOf : Storage → Values → Validity → Tree → Type 0
IsColumnOf st (Nulls n) v t = t ≡ nulls_of n
IsColumnOf st (Bits bs) v t = t ≡ boolean_column bs v
IsColumnOf st (Integers zs) v t = (p : PType) × (st ≡ storage.Integers p) × (t ≡ integer_column p zs.numbers v)
IsColumnOf st (Decimals zs s) v t = (d : DecimalDType) × (st ≡ stored_decimals d) × (t ≡ decimal_column d (smallest_width d.precision) zs.numbers v)
IsColumnOf st (Bytes rs) v t = t ≡ bytes_column st (packed rs) v
