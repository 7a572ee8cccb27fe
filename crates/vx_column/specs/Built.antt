-- Rows of a type, and the column that is built of them.
use Rattle.std.specs.Prelude.{ℕ, ℤ, ◌+◌, ◌^◌, ◌++◌, nat_lt, refl, List, length, map, Option, Some, None}
use Rattle.std.specs.Coded.{Coded, code_by, coded×, coded_list}
use Rattle.vx_value.specs.Types.{DataType, coded_type, nullability_of}
use Rattle.vx_value.specs.Values.{Value, coded_value, decimal, null}
use Rattle.vx_value.specs.Cell.{Cell, value, fault}
use Rattle.vx_value.specs.Parts.{boolean_in, integer_in, bytes_in}
use Rattle.vx_value.specs.Storage.{storage_of}
use Rattle.vx_value.specs.declared.dtype.Storage.{Storage}
use Rattle.vx_value.specs.declared.dtype.Storage.TheVariants.{Nulls, Bits, Integers, Decimals, Text, Bytes, Nested}
use Rattle.vx_value.specs.declared.error.VortexError.{VortexError}
use Rattle.vx_value.specs.declared.error.VortexError.TheVariants.{TooLong}
use Rattle.vx_tree.specs.Conditions.{unless}
use Rattle.vx_tree.specs.Rows.{boolean_rows, integer_rows, decimal_rows, bytes_rows}
use Rattle.vx_tree.specs.Tree.{Tree, nulls_of}

-- values of a type, null among them if it is nullable
pub record TypedRows : Type 0 where
  pub of_type : DataType
  pub values : List Value

abbrev pub coded_rows : Coded TypedRows
coded_rows =
    code_by (DataType × List Value) (coded× coded_type (coded_list coded_value)) (λ r. (r.of_type, r.values)) (λ p. record { of_type = p.0; values = p.1 })
    (λ _. refl)

-- the same rows, followed by these values
abbrev pub appended : TypedRows → List Value → TypedRows
appended r vs = record { of_type = r.of_type; values = r.values ++ vs }

-- why n rows and k more are too many
abbrev pub length_refusal : ℕ → ℕ → Option VortexError
length_refusal n k = unless (nat_lt (n + k) (2 ^ 64)) (TooLong n k)

-- the value of a cell; null for a fault
abbrev pub value_in : Cell → Value
value_in (value v) = v
value_in fault = null

-- the values of cells
abbrev pub values_in : List Cell → List Value
values_in cs = map value_in cs

-- the number of a decimal without its point; None for any other value
abbrev pub without_point : Value → Option ℤ
without_point (decimal z s) = Some z
without_point _ = None

-- the column of the rows, by how the type stores its values: a line for each storage. Rows of a nested type have a column for each part.
abbrev pub built_stored : Storage → DataType → List Value → Tree
built_stored Nulls ty vs = nulls_of (length vs)
built_stored Bits ty vs = boolean_rows (nullability_of ty) (map boolean_in vs)
built_stored (Integers p) ty vs = integer_rows (nullability_of ty) p (map integer_in vs)
built_stored (Decimals p s) ty vs = decimal_rows ty (map without_point vs)
built_stored Text ty vs = bytes_rows ty (map bytes_in vs)
built_stored Bytes ty vs = bytes_rows ty (map bytes_in vs)
built_stored Nested ty vs = nulls_of (length vs)

abbrev pub built : TypedRows → Tree
built r = built_stored (storage_of r.of_type) r.of_type r.values
