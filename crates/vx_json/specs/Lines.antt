-- The lines of a column's rows.
use Rattle.std.specs.Prelude.{ℕ, zero, suc, ℤ, pos, List, [], ◌++◌, length, Bool, true, false, codes, slice_index_or}
use Rattle.std.specs.Fmt.{signed_decimal}
use Rattle.vx_column.specs.Arguments.{type_of_argument, value_at}
use Rattle.vx_column.specs.ValidRows.{is_valid}
use Rattle.vx_column.specs.declared.rows.argument.Argument.{Argument}
use Rattle.vx_column.specs.declared.rows.valid.ValidRows.{ValidRows}
use Rattle.vx_value.specs.declared.dtype.Storage.{Storage}
use Rattle.vx_tree.specs.ColumnTypes.{bytes_type}
use Rattle.vx_json.specs.RowText.{plain_text, bytes_text, in_quotes}
use Rattle.vx_json.specs.Output.{line}

-- the text of a row if it is valid, else `null`
abbrev pub unless_null : Bool → List ℕ → List ℕ
unless_null true text = text
unless_null false text = codes "null"

-- a line for each of n rows
abbrev pub lines : (ℕ → Bool) → (ℕ → List ℕ) → ℕ → List ℕ
lines valid text zero = []
lines valid text (suc n) = lines valid text n ++ line (unless_null (valid n) (text n))

-- a line for each of these integers
abbrev pub integer_lines : ValidRows → List ℤ → List ℕ
integer_lines valid zs = lines (is_valid valid) (λ i. signed_decimal (slice_index_or zs i (pos 0))) (length zs)

-- a line for each of these decimals without their points
abbrev pub decimal_lines : ValidRows → List ℤ → List ℕ
decimal_lines valid zs = lines (is_valid valid) (λ i. in_quotes (signed_decimal (slice_index_or zs i (pos 0)))) (length zs)

-- a line for each of n rows of text or bytes, by their storage
abbrev pub bytes_lines : Storage → ValidRows → List (List ℕ) → ℕ → List ℕ
bytes_lines st valid rs n = lines (is_valid valid) (λ i. bytes_text (bytes_type st) (slice_index_or rs i [])) n

-- the text of row i, as if it weren't null; the type of an argument isn't nested
abbrev pub row_text_at : Argument → ℕ → List ℕ
row_text_at a i = plain_text (type_of_argument a) (value_at a.rows i)

-- a line for each of n rows of the argument
abbrev pub row_lines : Argument → ℕ → List ℕ
row_lines a n = lines (is_valid a.valid) (row_text_at a) n
