-- The rows of a column that aren't null, as bits.
use Rattle.std.proofs.Math.Bool.{not}
use Rattle.std.specs.Prelude.{◌≡◌, ◌<◌, ℕ, Bool, true, false, List, length, map, Option, Some, None}
use Rattle.vx_value.specs.Types.{bool, nullability_of}
use Rattle.vx_value.specs.Typed.{Typed}
use Rattle.vx_value.specs.IsOf.{is_null}
use Rattle.vx_value.specs.Values.{null, boolean}
use Rattle.vx_value.specs.Cell.{Cell, value}
use Rattle.vx_value.specs.declared.dtype.Nullability.{Nullability}
use Rattle.vx_value.specs.declared.dtype.Nullability.TheVariants.{NonNullable, Nullable}
use Rattle.vx_mask.specs.Logic.{bit_row}
use Rattle.vx_tree.specs.Tree.{Tree, dtype, len}
use Rattle.vx_tree.specs.Cells.{rows}
use Rattle.vx_tree.specs.Validities.{nullability_by, child_of, child_by, HasRows}
use Rattle.vx_tree.specs.declared.validity.Validity.{Validity}
use Rattle.vx_column.specs.declared.rows.valid.ValidRows.{ValidRows}
use Rattle.vx_column.specs.declared.rows.valid.ValidRows.TheVariants as rows_valid

-- row i isn't null
abbrev pub is_valid : ValidRows → ℕ → Bool
is_valid (rows_valid.All m) i = true
is_valid (rows_valid.Bits bits) i = bit_row bits i

-- there are n rows; `All` stands for any number of them
abbrev pub HasValidity : ValidRows → ℕ → Type 0
HasValidity (rows_valid.All m) n = Unit {0}
HasValidity (rows_valid.Bits bits) n = length bits ≡ n

-- the nullability of their column
abbrev pub nullability_in : ValidRows → Nullability
nullability_in (rows_valid.All m) = m
nullability_in (rows_valid.Bits bits) = Nullable

-- the tree of their column's validity
abbrev pub child_in : ValidRows → Option Tree
child_in (rows_valid.All m) = None
child_in (rows_valid.Bits bits) = child_by bits

-- the validity of their column, n rows long
abbrev pub IsValidityOf : ValidRows → ℕ → Validity → Type 0
IsValidityOf valid n v = (nullability_by v ≡ nullability_in valid) × (child_of v n ≡ child_in valid) × HasRows v n

-- the rows are valid if the validity t says so, row by row; all are if there is none
abbrev pub AreTold : ℕ → Option Tree → ValidRows → Type 0
AreTold n None valid = (i : ℕ) → is_valid valid i ≡ true
AreTold n (Some t) valid =
    (bits : List Bool) × (length bits ≡ n) × (rows t ≡ map (λ b. value (boolean b)) bits) × ((i : ℕ) → i < n → is_valid valid i ≡ bit_row bits i)

-- the cell if its row is valid, else null
abbrev pub null_unless : Bool → Cell → Cell
null_unless true c = c
null_unless false c = value null

-- the validity, if there is one, is a nullable column's and has n rows
abbrev pub TellsRows : Nullability → ℕ → Option Tree → Type 0
TellsRows m n None = Unit {0}
TellsRows m n (Some t) = (m ≡ Nullable) × (dtype t ≡ bool NonNullable) × (len t ≡ n)

-- the valid rows of a constant of n rows
abbrev pub IsRepeatedValidity : Typed → ℕ → ValidRows → Type 0
IsRepeatedValidity s n valid =
    HasValidity valid n × (nullability_in valid ≡ nullability_of s.of_type) × ((i : ℕ) → is_valid valid i ≡ not (is_null s.value))
