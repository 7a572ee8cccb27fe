-- The operands of a kernel: numbers of a native type.
use Rattle.std.specs.Prelude.{◌≡◌, ◌⊎◌, ℕ, ℤ, pos, ◌<◌, Bool, true, false, List, map, length, slice_index_or}
use Rattle.std.specs.List.{range_with_len}
use Rattle.vx_value.specs.Types.{primitive, decimal}
use Rattle.vx_value.specs.Values.{Value}
use Rattle.vx_value.specs.Cell.{Cell, value, fault}
use Rattle.vx_value.specs.declared.decimal.DecimalDType.{DecimalDType}
use Rattle.vx_value.specs.declared.dtype.PType.{PType}
use Rattle.vx_value.specs.declared.error.VortexError.{VortexError}
use Rattle.vx_value.specs.declared.error.VortexError.TheVariants.{OutOfMemory, Fault}
use Rattle.vx_tree.specs.Tree.{Tree, dtype}
use Rattle.vx_column.specs.Computed.{IsColumnOfCells}
use Rattle.vx_column.specs.ValidRows.{nullability_in}
use Rattle.vx_column.specs.declared.rows.valid.ValidRows.{ValidRows}
use Rattle.vx_column.specs.declared.functions.kernel.operand.Operand.{Operand}
use Rattle.vx_column.specs.declared.functions.kernel.operand.Operand.TheVariants as operand

-- the integer that the number at row i stands for, 0 past the last one
abbrev pub number_in : {T : Type 0} → (T → ℤ) → Operand T → ℕ → ℤ
number_in read (operand.Rows xs) i = slice_index_or (map read xs.now) i (pos 0)
number_in read (operand.Value x) i = read x

-- row i exists; a single value stands for every row
abbrev pub HasRow : {T : Type 0} → Operand T → ℕ → Type 0
HasRow (operand.Rows xs) i = i < length xs.now
HasRow (operand.Value x) i = Unit {0}

-- the first n rows exist
abbrev pub HasRows : {T : Type 0} → Operand T → ℕ → Type 0
HasRows x n = (i : ℕ) → i < n → HasRow x i

-- the cell that a row stores: zero if the row is null
abbrev pub zero_unless : Value → Bool → Cell → Cell
zero_unless none true c = c
zero_unless none false c = value none

-- the cells that n rows store, of which row i is `cell i`: zero unless `valid i`
abbrev pub calculated_rows : Value → (ℕ → Bool) → (ℕ → Cell) → ℕ → List Cell
calculated_rows none valid cell n = map (λ i. zero_unless none (valid i) (cell i)) (range_with_len 0 n)

-- why they can't be calculated: out of memory, or a valid row is a fault
abbrev pub IsFaultyRow : (ℕ → Bool) → (ℕ → Cell) → ℕ → VortexError → Type 0
IsFaultyRow valid cell n e = (e ≡ OutOfMemory) ⊎ ((e ≡ Fault) × (i : ℕ) × (i < n) × (valid i ≡ true) × (cell i ≡ fault))

-- u is the canonical column of n integers of type p: row i is `cell i`, null unless it is valid
abbrev pub IsPrimitiveColumnOf : PType → ValidRows → (ℕ → Cell) → ℕ → Tree → Type 0
IsPrimitiveColumnOf p valid cell n u = (dtype u ≡ primitive p (nullability_in valid)) × IsColumnOfCells valid cell n u

-- u is the canonical column of n decimals of type d: row i is `cell i`, null unless it is valid
abbrev pub IsDecimalColumnOf : DecimalDType → ValidRows → (ℕ → Cell) → ℕ → Tree → Type 0
IsDecimalColumnOf d valid cell n u = (dtype u ≡ decimal d.precision d.scale (nullability_in valid)) × IsColumnOfCells valid cell n u
