-- Which rows of a column are null, and the tree that stands for it.
use Rattle.std.specs.Prelude.{◌≡◌, ◌≤◌, ℕ, ℤ, List, [], ◌∷◌, length, replicate, Bool, true, false, ◌==◌, if◌then◌else◌, Option, Some, None}
use Rattle.vx_value.specs.Types.{DataType, bool, same_type}
use Rattle.vx_value.specs.Nullabilities.{with_nullability}
use Rattle.vx_value.specs.Values.{boolean}
use Rattle.vx_value.specs.Cell.{Cell, value}
use Rattle.vx_value.specs.declared.dtype.Nullability.{Nullability}
use Rattle.vx_value.specs.declared.dtype.Nullability.TheVariants.{NonNullable, Nullable}
use Rattle.vx_value.specs.declared.error.VortexError.{VortexError}
use Rattle.vx_value.specs.declared.error.VortexError.TheVariants.{InvalidArgument}
use Rattle.vx_value.specs.declared.error.ArgKind.TheVariants.{SlotType, SlotLen, BadType, BadValue}
use Rattle.vx_mask.specs.Masks.{is_all_true, is_all_false}
use Rattle.vx_value.specs.Storage.{storage_of}
use Rattle.vx_value.specs.declared.decimal.DecimalType.{DecimalType}
use Rattle.vx_tree.specs.ColumnTypes.{decimal_type, are_decimals_of, bytes_type, are_bytes_of}
use Rattle.vx_tree.specs.Conditions.{first_of_both, unless}
use Rattle.vx_tree.specs.Tree.{Tree, dtype, len, booleans, constant_of, slice_of}
use Rattle.vx_tree.specs.Cells.{rows}
use Rattle.vx_tree.specs.Keeps.{KeepsExactly}
use Rattle.vx_tree.specs.Well.{IsWell}
use Rattle.vx_tree.specs.declared.validity.Validity.{Validity}
use Rattle.vx_tree.specs.declared.validity.Validity.TheVariants as validity
pub use Rattle.vx_tree.specs.SlotValidities.{without_nulls, of_truth, of_data, validity_of}
use Rattle.vx_tree.specs.Views.{ViewedRows, rows_of}

-- the nullability of its column's type
abbrev pub nullability_by : Validity → Nullability
nullability_by validity.NonNullable = NonNullable
nullability_by _ = Nullable

-- n rows of one truth value
abbrev pub truths : Bool → ℕ → Tree
truths b n = constant_of (record { of_type = bool NonNullable; value = boolean b }) n

-- the tree of a validity in a column of n rows, None if no row is null
abbrev pub child_of : Validity → ℕ → Option Tree
child_of validity.AllInvalid n = Some (truths false n)
child_of (validity.Array t) n = Some t
child_of _ n = None

-- the tree of the validity of these bits, in its one form: row i is null if bit i is false
abbrev pub child_by : List Bool → Option Tree
child_by bits = if is_all_true bits then None else (if is_all_false bits then Some (truths false (length bits)) else Some (booleans bits))

-- the validity of a nullable column by its rows, in its one form
abbrev pub validity_by : List Bool → Validity
validity_by bits = if is_all_true bits then validity.AllValid else (if is_all_false bits then validity.AllInvalid else validity.Array (booleans bits))

-- the number of children that stand for it
abbrev pub count_children : Option Tree → ℕ
count_children None = 0
count_children (Some t) = 1

-- whether each of n rows isn't null
abbrev pub valid_rows : Validity → ℕ → List Cell
valid_rows validity.AllInvalid n = replicate n (value (boolean false))
valid_rows (validity.Array t) n = rows t
valid_rows _ n = replicate n (value (boolean true))

-- it is a validity of n rows
abbrev pub HasRows : Validity → ℕ → Type 0
HasRows (validity.Array t) n = IsWell t × (dtype t ≡ bool NonNullable) × (len t ≡ n)
HasRows _ n = Unit {0}

-- why it isn't a validity of n rows
abbrev pub array_refusal : ℕ → Validity → Option VortexError
array_refusal n (validity.Array t) =
    first_of_both (unless (same_type (dtype t) (bool NonNullable)) (InvalidArgument (SlotType 0))) (unless (len t == n) (InvalidArgument (SlotLen 0)))
array_refusal n _ = None

-- why no column of n values of the type `of_type` has the type ty and this validity
abbrev pub flat_refusal : DataType → DataType → ℕ → Validity → Option VortexError
flat_refusal of_type ty n v =
    first_of_both (unless (same_type ty (with_nullability (nullability_by v) of_type)) (InvalidArgument BadType)) (array_refusal n v)

-- why no column of decimals without their points, in integers of width w, has the type ty and this validity
abbrev pub decimal_refusal : DataType → DecimalType → List ℤ → Validity → Option VortexError
decimal_refusal ty w zs v =
    first_of_both (flat_refusal (decimal_type (storage_of ty)) ty (length zs) v) (unless (are_decimals_of (storage_of ty) w zs) (InvalidArgument BadValue))

-- why no column of these rows of bytes has the type ty and this validity
abbrev pub bytes_refusal : DataType → ViewedRows → Validity → Option VortexError
bytes_refusal ty rs v =
    first_of_both (flat_refusal (bytes_type (storage_of ty)) ty (length rs.views) v) (unless (are_bytes_of (storage_of ty) (rows_of rs)) (InvalidArgument BadValue))

-- the tree in a validity's slot for the rows from a to b
abbrev pub IsValidityPart : ℕ → ℕ → Option Tree → Option Tree → Type 0
IsValidityPart a b None w = w ≡ None
IsValidityPart a b (Some t) w = (u : Tree) × (w ≡ Some u) × KeepsExactly (slice_of a b t) u

-- the validity has the rows from a to b
abbrev pub HasRange : ℕ → ℕ → Option Tree → Type 0
HasRange a b None = Unit {0}
HasRange a b (Some t) = (a ≤ b) × (b ≤ len t)

-- each slot's tree has them
abbrev pub HaveRange : ℕ → ℕ → List (Option Tree) → Type 0
HaveRange a b [] = Unit {0}
HaveRange a b (t ∷ ts) = HasRange a b t × HaveRange a b ts
