-- Which rows of a tree are null, without reading them.
use Rattle.std.specs.Prelude.{◌≡◌, ℕ, Some, not, slice_get}
use Rattle.vx_value.specs.Types.{DataType, nullability_of}
use Rattle.vx_value.specs.Values.{Value, boolean}
use Rattle.vx_value.specs.Cell.{value}
use Rattle.vx_value.specs.IsOf.{is_null}
use Rattle.vx_value.specs.declared.dtype.Nullability.{Nullability}
use Rattle.vx_value.specs.declared.dtype.Nullability.TheVariants.{NonNullable, Nullable}
use Rattle.vx_tree.specs.Tree.{Tree, Data, Slots, node, slot, dtype, len, meaning}
use Rattle.vx_tree.specs.Cells.{rows, IsClean}
use Rattle.vx_tree.specs.Validities.{nullability_by, valid_rows, HasRows}
use Rattle.vx_tree.specs.declared.validity.Validity.{Validity}
use Rattle.vx_tree.specs.declared.validity.Validity.TheVariants as validity
pub use Rattle.vx_tree.specs.SlotValidities.{slot_tree, on_array}
pub use Rattle.vx_tree.specs.Tree.Constant.{constant_validity}
pub use Rattle.vx_tree.specs.Tree.Masked.{both_of, joined}

-- the validity of a nullable node, from that of its first slot's tree
abbrev pub data_validity : DataType → ℕ → Data → Slots → Validity → Validity
data_validity ty n d ss child = (meaning d).validity ty n ss child

-- v if the type is nullable; if it isn't, no row is null
abbrev pub if_nullable : Nullability → Validity → Validity
if_nullable NonNullable v = validity.NonNullable
if_nullable Nullable v = v

abbrev mutual
  -- the validity of a tree
  pub node_validity : Tree → Validity
  node_validity (node ty n d ss) = if_nullable (nullability_of ty) (data_validity ty n d ss (first_validity ss))

  -- that of the first slot's tree
  pub first_validity : Slots → Validity
  first_validity (slot t ss) = node_validity t
  first_validity _ = validity.NonNullable

-- the array of the validity, if it has one, is clean
abbrev pub IsCleanValidity : Validity → Type 0
IsCleanValidity (validity.Array u) = IsClean u
IsCleanValidity _ = Unit {0}

-- v is a validity of t's type and length; it says of each row that isn't a fault whether it is null; it is clean if t is
pub record IsValidityFor (t : Tree) (v : Validity) : Type 0 where
  pub nullable : nullability_by v ≡ nullability_of (dtype t)
  pub sized : HasRows v (len t)
  pub told : (i : ℕ) (w : Value) → slice_get (rows t) i ≡ Some (value w) → slice_get (valid_rows v (len t)) i ≡ Some (value (boolean (not (is_null w))))
  pub clean : IsClean t → IsCleanValidity v
