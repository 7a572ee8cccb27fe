-- The validity that a slot stands for, and what is built from one.
use Rattle.std.specs.Prelude.{ℕ, zero, suc, true, false, Option, Some, None}
use Rattle.vx_value.specs.Values.{Value, boolean}
use Rattle.vx_value.specs.declared.dtype.Nullability.{Nullability}
use Rattle.vx_value.specs.declared.dtype.Nullability.TheVariants.{NonNullable, Nullable}
use Rattle.vx_tree.specs.Tree.Nodes.{Tree, Data, constant, Slots, no_slots, absent, slot, datum}
use Rattle.vx_tree.specs.declared.validity.Validity.{Validity}
use Rattle.vx_tree.specs.declared.validity.Validity.TheVariants as validity

-- the tree in slot i, if there is one
abbrev pub slot_tree : ℕ → Slots → Option Tree
slot_tree i no_slots = None
slot_tree zero (absent ss) = None
slot_tree zero (slot t ss) = Some t
slot_tree (suc i) (absent ss) = slot_tree i ss
slot_tree (suc i) (slot t ss) = slot_tree i ss

-- the validity of a column of this nullability that has no nulls
abbrev pub without_nulls : Nullability → Validity
without_nulls NonNullable = validity.NonNullable
without_nulls Nullable = validity.AllValid

-- the validity that a child stands for: a constant is read back
abbrev pub of_truth : Value → Tree → Validity
of_truth (boolean true) t = validity.AllValid
of_truth (boolean false) t = validity.AllInvalid
of_truth v t = validity.Array t

abbrev pub of_data : Data → Tree → Validity
of_data (constant v) t = of_truth v.value t
of_data d t = validity.Array t

abbrev pub validity_of : Nullability → Option Tree → Validity
validity_of m None = without_nulls m
validity_of m (Some t) = of_data (datum t) t

-- the validity with f applied to its array, if it has one
abbrev pub on_array : (Tree → Tree) → Validity → Validity
on_array f (validity.Array t) = validity.Array (f t)
on_array f v = v
