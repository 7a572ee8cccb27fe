-- Slices: consecutive rows of a child.
use Rattle.std.specs.Prelude.{slice_get, ◌≡◌, ◌≤◌, ℕ, ◌-◌, [], ◌∷◌, sum, take, drop, Bool, true, false, ◌==◌, ◌&&◌, nat_le, Option, Some, codes}
use Rattle.vx_value.specs.Types.{DataType, same_type}
use Rattle.vx_value.specs.declared.error.VortexError.{VortexError}
use Rattle.vx_value.specs.declared.error.VortexError.TheVariants.{InvalidArgument, OutOfBounds}
use Rattle.vx_value.specs.declared.error.ArgKind.TheVariants.{NodeType, NodeLen}
use Rattle.vx_value.specs.declared.id.Id.TheVariants as id
use Rattle.vx_tree.specs.Tree.Nodes.{Tree, Data, node, no_slots, slot, dtype}
pub use Rattle.vx_tree.specs.Tree.Nodes.{slice}
use Rattle.vx_tree.specs.Conditions.{first_of_both, unless}
use Rattle.vx_tree.specs.Shapes.{shape}
use Rattle.vx_tree.specs.SlotCells.{cells_at}
use Rattle.vx_tree.specs.SlotRefusals.{of_child}
use Rattle.vx_tree.specs.SlotValidities.{on_array}
use Rattle.vx_tree.specs.Charges.{all, pushed_below, scaled}
use Rattle.vx_tree.specs.Meanings.{Meaning}

-- the rows of t from a, inclusive, to b, exclusive
abbrev pub slice_of : ℕ → ℕ → Tree → Tree
slice_of a b t = node (dtype t) (b - a) (slice a b) (slot t no_slots)

abbrev pub is_slice : Data → Bool
is_slice (slice a b) = true
is_slice _ = false

abbrev pub slice_refusal : DataType → ℕ → ℕ → ℕ → DataType → ℕ → Option VortexError
slice_refusal ty n a b s m =
    first_of_both (unless (same_type ty s) (InvalidArgument NodeType))
    (first_of_both (unless (n == b - a) (InvalidArgument NodeLen)) (unless (nat_le a b && nat_le b m) (OutOfBounds a b m)))

abbrev pub slice_meaning : ℕ → ℕ → Meaning
slice_meaning a b = record {
  id = id.Slice;
  name = λ ty. slice_get (codes "child" ∷ []);
  IsNode = λ ty n ss. (m : ℕ) × (ss ≡ Some (shape ty m) ∷ []) × (a ≤ b) × (b ≤ m) × (n ≡ b - a);
  refusal = λ i ty n ss. of_child (slice_refusal ty n a b) ss;
  cells = λ ty n tys css. take (b - a) (drop a (cells_at css 0));
  validity = λ ty n ss child. on_array (slice_of a b) child;
  charge = record { own = 2; for_slot = pushed_below; left = 0; executed = all; extra = sum; weight = scaled 2 };
}
