-- Filters: the rows of a child that a mask chooses.
use Rattle.std.specs.Prelude.{slice_get, ◌≡◌, ℕ, List, [], ◌∷◌, length, Bool, true, false, ◌==◌, Option, Some, codes}
use Rattle.vx_value.specs.Types.{DataType, same_type}
use Rattle.vx_value.specs.declared.error.VortexError.{VortexError}
use Rattle.vx_value.specs.declared.error.VortexError.TheVariants.{InvalidArgument}
use Rattle.vx_value.specs.declared.error.ArgKind.TheVariants.{NodeType, NodeLen, MaskLen}
use Rattle.vx_value.specs.declared.id.Id.TheVariants as id
use Rattle.vx_mask.specs.Places.{true_count, chosen}
use Rattle.vx_tree.specs.Tree.Nodes.{Tree, Data, node, no_slots, slot, dtype}
pub use Rattle.vx_tree.specs.Tree.Nodes.{filter}
use Rattle.vx_tree.specs.Conditions.{first_of_both, unless}
use Rattle.vx_tree.specs.Shapes.{shape}
use Rattle.vx_tree.specs.SlotCells.{cells_at}
use Rattle.vx_tree.specs.SlotRefusals.{of_child}
use Rattle.vx_tree.specs.SlotValidities.{on_array}
use Rattle.vx_tree.specs.Charges.{all, pushed_below, none_reached, scaled}
use Rattle.vx_tree.specs.Meanings.{Meaning}

-- the rows of t at the true bits
abbrev pub filter_of : List Bool → Tree → Tree
filter_of bits t = node (dtype t) (true_count bits) (filter bits) (slot t no_slots)

abbrev pub is_filter : Data → Bool
is_filter (filter bits) = true
is_filter _ = false

abbrev pub filter_refusal : DataType → ℕ → List Bool → DataType → ℕ → Option VortexError
filter_refusal ty n bits s m =
    first_of_both (unless (same_type ty s) (InvalidArgument NodeType))
    (first_of_both (unless (m == length bits) (InvalidArgument (MaskLen m (length bits)))) (unless (n == true_count bits) (InvalidArgument NodeLen)))

abbrev pub filter_meaning : List Bool → Meaning
filter_meaning bits = record {
  id = id.Filter;
  name = λ ty. slice_get (codes "child" ∷ []);
  IsNode = λ ty n ss. (ss ≡ Some (shape ty (length bits)) ∷ []) × (n ≡ true_count bits);
  refusal = λ i ty n ss. of_child (filter_refusal ty n bits) ss;
  cells = λ ty n tys css. chosen bits (cells_at css 0);
  validity = λ ty n ss child. on_array (filter_of bits) child;
  charge = record { own = 3; for_slot = pushed_below; left = 0; executed = all; extra = none_reached; weight = scaled 3 };
}
