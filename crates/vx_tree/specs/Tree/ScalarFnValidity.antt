-- Tests for null: whether each row of a child isn't null.
use Rattle.std.specs.Prelude.{slice_get, ◌≡◌, ℕ, [], ◌∷◌, map, Bool, true, false, ◌==◌, Option, Some, codes}
use Rattle.vx_value.specs.Types as type
use Rattle.vx_value.specs.Types.{DataType, same_type}
use Rattle.vx_value.specs.declared.dtype.Nullability.TheVariants.{NonNullable}
use Rattle.vx_value.specs.declared.error.VortexError.{VortexError}
use Rattle.vx_value.specs.declared.error.VortexError.TheVariants.{InvalidArgument}
use Rattle.vx_value.specs.declared.error.ArgKind.TheVariants.{NodeType, NodeLen}
use Rattle.vx_value.specs.declared.id.Id.TheVariants as id
use Rattle.vx_tree.specs.Tree.Nodes.{Tree, Data, node, no_slots, slot, len}
pub use Rattle.vx_tree.specs.Tree.Nodes.{is_valid}
use Rattle.vx_tree.specs.Conditions.{first_of_both, unless}
use Rattle.vx_tree.specs.Shapes.{shape}
use Rattle.vx_tree.specs.SlotCells.{cells_at, shown_cell}
use Rattle.vx_tree.specs.SlotRefusals.{of_child}
use Rattle.vx_tree.specs.Charges.{all, put_back, none_reached, added}
use Rattle.vx_tree.specs.Meanings.{Meaning}
use Rattle.vx_tree.specs.declared.validity.Validity.TheVariants as validity

-- whether each row of t isn't null
abbrev pub validity_in : Tree → Tree
validity_in t = node (type.bool NonNullable) (len t) is_valid (slot t no_slots)

abbrev pub is_validity : Data → Bool
is_validity is_valid = true
is_validity _ = false

abbrev pub validity_refusal : DataType → ℕ → DataType → ℕ → Option VortexError
validity_refusal ty n s m =
    first_of_both (unless (same_type ty (type.bool NonNullable)) (InvalidArgument NodeType)) (unless (n == m) (InvalidArgument NodeLen))

abbrev pub validity_meaning : Meaning
validity_meaning = record {
  id = id.ScalarFnValidity;
  name = λ ty. slice_get (codes "child" ∷ []);
  IsNode = λ ty n ss. (s : DataType) × (ss ≡ Some (shape s n) ∷ []) × (ty ≡ type.bool NonNullable);
  refusal = λ i ty n ss. of_child (validity_refusal ty n) ss;
  cells = λ ty n tys css. map shown_cell (cells_at css 0);
  validity = λ ty n ss child. validity.NonNullable;
  charge = record { own = 2; for_slot = put_back; left = 0; executed = all; extra = none_reached; weight = added 4 };
}
