-- Columns of nulls.
use Rattle.std.specs.Prelude.{◌≡◌, ℕ, List, [], replicate, Bool, true, false, Option, None}
use Rattle.vx_value.specs.Types as type
use Rattle.vx_value.specs.Types.{DataType, same_type}
use Rattle.vx_value.specs.Values.{null}
use Rattle.vx_value.specs.Cell.{value}
use Rattle.vx_value.specs.declared.error.VortexError.{VortexError}
use Rattle.vx_value.specs.declared.error.VortexError.TheVariants.{InvalidArgument}
use Rattle.vx_value.specs.declared.error.ArgKind.TheVariants.{BadType}
use Rattle.vx_value.specs.declared.id.Id.TheVariants as id
use Rattle.vx_tree.specs.Tree.Nodes.{Tree, Data, node, no_slots}
pub use Rattle.vx_tree.specs.Tree.Nodes.{nulls}
use Rattle.vx_tree.specs.Conditions.{unless}
use Rattle.vx_tree.specs.Shapes.{Shape}
use Rattle.vx_tree.specs.SlotRefusals.{without_slots}
use Rattle.vx_tree.specs.Charges.{column_charge}
use Rattle.vx_tree.specs.Meanings.{Meaning}
use Rattle.vx_tree.specs.declared.validity.Validity.TheVariants as validity

-- n rows of type null
abbrev pub nulls_of : ℕ → Tree
nulls_of n = node type.null n nulls no_slots

abbrev pub is_nulls : Data → Bool
is_nulls nulls = true
is_nulls _ = false

abbrev pub nulls_refusal : DataType → List (Option Shape) → Option VortexError
nulls_refusal ty ss = without_slots (unless (same_type ty type.null) (InvalidArgument BadType)) ss

abbrev pub nulls_meaning : Meaning
nulls_meaning = record {
  id = id.Null;
  name = λ ty i. None;
  IsNode = λ ty n ss. (ty ≡ type.null) × (ss ≡ []);
  refusal = λ i ty n ss. nulls_refusal ty ss;
  cells = λ ty n tys css. replicate n (value null);
  validity = λ ty n ss child. validity.AllInvalid;
  charge = column_charge;
}
