-- Constants: rows of one value.
use Rattle.std.specs.Prelude.{◌≡◌, ℕ, List, [], replicate, Bool, true, false, Option, None}
use Rattle.vx_value.specs.Types.{DataType, same_type}
use Rattle.vx_value.specs.Values.{Value, null}
use Rattle.vx_value.specs.Cell.{value}
use Rattle.vx_value.specs.IsOf.{is_of}
use Rattle.vx_value.specs.Typed.{Typed}
use Rattle.vx_value.specs.declared.error.VortexError.{VortexError}
use Rattle.vx_value.specs.declared.error.VortexError.TheVariants.{InvalidArgument}
use Rattle.vx_value.specs.declared.error.ArgKind.TheVariants.{NodeType, BadValue}
use Rattle.vx_value.specs.declared.id.Id.TheVariants as id
use Rattle.vx_tree.specs.Tree.Nodes.{Tree, Data, node, no_slots}
pub use Rattle.vx_tree.specs.Tree.Nodes.{constant}
use Rattle.vx_tree.specs.Conditions.{first_of_both, unless}
use Rattle.vx_tree.specs.Shapes.{Shape}
use Rattle.vx_tree.specs.SlotRefusals.{without_slots}
use Rattle.vx_tree.specs.Charges.{none, put_back, none_reached, added}
use Rattle.vx_tree.specs.Meanings.{Meaning}
use Rattle.vx_tree.specs.declared.validity.Validity.{Validity}
use Rattle.vx_tree.specs.declared.validity.Validity.TheVariants as validity

-- n rows of one value
abbrev pub constant_of : Typed → ℕ → Tree
constant_of v n = node v.of_type n (constant v) no_slots

abbrev pub is_constant : Data → Bool
is_constant (constant v) = true
is_constant _ = false

abbrev pub constant_refusal : DataType → Typed → List (Option Shape) → Option VortexError
constant_refusal ty v ss =
    without_slots (first_of_both (unless (same_type ty v.of_type) (InvalidArgument NodeType)) (unless (is_of ty v.value) (InvalidArgument BadValue))) ss

-- the validity of a nullable constant
abbrev pub constant_validity : Value → Validity
constant_validity null = validity.AllInvalid
constant_validity v = validity.AllValid

abbrev pub constant_meaning : Typed → Meaning
constant_meaning v = record {
  id = id.Constant;
  name = λ ty i. None;
  IsNode = λ ty n ss. (ty ≡ v.of_type) × (is_of ty v.value ≡ true) × (ss ≡ []);
  refusal = λ i ty n ss. constant_refusal ty v ss;
  cells = λ ty n tys css. replicate n (value v.value);
  validity = λ ty n ss child. constant_validity v.value;
  charge = record { own = 2; for_slot = put_back; left = 0; executed = none; extra = none_reached; weight = added 3 };
}
