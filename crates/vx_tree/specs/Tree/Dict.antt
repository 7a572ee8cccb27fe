-- Dictionaries: the values that codes name.
use Rattle.std.specs.Prelude.{◌≡◌, ℕ, List, [], ◌∷◌, slice_get, Bool, true, false, ◌==◌, Option, Some, None, codes}
use Rattle.vx_value.specs.Types.{DataType, same_type}
use Rattle.vx_value.specs.declared.error.VortexError.{VortexError}
use Rattle.vx_value.specs.declared.error.VortexError.TheVariants.{InvalidArgument}
use Rattle.vx_value.specs.declared.error.ArgKind.TheVariants.{SlotCount, SlotMissing, SlotType, NodeType, NodeLen}
use Rattle.vx_value.specs.declared.id.Id.TheVariants as id
use Rattle.vx_fn.specs.Meanings.{widen}
use Rattle.vx_tree.specs.Tree.Nodes.{Tree, Data, node, no_slots, slot, dtype, len}
pub use Rattle.vx_tree.specs.Tree.Nodes.{dict}
use Rattle.vx_tree.specs.Tree.ScalarFnValidity.{validity_in}
use Rattle.vx_tree.specs.Conditions.{first_of_both, unless}
use Rattle.vx_tree.specs.Shapes.{Shape, shape}
use Rattle.vx_tree.specs.SlotCells.{cells_at}
use Rattle.vx_tree.specs.SlotTypes.{is_integer}
use Rattle.vx_tree.specs.Lookups.{taken_cells}
use Rattle.vx_tree.specs.Charges.{product_charge}
use Rattle.vx_tree.specs.Meanings.{Meaning}
use Rattle.vx_tree.specs.declared.validity.Validity.TheVariants as validity

-- the values that the codes name, null if a code is
abbrev pub dict_of : Tree → Tree → Tree
dict_of codes values = node (widen (dtype codes) (dtype values)) (len codes) dict (slot codes (slot values no_slots))

abbrev pub is_dict : Data → Bool
is_dict dict = true
is_dict _ = false

-- why these codes name no values
abbrev pub codes_refusal : DataType → Option VortexError
codes_refusal c = unless (is_integer c) (InvalidArgument (SlotType 0))

-- of a dictionary's slots: n codes of type c, and values of type s
abbrev pub named_refusal : DataType → ℕ → DataType → ℕ → DataType → Option VortexError
named_refusal ty n c k s =
    first_of_both (codes_refusal c)
    (first_of_both (unless (same_type ty (widen c s)) (InvalidArgument NodeType)) (unless (n == k) (InvalidArgument NodeLen)))

abbrev pub pair_refusal : DataType → ℕ → Option Shape → Option Shape → Option VortexError
pair_refusal ty n None v = Some (InvalidArgument (SlotMissing 0))
pair_refusal ty n (Some c) None = Some (InvalidArgument (SlotMissing 1))
pair_refusal ty n (Some (shape c k)) (Some (shape s m)) = named_refusal ty n c k s

abbrev pub dict_refusal : DataType → ℕ → List (Option Shape) → Option VortexError
dict_refusal ty n (c ∷ v ∷ []) = pair_refusal ty n c v
dict_refusal ty n _ = Some (InvalidArgument SlotCount)

-- the slots of a dictionary: n codes, and any number of values
abbrev pub IsDict : DataType → ℕ → List (Option Shape) → Type 0
IsDict ty n ss = (c : DataType) × (s : DataType) × (k : ℕ) × (ss ≡ Some (shape c n) ∷ Some (shape s k) ∷ []) × (is_integer c ≡ true) × (ty ≡ widen c s)

abbrev pub dict_meaning : Meaning
dict_meaning = record {
  id = id.Dict;
  name = λ ty. slice_get (codes "codes" ∷ codes "values" ∷ []);
  IsNode = IsDict;
  refusal = λ i ty n ss. dict_refusal ty n ss;
  cells = λ ty n tys css. taken_cells (cells_at css 0) (cells_at css 1);
  validity = λ ty n ss child. validity.Array (validity_in (node ty n dict ss));
  charge = product_charge;
}
