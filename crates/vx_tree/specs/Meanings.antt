-- What the data of a node mean.
use Rattle.std.specs.Prelude.{ℕ, List, [], ◌∷◌, slice_get, Option, codes}
use Rattle.vx_value.specs.Types.{DataType}
use Rattle.vx_value.specs.Cell.{Cell}
use Rattle.vx_value.specs.declared.dtype.Nullability.TheVariants.{Nullable}
use Rattle.vx_value.specs.declared.error.VortexError.{VortexError}
use Rattle.vx_value.specs.declared.id.Id.{Id}
use Rattle.vx_tree.specs.Tree.Nodes.{Slots}
use Rattle.vx_tree.specs.Shapes.{Shape}
use Rattle.vx_tree.specs.Charges.{Charge, column_charge}
use Rattle.vx_tree.specs.SlotCells.{cells_at, valid_cells}
use Rattle.vx_tree.specs.SlotValidities.{slot_tree, validity_of}
use Rattle.vx_tree.specs.declared.validity.Validity.{Validity}

-- of a node, from its type and its n rows
pub record Meaning : Type 1 where
  pub id : Id
  -- what slot i is called, from the type
  pub name : DataType → ℕ → Option (List ℕ)
  -- the conditions on the node, its slots' own apart
  pub IsNode : DataType → ℕ → List (Option Shape) → Type 0
  -- why no node is made under an id, None if one is
  pub refusal : Id → DataType → ℕ → List (Option Shape) → Option VortexError
  -- the cells, from the types and the cells of the slots
  pub cells : DataType → ℕ → List DataType → List (List Cell) → List Cell
  -- the validity, if the type is nullable, from that of the first slot's tree
  pub validity : DataType → ℕ → Slots → Validity → Validity
  pub charge : Charge

-- of a column, by the conditions, the refusal, and the cells of what it stores
abbrev pub column_meaning : Id → (DataType → ℕ → List (Option Shape) → Type 0) → (DataType → ℕ → List (Option Shape) → Option VortexError)
    → (DataType → List Cell) → Meaning
column_meaning i condition refused stored = record {
  id = i;
  name = λ ty. slice_get (codes "validity" ∷ []);
  IsNode = condition;
  refusal = λ i. refused;
  cells = λ ty n tys css. valid_cells (cells_at css 0) (stored ty);
  validity = λ ty n ss child. validity_of Nullable (slot_tree 0 ss);
  charge = column_charge;
}
