-- Columns of extension types: the column of the storage.
use Rattle.std.specs.Prelude.{◌≡◌, ℕ, List, [], ◌∷◌, Bool, true, false, ◌==◌, Option, Some, codes, slice_get}
use Rattle.vx_value.specs.Types as type
use Rattle.vx_value.specs.Types.{DataType, same_type}
use Rattle.vx_value.specs.Nested.{is_id}
use Rattle.vx_value.specs.Cell.{Cell, fault}
use Rattle.vx_value.specs.declared.error.VortexError.{VortexError}
use Rattle.vx_value.specs.declared.error.VortexError.TheVariants.{InvalidArgument}
use Rattle.vx_value.specs.declared.error.ArgKind.TheVariants.{SlotType, BadType, NodeLen}
use Rattle.vx_value.specs.declared.id.Id.TheVariants as id
use Rattle.vx_tree.specs.Tree.Nodes.{Tree, Data, node, slot, no_slots, dtype, len, composed}
use Rattle.vx_tree.specs.Conditions.{first_of_both, unless}
use Rattle.vx_tree.specs.Shapes.{Shape, shape}
use Rattle.vx_tree.specs.SlotRefusals.{of_child}
use Rattle.vx_tree.specs.Layouts.{LayoutMeaning}
use Rattle.vx_tree.specs.declared.array.layout.Layout.TheVariants as layout

abbrev pub is_extension : Data → Bool
is_extension (composed layout.Extension) = true
is_extension _ = false

-- the slot of n rows
abbrev pub IsExtension : DataType → ℕ → List (Option Shape) → Type 0
IsExtension ty n ss = (id : List ℕ) × (s : DataType) × (ty ≡ type.extension id s) × (ss ≡ Some (shape s n) ∷ [])

-- the column of extension type `id` that is stored as t
abbrev pub extension_of : List ℕ → Tree → Tree
extension_of id t = node (type.extension id (dtype t)) (len t) (composed layout.Extension) (slot t no_slots)

-- no extension has this id
abbrev pub id_refusal : List ℕ → Option VortexError
id_refusal id = unless (is_id id) (InvalidArgument BadType)

-- of a column, by the shape of its storage
abbrev pub stored_refusal : DataType → ℕ → Shape → Option VortexError
stored_refusal (type.extension id t) n (shape s k) =
    first_of_both (unless (same_type s t) (InvalidArgument (SlotType 0))) (unless (n == k) (InvalidArgument NodeLen))
stored_refusal _ n s = Some (InvalidArgument BadType)

-- a row: the storage's
abbrev pub extension_row : List (List Cell) → Cell
extension_row ((c ∷ cs) ∷ css) = c
extension_row _ = fault

abbrev pub extension_layout : LayoutMeaning
extension_layout = record {
  id = id.Extension;
  name = λ ty. slice_get (codes "storage" ∷ []);
  IsNode = IsExtension;
  refusal = λ ty n ss. of_child (λ s k. stored_refusal ty n (shape s k)) ss;
  row = extension_row;
  validity = λ ss child. child;
}
