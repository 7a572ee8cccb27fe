-- Masked arrays: the rows of a child, null where a validity says so.
use Rattle.std.specs.Prelude.{slice_get, ◌≡◌, ℕ, List, [], ◌∷◌, Bool, true, false, ◌==◌, Option, Some, None, codes}
use Rattle.vx_value.specs.Types.{DataType, bool, same_type}
use Rattle.vx_value.specs.Nullabilities.{with_nullability}
use Rattle.vx_value.specs.declared.dtype.Nullability.TheVariants.{NonNullable, Nullable}
use Rattle.vx_value.specs.declared.error.VortexError.{VortexError}
use Rattle.vx_value.specs.declared.error.VortexError.TheVariants.{InvalidArgument}
use Rattle.vx_value.specs.declared.error.ArgKind.TheVariants.{SlotCount, SlotMissing, NodeType, NodeLen}
use Rattle.vx_value.specs.declared.id.Id.TheVariants as id
use Rattle.vx_fn.specs.declared.function.Operator.TheVariants.{And}
use Rattle.vx_fn.specs.declared.function.ScalarFnRef.TheVariants.{Binary}
use Rattle.vx_tree.specs.Tree.Nodes.{Tree, Data, node, slots_of, dtype, len}
pub use Rattle.vx_tree.specs.Tree.Nodes.{masked}
use Rattle.vx_tree.specs.Tree.ScalarFn.{call_of}
use Rattle.vx_tree.specs.Conditions.{first_of_both, unless}
use Rattle.vx_tree.specs.Shapes.{Shape, shape, IsValidity}
use Rattle.vx_tree.specs.SlotCells.{cells_at, valid_cells}
use Rattle.vx_tree.specs.SlotRefusals.{validity_type_refusal, validity_len_refusal}
use Rattle.vx_tree.specs.SlotValidities.{slot_tree, validity_of}
use Rattle.vx_tree.specs.Charges.{first, put_back, all_reached, added}
use Rattle.vx_tree.specs.Meanings.{Meaning}
use Rattle.vx_tree.specs.declared.validity.Validity.{Validity}
use Rattle.vx_tree.specs.declared.validity.Validity.TheVariants as validity

-- the rows of t, null where the validity says so; if it is absent, none is made null
abbrev pub masked_of : Tree → Option Tree → Tree
masked_of t validity = node (with_nullability Nullable (dtype t)) (len t) masked (slots_of (Some t ∷ validity ∷ []))

abbrev pub is_masked : Data → Bool
is_masked masked = true
is_masked _ = false

-- the slots of a masked node: n rows of a type, and their validity
abbrev pub IsMasked : DataType → ℕ → List (Option Shape) → Type 0
IsMasked ty n ss = (s : DataType) × (v : Option Shape) × (ss ≡ Some (shape s n) ∷ v ∷ []) × (ty ≡ with_nullability Nullable s) × IsValidity Nullable n v

-- of a masked array: its child, and its validity in slot 1
abbrev pub mask_refusal : DataType → ℕ → Option Shape → Option Shape → Option VortexError
mask_refusal ty n None v = Some (InvalidArgument (SlotMissing 0))
mask_refusal ty n (Some (shape s m)) v =
    first_of_both (unless (same_type ty (with_nullability Nullable s)) (InvalidArgument NodeType))
    (first_of_both (validity_type_refusal 1 Nullable v)
    (first_of_both (unless (n == m) (InvalidArgument NodeLen)) (validity_len_refusal 1 n v)))

abbrev pub masked_refusal : DataType → ℕ → List (Option Shape) → Option VortexError
masked_refusal ty n (c ∷ v ∷ []) = mask_refusal ty n c v
masked_refusal ty n _ = Some (InvalidArgument SlotCount)

-- the conjunction of two trees of n booleans
abbrev pub both_of : ℕ → Tree → Tree → Tree
both_of n t u = call_of (Binary And) (bool NonNullable) n (t ∷ u ∷ [])

-- the validity of n rows that are null if either says so
abbrev pub joined : ℕ → Validity → Validity → Validity
joined n validity.AllInvalid w = validity.AllInvalid
joined n v validity.AllInvalid = validity.AllInvalid
joined n (validity.Array t) (validity.Array u) = validity.Array (both_of n t u)
joined n (validity.Array t) w = validity.Array t
joined n v (validity.Array u) = validity.Array u
joined n v w = validity.AllValid

abbrev pub masked_meaning : Meaning
masked_meaning = record {
  id = id.Masked;
  name = λ ty. slice_get (codes "child" ∷ codes "validity" ∷ []);
  IsNode = IsMasked;
  refusal = λ i ty n ss. masked_refusal ty n ss;
  cells = λ ty n tys css. valid_cells (cells_at css 1) (cells_at css 0);
  validity = λ ty n ss child. joined n (validity_of Nullable (slot_tree 1 ss)) child;
  charge = record { own = 3; for_slot = put_back; left = 0; executed = first; extra = all_reached; weight = added 8 };
}
