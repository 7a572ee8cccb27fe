-- Interleaved rows: pairs of indices name a tree and one of its rows.
use Rattle.std.specs.Prelude.{◌≡◌, ℕ, zero, suc, ◌++◌, List, [], ◌∷◌, drop, Bool, true, false, ◌==◌, Option, Some, None, codes}
use Rattle.std.specs.Fmt.{decimal}
use Rattle.vx_value.specs.Types as type
use Rattle.vx_value.specs.Types.{DataType}
use Rattle.vx_value.specs.declared.error.VortexError.{VortexError}
use Rattle.vx_value.specs.declared.error.VortexError.TheVariants.{InvalidArgument}
use Rattle.vx_value.specs.declared.error.ArgKind.TheVariants.{SlotCount, SlotType, SlotLen, NodeLen}
use Rattle.vx_value.specs.declared.id.Id.TheVariants as id
use Rattle.vx_tree.specs.Tree.Nodes.{Tree, Data, node, slot, filled_slots, dtype, len}
pub use Rattle.vx_tree.specs.Tree.Nodes.{interleave}
use Rattle.vx_tree.specs.Tree.ScalarFnValidity.{validity_in}
use Rattle.vx_tree.specs.Conditions.{first_of_both, unless}
use Rattle.vx_tree.specs.Shapes.{Shape, shape, shape_of, shapes}
use Rattle.vx_tree.specs.SlotCells.{cells_at}
use Rattle.vx_tree.specs.SlotTypes.{is_index, of_lengths, missing_refusal, type_refusal}
use Rattle.vx_tree.specs.Lookups.{paired_cells}
use Rattle.vx_tree.specs.Charges.{interleaved_charge}
use Rattle.vx_tree.specs.Meanings.{Meaning}
use Rattle.vx_tree.specs.declared.validity.Validity.TheVariants as validity

-- the type of the first tree; null if there is none
abbrev pub first_type : List Tree → DataType
first_type [] = type.null
first_type (t ∷ ts) = dtype t

-- the rows that the pairs of indices name: of which tree, and which row of it
abbrev pub interleave_of : Tree → Tree → List Tree → Tree
interleave_of arrays rows ts = node (first_type ts) (len arrays) interleave (slot arrays (slot rows (filled_slots ts)))

abbrev pub is_interleave : Data → Bool
is_interleave interleave = true
is_interleave _ = false

abbrev pub index_refusal : ℕ → DataType → Option VortexError
index_refusal i c = unless (is_index c) (InvalidArgument (SlotType i))

-- of slots that hold trees: n pairs of indices, and values of type ty
abbrev pub indices_refusal : DataType → ℕ → Option Shape → Option Shape → List (Option Shape) → Option VortexError
indices_refusal ty n (Some (shape c i)) (Some (shape d k)) vs =
    first_of_both (index_refusal 0 c)
    (first_of_both (index_refusal 1 d)
    (first_of_both (type_refusal ty 2 vs)
    (first_of_both (unless (k == i) (InvalidArgument (SlotLen 1))) (unless (n == i) (InvalidArgument NodeLen)))))
indices_refusal ty n _ _ vs = None

-- of slots, three or more, that hold trees
abbrev pub present_refusal : DataType → ℕ → List (Option Shape) → Option VortexError
present_refusal ty n (a ∷ r ∷ vs) = indices_refusal ty n a r vs
present_refusal ty n _ = None

abbrev pub interleave_refusal : DataType → ℕ → List (Option Shape) → Option VortexError
interleave_refusal ty n (a ∷ r ∷ v ∷ vs) = first_of_both (missing_refusal 0 (a ∷ r ∷ v ∷ vs)) (present_refusal ty n (a ∷ r ∷ v ∷ vs))
interleave_refusal ty n _ = Some (InvalidArgument SlotCount)

-- why these trees aren't interleaved
abbrev pub interleaved_refusal : Tree → Tree → List Tree → Option VortexError
interleaved_refusal arrays rows ts = interleave_refusal (first_type ts) (len arrays) (Some (shape_of arrays) ∷ Some (shape_of rows) ∷ shapes (filled_slots ts))

-- the slots of n interleaved rows: n pairs of indices, and one tree or more of the type
abbrev pub IsInterleave : DataType → ℕ → List (Option Shape) → Type 0
IsInterleave ty n ss =
    (c : DataType) × (d : DataType) × (m : ℕ) × (ms : List ℕ) × (ss ≡ Some (shape c n) ∷ Some (shape d n) ∷ of_lengths ty (m ∷ ms)) × (is_index c ≡ true)
    × (is_index d ≡ true)

abbrev pub interleave_name : ℕ → Option (List ℕ)
interleave_name zero = Some (codes "array_indices")
interleave_name (suc zero) = Some (codes "row_indices")
interleave_name (suc (suc i)) = Some (codes "value" ++ decimal i)

abbrev pub interleave_meaning : Meaning
interleave_meaning = record {
  id = id.Interleave;
  name = λ ty. interleave_name;
  IsNode = IsInterleave;
  refusal = λ i ty n ss. interleave_refusal ty n ss;
  cells = λ ty n tys css. paired_cells (drop 2 css) (cells_at css 0) (cells_at css 1);
  validity = λ ty n ss child. validity.Array (validity_in (node ty n interleave ss));
  charge = interleaved_charge;
}
