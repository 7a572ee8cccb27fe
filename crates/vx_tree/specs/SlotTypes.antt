-- Types of slots: of the indices that look rows up, and of slots that must share one type.
use Rattle.std.specs.Prelude.{ℕ, ◌+◌, List, [], ◌∷◌, map, Bool, true, false, Option, Some, None}
use Rattle.vx_value.specs.Types as type
use Rattle.vx_value.specs.Types.{DataType, same_type}
use Rattle.vx_value.specs.declared.dtype.Nullability.TheVariants.{NonNullable}
use Rattle.vx_value.specs.declared.error.VortexError.{VortexError}
use Rattle.vx_value.specs.declared.error.VortexError.TheVariants.{InvalidArgument}
use Rattle.vx_value.specs.declared.error.ArgKind.TheVariants.{SlotMissing, SlotType}
use Rattle.vx_tree.specs.Conditions.{first_of_both, unless}
use Rattle.vx_tree.specs.Shapes.{Shape, shape}
use Rattle.vx_tree.specs.Tree.Nodes.{Tree, dtype, len}

-- integers of any width, nullable or not
abbrev pub is_integer : DataType → Bool
is_integer (type.primitive p m) = true
is_integer _ = false

-- integers of any width, never null
abbrev pub is_index : DataType → Bool
is_index (type.primitive p NonNullable) = true
is_index _ = false

-- slots that hold trees of one type, of these lengths
abbrev pub of_lengths : DataType → List ℕ → List (Option Shape)
of_lengths ty ms = map (λ m. Some (shape ty m)) ms

-- the lengths of the trees in the slots
abbrev pub lengths_in : List (Option Shape) → List ℕ
lengths_in [] = []
lengths_in (None ∷ ss) = lengths_in ss
lengths_in (Some (shape s m) ∷ ss) = m ∷ lengths_in ss

-- ---- of one slot

-- it holds no tree, or one of the type
abbrev pub has_type : DataType → Option Tree → Bool
has_type ty None = true
has_type ty (Some t) = same_type (dtype t) ty

-- the rows of its tree, 0 if it holds none
abbrev pub rows_in : Option Tree → ℕ
rows_in None = 0
rows_in (Some t) = len t

-- ---- of slots from the kth on

-- the first that holds no tree
abbrev pub missing_refusal : ℕ → List (Option Shape) → Option VortexError
missing_refusal k [] = None
missing_refusal k (None ∷ ss) = Some (InvalidArgument (SlotMissing k))
missing_refusal k (Some s ∷ ss) = missing_refusal (k + 1) ss

-- the first whose tree has another type
abbrev pub type_refusal : DataType → ℕ → List (Option Shape) → Option VortexError
type_refusal ty k [] = None
type_refusal ty k (None ∷ ss) = type_refusal ty (k + 1) ss
type_refusal ty k (Some (shape s m) ∷ ss) = first_of_both (unless (same_type s ty) (InvalidArgument (SlotType k))) (type_refusal ty (k + 1) ss)
