-- Why slots are refused: of a validity, of a column, of a node with one child or without slots.
use Rattle.std.specs.Prelude.{ℕ, List, [], ◌∷◌, Bool, ◌==◌, Option, Some, None}
use Rattle.vx_value.specs.Types as type
use Rattle.vx_value.specs.Types.{DataType, same_type, nullability_of}
use Rattle.vx_value.specs.Nullabilities.{same_but_nullability}
use Rattle.vx_value.specs.declared.dtype.Nullability.{Nullability}
use Rattle.vx_value.specs.declared.dtype.Nullability.TheVariants.{NonNullable, Nullable}
use Rattle.vx_value.specs.declared.error.VortexError.{VortexError}
use Rattle.vx_value.specs.declared.error.VortexError.TheVariants.{InvalidArgument}
use Rattle.vx_value.specs.declared.error.ArgKind.TheVariants.{SlotCount, SlotMissing, SlotType, SlotLen, NodeLen, BadType, BadValue}
use Rattle.vx_tree.specs.Shapes.{Shape, shape}
use Rattle.vx_tree.specs.Conditions.{first_of_both, unless}

-- of slot i, which holds a validity: its type, and its length
abbrev pub validity_type_refusal : ℕ → Nullability → Option Shape → Option VortexError
validity_type_refusal i m None = None
validity_type_refusal i NonNullable (Some s) = Some (InvalidArgument (SlotType i))
validity_type_refusal i Nullable (Some (shape s m)) = unless (same_type s (type.bool NonNullable)) (InvalidArgument (SlotType i))

abbrev pub validity_len_refusal : ℕ → ℕ → Option Shape → Option VortexError
validity_len_refusal i n None = None
validity_len_refusal i n (Some (shape s m)) = unless (m == n) (InvalidArgument (SlotLen i))

-- of a column of k values of the type, null only if the column's type is nullable
abbrev pub column_refusal : DataType → ℕ → DataType → ℕ → List (Option Shape) → Option VortexError
column_refusal ty n of_type k [] = Some (InvalidArgument SlotCount)
column_refusal ty n of_type k (s ∷ []) =
    first_of_both (unless (same_but_nullability ty of_type) (InvalidArgument BadType))
    (first_of_both (validity_type_refusal 0 (nullability_of ty) s)
    (first_of_both (unless (n == k) (InvalidArgument NodeLen)) (validity_len_refusal 0 n s)))
column_refusal ty n of_type k (s ∷ r ∷ ss) = Some (InvalidArgument SlotCount)

-- the same, then BadValue unless the values pass
abbrev pub tested_refusal : DataType → ℕ → DataType → ℕ → Bool → List (Option Shape) → Option VortexError
tested_refusal ty n of_type k pass ss = first_of_both (column_refusal ty n of_type k ss) (unless pass (InvalidArgument BadValue))

-- of a node without slots
abbrev pub without_slots : Option VortexError → List (Option Shape) → Option VortexError
without_slots later [] = later
without_slots later (s ∷ ss) = Some (InvalidArgument SlotCount)

-- of a node with one child, by the child's type and length
abbrev pub of_child : (DataType → ℕ → Option VortexError) → List (Option Shape) → Option VortexError
of_child later [] = Some (InvalidArgument SlotCount)
of_child later (None ∷ []) = Some (InvalidArgument (SlotMissing 0))
of_child later (Some (shape s m) ∷ []) = later s m
of_child later (s ∷ r ∷ ss) = Some (InvalidArgument SlotCount)
