-- What the conditions on a node see of its slots.
use Rattle.std.specs.Prelude.{◌≡◌, ℕ, List, [], ◌∷◌, Option, Some, None}
use Rattle.vx_value.specs.Types as type
use Rattle.vx_value.specs.Types.{DataType, nullability_of}
use Rattle.vx_value.specs.Nullabilities.{with_nullability}
use Rattle.vx_value.specs.declared.dtype.Nullability.{Nullability}
use Rattle.vx_value.specs.declared.dtype.Nullability.TheVariants.{NonNullable, Nullable}
use Rattle.vx_tree.specs.Tree.Nodes.{Tree, Slots, no_slots, absent, slot, dtype, len}

-- the type and length of a slot's tree
pub data Shape : Type 0 where
  shape : DataType → ℕ → Shape

abbrev pub shape_of : Tree → Shape
shape_of t = shape (dtype t) (len t)

abbrev pub shapes : Slots → List (Option Shape)
shapes no_slots = []
shapes (absent ss) = None ∷ shapes ss
shapes (slot t ss) = Some (shape_of t) ∷ shapes ss

-- the types of the slots that hold trees
abbrev pub types_in : List (Option Shape) → List DataType
types_in [] = []
types_in (None ∷ ss) = types_in ss
types_in (Some (shape s m) ∷ ss) = s ∷ types_in ss

-- the slot of a column's validity: absent if no row is null, or in a nullable column a tree of as many booleans as it has rows
abbrev pub IsValidity : Nullability → ℕ → Option Shape → Type 0
IsValidity m n None = Unit {0}
IsValidity NonNullable n (Some s) = ⊥
IsValidity Nullable n (Some s) = s ≡ shape (type.bool NonNullable) n

-- a column of k values of the type, null only if the column's type is nullable
abbrev pub IsFlat : DataType → ℕ → DataType → ℕ → List (Option Shape) → Type 0
IsFlat of_type k ty n ss =
    (v : Option Shape) × (ty ≡ with_nullability (nullability_of ty) of_type) × (n ≡ k) × (ss ≡ v ∷ []) × IsValidity (nullability_of ty) n v
