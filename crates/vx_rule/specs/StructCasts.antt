-- Casts of the columns of a struct, field by field.
use Rattle.std.specs.Prelude.{◌≡◌, List, [], ◌∷◌, Option, Some, None, true}
use Rattle.vx_value.specs.Casts.{has_cast}
use Rattle.vx_value.specs.Supported.{has_columns}
use Rattle.vx_value.specs.View.{type_of}
use Rattle.vx_value.specs.declared.dtype.DType.{DType}
use Rattle.vx_value.specs.declared.nested.Field.{Field}
use Rattle.vx_tree.specs.Tree.{Tree, dtype, len}
use Rattle.vx_rule.specs.Builtins.{IsCastTo}

-- the slot holds a tree whose type has a cast to the target, which has columns
abbrev pub IsCastable : DType → Option Tree → Type 0
IsCastable target None = ⊥
IsCastable target (Some c) = (has_cast (dtype c) (type_of target) ≡ true) × (has_columns (type_of target) ≡ true)

-- the second slot holds the cast of the tree in the first
abbrev pub IsSlotCast : DType → Option Tree → Option Tree → Type 0
IsSlotCast target (Some c) (Some d) = IsCastTo (type_of target) (len c) c d
IsSlotCast target c d = ⊥

-- there is a column for each field, with a cast to its type
abbrev pub AreCastable : List Field → List (Option Tree) → Type 0
AreCastable [] [] = Unit {0}
AreCastable (f ∷ fs) (c ∷ cs) = IsCastable f.dtype c × AreCastable fs cs
AreCastable fs cs = ⊥

-- the casts of the first columns
abbrev pub AreFirstCast : List Field → List (Option Tree) → List (Option Tree) → Type 0
AreFirstCast fs cs [] = Unit {0}
AreFirstCast (f ∷ fs) (c ∷ cs) (d ∷ ds) = IsSlotCast f.dtype c d × AreFirstCast fs cs ds
AreFirstCast fs cs ds = ⊥

-- the casts of all columns, and nothing in the slot of the validity
abbrev pub AreFieldsCast : List Field → List (Option Tree) → List (Option Tree) → Type 0
AreFieldsCast [] [] (None ∷ []) = Unit {0}
AreFieldsCast (f ∷ fs) (c ∷ cs) (d ∷ ds) = IsSlotCast f.dtype c d × AreFieldsCast fs cs ds
AreFieldsCast fs cs ds = ⊥
