-- Which trees are well formed: the invariant of an `ArrayRef`.
use Rattle.std.specs.Prelude.{ℕ, List, Option, ◌≡◌, true}
use Rattle.vx_value.specs.Types.{DataType}
use Rattle.vx_tree.specs.Tree.{Tree, dtype, Data, Slots, node, no_slots, absent, slot, meaning}
use Rattle.vx_value.specs.Supported.{has_columns}
pub use Rattle.vx_tree.specs.Shapes.{Shape, shape, shape_of, shapes, IsValidity, IsFlat}

-- the conditions on a node, its slots' own apart
abbrev pub IsNode : DataType → ℕ → Data → List (Option Shape) → Type 0
IsNode ty n d ss = (meaning d).IsNode ty n ss

-- the same of a tree's root
abbrev pub IsNodeOf : Tree → Type 0
IsNodeOf (node ty n d ss) = IsNode ty n d (shapes ss)

abbrev mutual
  pub IsWell : Tree → Type 0
  IsWell (node ty n d ss) = IsNode ty n d (shapes ss) × AreWell ss

  pub AreWell : Slots → Type 0
  AreWell no_slots = Unit {0}
  AreWell (absent ss) = AreWell ss
  AreWell (slot t ss) = IsWell t × AreWell ss

-- the invariant of an array
abbrev pub IsTree : Tree → Type 0
IsTree t = IsWell t × has_columns (dtype t) ≡ true
