-- Which trees are executed exactly, and what an execution keeps of a tree.
use Rattle.std.specs.Prelude.{◌≡◌, Bool, true}
use Rattle.vx_value.specs.Types.{DataType}
use Rattle.vx_tree.specs.Tree.{Tree, Slots, node, no_slots, absent, slot, is_masked}
use Rattle.vx_tree.specs.Cells.{rows}
use Rattle.vx_tree.specs.Keeps.{Keeps}

-- whether a masked array of the type is executed with just its cells, faults included: each type's is so far
abbrev pub is_exact : DataType → Bool
is_exact ty = true

-- each masked node of the tree is executed with just its cells
abbrev mutual
  pub IsFirm : Tree → Type 0
  IsFirm (node ty n d ss) = (is_masked d ≡ true → is_exact ty ≡ true) × AreFirm ss

  pub AreFirm : Slots → Type 0
  AreFirm no_slots = Unit {0}
  AreFirm (absent ss) = AreFirm ss
  AreFirm (slot t ss) = IsFirm t × AreFirm ss

-- u may stand for t; if t is firm, u is firm too and has just its cells, faults included
pub record KeepsFirmly (t u : Tree) : Type 0 where
  pub keeps : Keeps t u
  pub still_firm : IsFirm t → IsFirm u
  pub equal : IsFirm t → rows t ≡ rows u
