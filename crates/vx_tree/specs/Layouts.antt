-- Columns of nested types: the slots hold the columns of the parts, and each row is made of the parts' rows.
use Rattle.std.specs.Prelude.{ℕ, zero, suc, List, [], ◌∷◌, map, take, drop, Option}
use Rattle.vx_value.specs.Types.{DataType}
use Rattle.vx_value.specs.Cell.{Cell}
use Rattle.vx_value.specs.declared.error.VortexError.{VortexError}
use Rattle.vx_value.specs.declared.id.Id.{Id}
use Rattle.vx_tree.specs.Tree.Nodes.{Slots}
use Rattle.vx_tree.specs.Shapes.{Shape}
use Rattle.vx_tree.specs.declared.validity.Validity.{Validity}

-- the first row of each slot: one cell, or none if the slot is absent
abbrev pub heads : List (List Cell) → List (List Cell)
heads css = map (take 1) css

-- the rows after it
abbrev pub tails : List (List Cell) → List (List Cell)
tails css = map (drop 1) css

-- n rows, each made of the cells of the slots in it
abbrev pub row_by_row : (List (List Cell) → Cell) → ℕ → List (List Cell) → List Cell
row_by_row made zero css = []
row_by_row made (suc n) css = made (heads css) ∷ row_by_row made n (tails css)

-- what a layout means, from the column's type and its n rows
pub record LayoutMeaning : Type 1 where
  pub id : Id
  -- what slot i is called
  pub name : DataType → ℕ → Option (List ℕ)
  -- the conditions on the node, its slots' own apart
  pub IsNode : DataType → ℕ → List (Option Shape) → Type 0
  -- why no node is made, None if one is
  pub refusal : DataType → ℕ → List (Option Shape) → Option VortexError
  -- a row, from the cells of the slots in it
  pub row : List (List Cell) → Cell
  -- the validity, if the type is nullable, from that of the first slot's tree
  pub validity : Slots → Validity → Validity
