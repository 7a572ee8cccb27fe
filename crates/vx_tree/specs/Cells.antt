-- What a tree means: a cell for each row.
use Rattle.std.specs.Prelude.{ℕ, List, [], ◌∷◌}
use Rattle.vx_value.specs.Types.{DataType}
use Rattle.vx_value.specs.Cell.{Cell, value, fault}
use Rattle.vx_tree.specs.Tree.{Tree, Data, Slots, node, no_slots, absent, slot, meaning}
use Rattle.vx_tree.specs.Shapes.{shapes, types_in}
pub use Rattle.vx_tree.specs.SlotCells.{cells_at, chained, row_at, valid_cell, valid_cells, shown_cell}

-- the cells of a node, from the types and the cells of its slots
abbrev pub node_cells : DataType → ℕ → Data → List DataType → List (List Cell) → List Cell
node_cells ty n d tys css = (meaning d).cells ty n tys css

abbrev mutual
  pub rows : Tree → List Cell
  rows (node ty n d ss) = node_cells ty n d (types_in (shapes ss)) (slots_rows ss)

  pub slots_rows : Slots → List (List Cell)
  slots_rows no_slots = []
  slots_rows (absent ss) = [] ∷ slots_rows ss
  slots_rows (slot t ss) = rows t ∷ slots_rows ss

-- none of these cells is a fault
abbrev pub HasNoFault : List Cell → Type 0
HasNoFault [] = Unit {0}
HasNoFault (value v ∷ cs) = HasNoFault cs
HasNoFault (fault ∷ cs) = ⊥

-- no node of the tree has a fault among its rows
abbrev mutual
  pub IsClean : Tree → Type 0
  IsClean (node ty n d ss) = HasNoFault (node_cells ty n d (types_in (shapes ss)) (slots_rows ss)) × AreClean ss

  pub AreClean : Slots → Type 0
  AreClean no_slots = Unit {0}
  AreClean (absent ss) = AreClean ss
  AreClean (slot t ss) = IsClean t × AreClean ss
