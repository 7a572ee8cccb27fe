-- When one tree may stand for another.
use Rattle.std.specs.Prelude.{◌≡◌, List, [], ◌∷◌}
use Rattle.vx_tree.specs.Tree.{Tree, dtype, len}
use Rattle.vx_value.specs.Cell.{Cell, value, fault}
use Rattle.vx_tree.specs.Cells.{rows, IsClean}

-- if the first has a value, the second has it too
abbrev pub CellKeeps : Cell → Cell → Type 0
CellKeeps (value v) d = d ≡ value v
CellKeeps fault d = Unit {0}

abbrev pub RowsKeep : List Cell → List Cell → Type 0
RowsKeep [] [] = Unit {0}
RowsKeep [] (d ∷ ds) = ⊥
RowsKeep (c ∷ cs) [] = ⊥
RowsKeep (c ∷ cs) (d ∷ ds) = CellKeeps c d × RowsKeep cs ds

-- u may stand for t: no value is lost or changed, and no fault comes where none was
pub record Keeps (t u : Tree) : Type 0 where
  pub same_type : dtype t ≡ dtype u
  pub same_len : len t ≡ len u
  pub same_rows : RowsKeep (rows t) (rows u)
  pub still_clean : IsClean t → IsClean u

-- u stands for t exactly: it has just its cells, faults included
pub record KeepsExactly (t u : Tree) : Type 0 where
  pub keeps : Keeps t u
  pub equal : rows t ≡ rows u
