-- The validity of a column with more of its rows made null.
use Rattle.std.specs.Prelude.{◌≡◌, ◌∷◌, [], ℕ, List, length, Option, Some, None}
use Rattle.vx_value.specs.Cell.{Cell}
use Rattle.vx_tree.specs.Tree.{Tree, slots_of}
use Rattle.vx_tree.specs.Cells.{valid_cells, AreClean}
use Rattle.vx_tree.specs.Validities.{HasRows}
use Rattle.vx_tree.specs.declared.validity.Validity.TheVariants.{Array}
use Rattle.vx_column.specs.Nulls.{validity_cells}

-- the validity, if there is one, has n rows
abbrev pub TellsAll : ℕ → Option Tree → Type 0
TellsAll n None = Unit {0}
TellsAll n (Some t) = HasRows (Array t) n

-- w makes those of n rows null that u or v makes null, and has a fault only if one of them has
pub record IsBoth (n : ℕ) (u v w : Option Tree) : Type 0 where
  pub told : (cs : List Cell) → length cs ≡ n → valid_cells (validity_cells v) (valid_cells (validity_cells u) cs) ≡ valid_cells (validity_cells w) cs
  pub clean : AreClean (slots_of (u ∷ [])) → AreClean (slots_of (v ∷ [])) → AreClean (slots_of (w ∷ []))
