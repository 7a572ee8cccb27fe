-- A column's rows at the true bits of a mask: what they store, and their validity.
use Rattle.std.specs.Prelude.{◌≡◌, ◌∷◌, [], Bool, List, length, Option}
use Rattle.vx_value.specs.Cell.{Cell}
use Rattle.vx_mask.specs.Places.{chosen}
use Rattle.vx_tree.specs.Tree as enc
use Rattle.vx_tree.specs.Tree.{Tree, Data, slots_of}
use Rattle.vx_tree.specs.Cells.{valid_cells, AreClean}
use Rattle.vx_tree.specs.Views.{viewed_choice}
use Rattle.vx_column.specs.Nulls.{validity_cells}

-- data that hold their rows themselves, of the rows at the true bits: a line for each such encoding
abbrev pub chosen_data : List Bool → Data → Data
chosen_data bits (enc.bool bs) = enc.bool (chosen bits bs)
chosen_data bits (enc.primitive p zs) = enc.primitive p (chosen bits zs)
chosen_data bits (enc.decimals w zs) = enc.decimals w (chosen bits zs)
chosen_data bits (enc.views rs) = enc.views (viewed_choice bits rs)
chosen_data bits d = d

-- w says of the chosen rows what v says of all rows, and has a fault only if v has one
pub record IsChoice (bits : List Bool) (v w : Option Tree) : Type 0 where
  pub told : (cs : List Cell) → length cs ≡ length bits
      → chosen bits (valid_cells (validity_cells v) cs) ≡ valid_cells (validity_cells w) (chosen bits cs)
  pub clean : AreClean (slots_of (v ∷ [])) → AreClean (slots_of (w ∷ []))
