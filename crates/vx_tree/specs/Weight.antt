-- What bounds the rewrites of a tree.
use Rattle.std.specs.Prelude.{ℕ, List, [], ◌∷◌}
use Rattle.vx_tree.specs.Tree.{Tree, Data, Slots, node, no_slots, absent, slot}
use Rattle.vx_tree.specs.Cost.{charge}
pub use Rattle.vx_tree.specs.Charges.{total, excess, column_weight, times}

-- the weight of a node of n rows, from those of its slots
abbrev pub node_weight : ℕ → Data → List ℕ → ℕ
node_weight n d ws = (charge d).weight n ws

abbrev mutual
  pub weight : Tree → ℕ
  weight (node ty n d ss) = node_weight n d (slots_weights ss)

  pub slots_weights : Slots → List ℕ
  slots_weights no_slots = []
  slots_weights (absent ss) = slots_weights ss
  slots_weights (slot t ss) = weight t ∷ slots_weights ss
