-- Each child of a node is lower than the node.
use Rattle.std.specs.Prelude.{◌≤◌, ◌+◌, List, [], ◌∷◌, Option, Some, None}
use Rattle.std.proofs.Common.{arith}
use Rattle.vx_tree.specs.Tree.Nodes.{Tree, slots_of, height, slots_height}
use Rattle.vx_tree.specs.declared.array.node.ArrayRef.TheShapes.{weighed-Node-slots-at-1}
use denote.Param.Weighed.{most}

pub below : (ss : List (Option Tree)) → most (weighed-Node-slots-at-1.weight Tree (λ t. height t + 1)) ss ≤ slots_height (slots_of ss) + 1
below [] = omega arith
below (None ∷ ss) = omega (arith, below ss)
below (Some t ∷ ss) = omega (arith, below ss)
