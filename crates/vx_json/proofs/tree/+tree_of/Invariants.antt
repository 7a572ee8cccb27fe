use Rattle.std.proofs.Common.{◌+◌, ◌*◌, ◌≡◌, ◌≤◌, length, vec_len, vec_capacity}
use Rattle.serde_json.specs.View.{view, items_view}
use Rattle.serde_json.specs.Data.{depth, items_depth}
use Rattle.vx_json.specs.Spelled.{tree_spelled}
use Rattle.vx_json.proofs.SpelledValuesLemmas.{IsReadTo}
use Rattle.vx_json.proofs.tree.+tree_of.Given as goal

abbrev pub decreases-tree_of : goal.decreases-tree_of
decreases-tree_of l = 3 * depth (view l.value.now) + 2

abbrev pub decreases-node : goal.decreases-node
decreases-node l = 3 * depth (view l.value.now) + 1

abbrev pub decreases-trees_of : goal.decreases-trees_of
decreases-trees_of l = 3 * items_depth (items_view l.list.now.items) + 3

-- the trees so far, and then those of the values that are left, for which there is room
abbrev pub invariant-trees_of-loop-value : goal.invariant-trees_of-loop-value
invariant-trees_of-loop-value l = record {
  counted : vec_len l.trees ≡ l.value-index;
  room : length l.list.items ≤ vec_capacity l.trees;
  read : IsReadTo tree_spelled l.list.items l.value-index l.trees.items;
}

abbrev pub decreases-children : goal.decreases-children
decreases-children l = 3 * depth (view l.value.now)

abbrev pub decreases-child : goal.decreases-child
decreases-child l = 3 * depth (view l.value.now)

abbrev pub decreases-nulls : goal.decreases-nulls
decreases-nulls l = 3 * depth (view l.value.now)
