use Rattle.vx_tree.proofs.NodeValiditiesLemmas.{told_by_node}
use Rattle.vx_tree.proofs.laws.node_validity_laws.Goals as goal

pub returns : goal.returns
returns c = told_by_node
