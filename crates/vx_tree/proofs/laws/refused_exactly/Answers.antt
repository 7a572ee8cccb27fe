use Rattle.vx_tree.specs.Tree.{id_of}
use Rattle.vx_tree.proofs.RefusedExactlyLemmas.{node_unless_refused, refused_unless_node}
use Rattle.vx_tree.proofs.laws.refused_exactly.Goals as goal

pub returns : goal.returns
returns c = λ ty n d ss. (node_unless_refused (id_of d) ty n d ss, refused_unless_node ty n d ss)
