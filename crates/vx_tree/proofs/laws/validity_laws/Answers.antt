use Rattle.vx_tree.proofs.ValiditiesLemmas.{told_back}
use Rattle.vx_tree.proofs.laws.validity_laws.Goals as goal

pub returns : goal.returns
returns c = told_back
