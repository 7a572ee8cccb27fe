use Rattle.vx_tree.proofs.WeightLemmas.{weight_low, cost_weight, put_lighter}
use Rattle.vx_tree.proofs.laws.weight_laws.Goals as goal

pub returns-clause-least : goal.returns-clause-least
returns-clause-least c = weight_low

pub returns-clause-turns : goal.returns-clause-turns
returns-clause-turns c = cost_weight

pub returns-clause-in_slot : goal.returns-clause-in_slot
returns-clause-in_slot c = put_lighter
