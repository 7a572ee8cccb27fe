use Rattle.vx_tree.specs.Weight.{weight}
use Rattle.vx_rule.proofs.WeighingsLemmas.{answered_total}
use Rattle.vx_rule.proofs.spent.Spent.answered.Goals as goal

pub returns-clause-total : goal.returns-clause-total
returns-clause-total c = answered_total c.args.self.now.total (weight c.args.tree.now) c.weight_of.result _ _ c.weight_of.ensures c.took.ensures.total c.took-2.ensures.total
