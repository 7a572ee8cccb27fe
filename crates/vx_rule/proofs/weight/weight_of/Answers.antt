use Rattle.std.proofs.Common.{◌∙◌}
use Rattle.vx_rule.proofs.WeighingsLemmas.{weight_whole}
use Rattle.vx_rule.proofs.weight.weight_of.Goals as goal

pub returns : goal.returns
returns c = c.saturating_add.ensures ∙ weight_whole c.args.array.now c.excess_of.result c.excess_of.ensures
