use Rattle.vx_rule.proofs.WeighingsLemmas.{summed_total}
use Rattle.vx_rule.proofs.weight.SlotWeights.total.Goals as goal

pub returns : goal.returns
returns c = λ ws h l. summed_total c.args.self ws h l _ cc
