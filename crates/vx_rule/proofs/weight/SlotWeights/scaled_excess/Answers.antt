use Rattle.vx_rule.proofs.WeighingsLemmas.{scaled_some}
use Rattle.vx_rule.proofs.weight.SlotWeights.scaled_excess.Goals as goal

pub returns : goal.returns
returns c = λ ws h l. scaled_some c.args.self ws h l c.args.factor _ c.requires.0 c.requires.1 c.if-self-eq0.false (cc)
