use Rattle.vx_rule.proofs.WeighingsLemmas.{summed_more}
use Rattle.vx_rule.proofs.weight.SlotWeights.with.Goals as goal

pub returns : goal.returns
returns c = λ ws w h l e. summed_more c.args.self _ ws w c.args.excess h l e (cc) (cc) (cc)
