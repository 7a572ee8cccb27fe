use Rattle.vx_opt.proofs.AnswersLemmas.{call_given}
use Rattle.vx_opt.proofs.optimizer.ArrayRefArrayOptimizer.optimize_ctx.Goals as goal

pub returns-clause-optimized : goal.returns-clause-optimized
returns-clause-optimized g c = call_given _ _ _ _ _ c.in_ok-optimize_root.ensures c.into_result.result c.into_result.ensures
