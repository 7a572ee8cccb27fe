use Rattle.std.proofs.lemmas.Result.{IfOk-weaker}
use Rattle.vx_rule.proofs.push.push_slice.Goals as goal

pub returns-clause-ok : goal.returns-clause-ok
returns-clause-ok c = IfOk-weaker c.push.result _ _ (λ u h. h.exactly) c.push.ensures.ok

pub returns-clause-cost : goal.returns-clause-cost
returns-clause-cost c = IfOk-weaker c.push.result _ _ (λ u h. h.bounded) c.push.ensures.ok

pub returns-clause-canonical : goal.returns-clause-canonical
returns-clause-canonical c = IfOk-weaker c.push.result _ _ (λ u h. h.canonical) c.push.ensures.ok

pub returns-clause-pushed : goal.returns-clause-pushed
returns-clause-pushed c = IfOk-weaker c.push.result _ _ (λ u h. h.pushed_down) c.push.ensures.ok
