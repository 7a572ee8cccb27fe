use Rattle.std.proofs.Common.{◌∙◌, rules}
use Rattle.std.proofs.lemmas.Result.{IfOk-weaker}
use Rattle.vx_fn.proofs.PackLemmas.{values_step, values_end}
use Rattle.vx_fn.proofs.functions.pack.values_of.Goals as goal

pub loop-argument-preserved : goal.loop-argument-preserved
loop-argument-preserved c =
    values_step c.args.arguments.now c.loop-argument.values.items c.push.new.self.items c.loop-argument.argument-index c.argument-item.result
    c.in_ok-value_of.field-0 _ (search rules) (search rules) c.in_ok-value_of.ensures.ok c.loop-argument.invariant c.in_ok-push.ensures.items

pub returns-clause-ok : goal.returns-clause-ok
returns-clause-ok c =
    let made = values_end c.args.arguments.now c.loop-argument.values.items c.loop-argument.argument-index _ (search rules) c.loop-argument.invariant in
    IfOk-weaker c.new.result _ _ (λ vs h. h ∙ made) c.new.ensures.ok
