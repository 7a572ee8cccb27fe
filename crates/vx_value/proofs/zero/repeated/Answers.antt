use Rattle.std.proofs.Common.{◌≡◌, ◌∙◌, rules}
use Rattle.std.proofs.lemmas.Result.{IfOk-weaker}
use Rattle.vx_value.specs.Values.{repeated}
use Rattle.vx_value.specs.View.{cell_of}
use Rattle.vx_value.proofs.zero.repeated.Goals as goal

pub returns-clause-ok : goal.returns-clause-ok
returns-clause-ok c =
    let all : c.loop.counter ≡ c.args.count = search rules in
    IfOk-weaker c.new.result _ _ (λ vs h. h ∙ c.loop.invariant.0 ∙ (λ i. repeated (all i) (cell_of (c.loop.invariant.1 i)))) c.new.ensures.ok
