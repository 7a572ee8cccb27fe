use Rattle.std.proofs.Common.{sym, subst}
use Rattle.vx_tree.specs.Keeps.{KeepsExactly}
use Rattle.vx_tree.specs.Canonicals.{canonical_tree}
use Rattle.vx_step.specs.Steps.{IsAnswer}
use Rattle.vx_step.proofs.StepsLemmas.{constant_done}
use Rattle.vx_step.proofs.whole.step_of.Goals as goal

pub returns-in_ok-constant_canonicalize-in-Constant-clause-ok : goal.returns-in_ok-constant_canonicalize-in-Constant-clause-ok
returns-in_ok-constant_canonicalize-in-Constant-clause-ok c =
    let t = c.args.array.now in
    let u = canonical_tree c.in_ok-constant_canonicalize-in-Constant.field-0 in
    let exactly = subst (λ x. KeepsExactly x u) c.in-Some.ensures.of c.in_ok-constant_canonicalize-in-Constant.ensures.ok in
    subst (λ s. IsAnswer t s) (sym c.done.ensures.done) (constant_done _ _ t u c.in-Constant.ensures.0 c.done.ensures.known c.done.ensures.canonical exactly)
