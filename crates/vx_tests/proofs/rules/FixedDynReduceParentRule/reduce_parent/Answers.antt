use Rattle.std.proofs.Common.{sym, subst, ◌∙◌}
use Rattle.vx_tree.specs.Keeps.{Keeps}
use Rattle.vx_tree.proofs.KeepsLemmas.{keeps_refl}
use Rattle.vx_rule.specs.Rules.{ArePresent}
use Rattle.vx_tests.proofs.rules.FixedDynReduceParentRule.reduce_parent.Goals as goal

-- the parent may stand for itself
pub returns-in_ok-same-in-Same-clause-answer : goal.returns-in_ok-same-in-Same-clause-answer
returns-in_ok-same-in-Same-clause-answer c = (
  subst (Keeps c.args.parent.now) (sym (c.done.ensures.tree ∙ c.in_ok-same-in-Same.ensures.cases)) (keeps_refl c.args.parent.now),
  subst (λ slots. ArePresent slots c.done.result.tree) (sym c.done.ensures.optimize) tt,
)
