use Rattle.std.proofs.Common.{arith, ◌+◌, sym, ◌∙◌, ap}
use Rattle.vx_opt.proofs.AskingLemmas.{counted_more, counted_same}
use Rattle.vx_opt.proofs.registry.RuleRegistry.find.Goals as goal
use Rattle.vx_opt.proofs.registry.RuleRegistry.find.Goals.{then-is_for, else-is_for}

pub loop-entry-preserved : goal.loop-entry-preserved
loop-entry-preserved g c = elim c.if-is_for.branch [
  | then-is_for w ↦ record {
    within = omega arith;
    counted = w.count-is ∙ ap (λ n. n + 1) c.loop-entry.invariant.counted
        ∙ sym (counted_more _ _ _ _ c.entry-item.result c.loop-entry-test.true c.entry-item.is (sym c.is_for.ensures ∙ w.if-is_for.true));
  }
  | else-is_for w ↦ record {
    within = omega arith;
    counted = w.count-is ∙ c.loop-entry.invariant.counted
        ∙ sym (counted_same _ _ _ _ c.entry-item.result c.loop-entry-test.true c.entry-item.is (sym c.is_for.ensures ∙ w.if-is_for.false));
  }
]
