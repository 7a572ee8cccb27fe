use Rattle.std.proofs.Common.{arith, ap, map, ◌∙◌, ◌++◌}
use Rattle.std.proofs.lemmas.List.{get_or_default}
use Rattle.vx_opt.specs.Entries.{unasked}
use Rattle.vx_opt.proofs.AskingLemmas.{made_more, made_all}
use Rattle.vx_opt.proofs.registry.RuleRegistry.from_entries_and_builtins.Goals as goal

pub loop-builtin-preserved : goal.loop-builtin-preserved
loop-builtin-preserved g c =
    made_more unasked c.builtin_rules-builtins.result.now c.args.entries.items c.loop-builtin.builtin-index _ c.loop-builtin.entries.items c.push.new.self.items c.built_in.result
    c.loop-builtin-test.true (get_or_default c.builtin_rules-builtins.result.now c.loop-builtin.builtin-index _ _ c.loop-builtin-test.true) c.loop-builtin.invariant c.built_in.ensures c.in_ok-push.ensures.items

pub returns-clause-ok : goal.returns-clause-ok
returns-clause-ok g c =
    made_all unasked c.builtin_rules-builtins.result.now c.args.entries.items c.loop-builtin.builtin-index c.loop-builtin.entries.items
    (omega (arith, c.loop-builtin-test.false, c.loop-builtin.auto.builtin-index-end)) c.loop-builtin.invariant ∙ ap (λ bs. c.args.entries.items ++ map unasked bs) c.builtin_rules-builtins.ensures
