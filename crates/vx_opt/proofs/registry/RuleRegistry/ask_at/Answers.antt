use Rattle.std.proofs.Common.{sym, arith}
use Rattle.vx_opt.proofs.AskingLemmas.{asked_item}
use Rattle.vx_opt.proofs.registry.RuleRegistry.ask_at.Goals as goal

pub returns-clause-asked : goal.returns-clause-asked
returns-clause-asked g c =
    asked_item _ c.args.self.now.entries.items c.args.index c.index_mut.result.now c.ask.new.self
    (omega (arith, c.args.self.now.entries.ok.0, c.requires.in_range)) (sym c.index_mut.ensures.value) c.ask.ensures.asked
