use Rattle.std.proofs.Common.{◌≡◌, ◌≤◌, vec_len}
use Rattle.vx_opt.specs.Entries.{entries_of}
use Rattle.vx_opt.proofs.AskingLemmas.{IsAskedTo}
use Rattle.vx_opt.proofs.registry.RuleRegistry.ask.Given as goal

abbrev pub invariant-loop-index : goal.invariant-loop-index
invariant-loop-index g l = record {
  len : vec_len l.self.entries ≡ l.index-end;
  within : l.place ≤ l.index;
  asked : IsAskedTo l.parent_id l.child_id (entries_of (λ v. (g.dyn-1.0.entry v).1) l.initial.self) (entries_of (λ v. (g.dyn-1.0.entry v).1) l.self) l.index l.place;
}
