use Rattle.std.proofs.Common.{◌≡◌, ◌≤◌, length, take, map}
use Rattle.vx_opt.specs.Entries.{entry_of, of_pair}
use Rattle.vx_opt.proofs.registry.RuleRegistry.find.Given as goal

abbrev pub invariant-loop-entry : goal.invariant-loop-entry
invariant-loop-entry g l = record {
  within : l.count ≤ l.entry-index;
  counted : l.count ≡ length (of_pair l.parent l.child (take l.entry-index (map (entry_of (λ v. (g.dyn-1.0.entry v).1)) l.entry-items)));
}
