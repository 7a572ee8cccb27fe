use Rattle.std.proofs.Common.{◌≡◌, take, map, ◌++◌}
use Rattle.vx_opt.specs.Entries.{unasked}
use Rattle.vx_opt.proofs.registry.RuleRegistry.from_entries_and_builtins.Given as goal

abbrev pub invariant-loop-builtin : goal.invariant-loop-builtin
invariant-loop-builtin g l = l.entries.items ≡ l.fn.entries.items ++ map unasked (take l.builtin-index l.builtins)
