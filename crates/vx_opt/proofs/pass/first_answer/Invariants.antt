use Rattle.std.proofs.Common.{ℕ, ◌<◌, Some, None}
use Rattle.vx_rule.specs.Rules.{IsQuiet}
use Rattle.vx_opt.specs.Entries.{entries_of, IsSpent}
use Rattle.vx_opt.proofs.pass.first_answer.Given as goal

abbrev pub invariant-loop-slot : goal.invariant-loop-slot
invariant-loop-slot g l = record {
  own : IsQuiet None l.array;
  quiet : (j : ℕ) → j < l.slot → IsQuiet (Some j) l.array;
  spent : IsSpent 0 (entries_of (λ v. (g.dyn-1.0.entry v).1) l.initial.rules) (entries_of (λ v. (g.dyn-1.0.entry v).1) l.rules);
}
