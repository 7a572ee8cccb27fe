use Rattle.std.proofs.Common.{◌≡◌, ◌+◌, ◌-◌, ◌*◌, ◌≤◌, take}
use Rattle.vx_opt.specs.Limits.{call_limit}
use Rattle.vx_opt.specs.Entries.{entries_of}
use Rattle.vx_opt.specs.Counted.{IsUnderWay, IsBetween}
use Rattle.vx_opt.proofs.root.+optimize.Given as goal

abbrev pub decreases-optimize_root : goal.decreases-optimize_root
decreases-optimize_root g l = call_limit - l.total.now

abbrev pub decreases-loop-current : goal.decreases-loop-current
decreases-loop-current g l = call_limit - l.total

abbrev pub invariant-loop-current : goal.invariant-loop-current
invariant-loop-current g l = IsUnderWay l.fn.array l.current l.fn.total l.total l.at_root (entries_of (λ v. (g.dyn-1.0.entry v).1) l.fn.rules) (entries_of (λ v. (g.dyn-1.0.entry v).1) l.rules)

abbrev pub invariant-loop-i : goal.invariant-loop-i
invariant-loop-i g l = IsBetween l.optimize.items (take l.i l.optimize.items) l.initial.current l.current l.initial.total l.total (entries_of (λ v. (g.dyn-1.0.entry v).1) l.initial.rules) (entries_of (λ v. (g.dyn-1.0.entry v).1) l.rules)
