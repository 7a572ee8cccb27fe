use Rattle.std.proofs.Common.{◌+◌, ◌-◌, ◌^◌}
use Rattle.vx_opt.specs.Descends.{DescendsIn}
use Rattle.vx_opt.specs.Counted.{IsCounted}
use Rattle.vx_opt.specs.Entries.{entries_of}
use Rattle.vx_opt.proofs.descend.+descend.Given as goal

abbrev pub decreases-descend : goal.decreases-descend
decreases-descend g l = 2 ^ 64 - l.depth

abbrev pub invariant-loop-slot : goal.invariant-loop-slot
invariant-loop-slot g l = IsCounted (DescendsIn l.slot l.initial.current l.current) l.initial.total l.total (entries_of (λ v. (g.dyn-1.0.entry v).1) l.initial.rules) (entries_of (λ v. (g.dyn-1.0.entry v).1) l.rules)
