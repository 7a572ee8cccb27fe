use Rattle.std.proofs.Common.{◌≡◌, ◌+◌}
use Rattle.vx_mask.proofs.Spread.{spread_bits}
use Rattle.vx_mask.proofs.word.spread.Given as goal

abbrev pub invariant-loop-left : goal.invariant-loop-left
invariant-loop-left l = l.word + spread_bits 64 l.left l.bits ≡ spread_bits 64 l.outer l.inner

abbrev pub decreases-loop-left : goal.decreases-loop-left
decreases-loop-left l = l.left
