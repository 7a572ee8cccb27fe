use Rattle.std.proofs.Common.{◌≡◌, ◌*◌, take}
use Rattle.vx_mask.specs.Places.{true_count}
use Rattle.vx_mask.proofs.bits.BitBuffer.true_count.Given as goal

abbrev pub invariant-loop-k : goal.invariant-loop-k
invariant-loop-k l = l.count ≡ true_count (take (64 * l.k) l.self)
