use Rattle.std.proofs.Common.{◌≡◌, ◌*◌, take}
use Rattle.vx_mask.specs.Places.{true_count}
use Rattle.vx_mask.proofs.bits.BitBuffer.first.Given as goal

abbrev pub invariant-loop-k : goal.invariant-loop-k
invariant-loop-k l = true_count (take (64 * l.k) l.self) ≡ 0
