use Rattle.std.proofs.Common.{◌≡◌, ◌+◌, ◌*◌, take}
use Rattle.vx_mask.specs.Places.{true_count}
use Rattle.vx_mask.proofs.bits.BitBuffer.rank.Given as goal

abbrev pub invariant-loop-place : goal.invariant-loop-place
invariant-loop-place l = l.left + true_count (take (64 * l.place) l.self) ≡ l.k
