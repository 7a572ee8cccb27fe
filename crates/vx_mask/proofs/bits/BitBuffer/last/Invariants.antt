use Rattle.std.proofs.Common.{◌≡◌, ◌<◌, ◌≤◌, ◌+◌, ◌*◌, ◌^◌, take, length}
use Rattle.vx_mask.specs.Places.{true_count}
use Rattle.vx_mask.specs.Words.{low_bits}
use Rattle.vx_mask.proofs.PartPlaces.{IsPart}
use Rattle.vx_mask.proofs.bits.BitBuffer.last.Given as goal

abbrev pub invariant-loop-word : goal.invariant-loop-word
invariant-loop-word l = record {
  fits : l.word < 2 ^ 64;
  within : 64 * l.k ≤ length l.self;
  part : IsPart l.self (64 * l.k) l.word;
  counted : true_count (take (64 * l.k) l.self) + true_count (low_bits 64 l.word) ≡ true_count l.self;
}

abbrev pub decreases-loop-word : goal.decreases-loop-word
decreases-loop-word l = l.k
