use Rattle.std.proofs.Common.{◌≡◌, ◌≤◌, ◌+◌, ◌*◌, take, vec_len, vec_capacity}
use Rattle.vx_mask.specs.Bits.{bits_of}
use Rattle.vx_mask.specs.Places.{true_count, combined}
use Rattle.vx_mask.proofs.bit_slice.BitSlice.combined.Given as goal

abbrev pub invariant-loop-k : goal.invariant-loop-k
invariant-loop-k l = record {
  count : vec_len l.words ≡ l.k;
  room : l.full + 1 ≤ vec_capacity l.words;
  used : l.used ≡ true_count (take (64 * l.k) l.self);
  done : bits_of l.words.items ≡ combined (take (64 * l.k) l.self) l.inner;
}
