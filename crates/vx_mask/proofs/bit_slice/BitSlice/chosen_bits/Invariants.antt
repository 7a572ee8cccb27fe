use Rattle.std.proofs.Common.{◌≡◌, ◌*◌, take}
use Rattle.vx_mask.specs.Places.{chosen}
use Rattle.vx_mask.proofs.bit_slice.BitSlice.chosen_bits.Given as goal

abbrev pub invariant-loop-k : goal.invariant-loop-k
invariant-loop-k l = l.kept ≡ chosen (take (64 * l.k) l.self) (take (64 * l.k) l.bits)
