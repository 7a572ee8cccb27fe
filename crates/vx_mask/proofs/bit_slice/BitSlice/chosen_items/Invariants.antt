use Rattle.std.proofs.Common.{◌≡◌, ◌≤◌, ◌*◌, take, vec_capacity}
use Rattle.vx_mask.specs.Places.{true_count, chosen}
use Rattle.vx_mask.proofs.bit_slice.BitSlice.chosen_items.Given as goal

abbrev pub invariant-loop-k : goal.invariant-loop-k
invariant-loop-k g l = record {
  room : true_count l.self ≤ vec_capacity l.kept;
  done : l.kept.items ≡ chosen (take (64 * l.k) l.self) l.items;
}
