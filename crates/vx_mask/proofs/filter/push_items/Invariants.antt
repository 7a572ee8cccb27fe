use Rattle.std.proofs.Common.{◌≡◌, ◌+◌, ◌≤◌, ◌++◌, length, vec_len, vec_capacity}
use Rattle.vx_mask.specs.Places.{true_count, chosen}
use Rattle.vx_mask.specs.Words.{low_bits}
use Rattle.vx_mask.proofs.filter.push_items.Given as goal

abbrev pub invariant-loop-left : goal.invariant-loop-left
invariant-loop-left g l = record {
  each : length (chosen (low_bits 64 l.left) l.items) ≡ true_count (low_bits 64 l.left);
  room : vec_len l.kept + true_count (low_bits 64 l.left) ≤ vec_capacity l.kept;
  grown : vec_capacity l.initial.kept ≤ vec_capacity l.kept;
  done : l.kept.items ++ chosen (low_bits 64 l.left) l.items ≡ l.initial.kept.items ++ chosen (low_bits 64 l.word) l.items;
}

abbrev pub decreases-loop-left : goal.decreases-loop-left
decreases-loop-left g l = l.left
