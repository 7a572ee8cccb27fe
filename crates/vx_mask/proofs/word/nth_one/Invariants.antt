use Rattle.std.proofs.Common.{◌≡◌, ◌+◌, ℕ}
use Rattle.vx_mask.specs.Places.{true_count, true_place}
use Rattle.vx_mask.specs.Words.{low_bits}
use Rattle.vx_mask.proofs.word.nth_one.Given as goal

abbrev pub invariant-loop : goal.invariant-loop
invariant-loop l = record {
  enough : true_count (low_bits 64 l.left) + l.counter ≡ true_count (low_bits 64 l.word);
  rest : (j : ℕ) → true_place (low_bits 64 l.left) j ≡ true_place (low_bits 64 l.word) (l.counter + j);
}
