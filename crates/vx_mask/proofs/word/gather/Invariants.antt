use Rattle.std.proofs.Common.{◌≡◌, ◌+◌, ◌*◌, ◌^◌}
use Rattle.vx_mask.specs.Places.{true_count}
use Rattle.vx_mask.specs.Words.{low_bits}
use Rattle.vx_mask.proofs.Gather.{gathered}
use Rattle.vx_mask.proofs.word.gather.Given as goal

abbrev pub invariant-loop-count : goal.invariant-loop-count
invariant-loop-count l = record {
  enough : true_count (low_bits 64 l.left) + l.count ≡ true_count (low_bits 64 l.places);
  done : l.gathered + 2 ^ l.count * gathered l.left l.word ≡ gathered l.places l.word;
}
