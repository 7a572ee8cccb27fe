use Rattle.std.proofs.Common.{◌≡◌, map}
use Rattle.std.specs.Prelude.{◌&&◌}
use Rattle.std.specs.List.{range_with_len}
use Rattle.vx_mask.specs.Operands.{bit_in}
use Rattle.vx_column.specs.LookedUp.{place_at}
use Rattle.vx_column.specs.ValidRows.{is_valid}
use Rattle.vx_column.proofs.lookup.gather.gather_bits.Given as goal

abbrev pub invariant-loop-index : goal.invariant-loop-index
invariant-loop-index l = l.gathered ≡ map (λ i. is_valid l.valid i && bit_in l.bits (place_at l.places i)) (range_with_len 0 l.index)
