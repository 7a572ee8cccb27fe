use Rattle.std.proofs.Common.{◌≡◌, ◌≤◌, vec_len, vec_capacity}
use Rattle.vx_mask.specs.Operands.{bit_in}
use Rattle.vx_mask.proofs.Rows.{HoldRows}
use Rattle.vx_mask.proofs.bits.BitBuffer.zip.Given as goal

abbrev pub invariant-loop-k : goal.invariant-loop-k
invariant-loop-k g l = record {
  count : vec_len l.words ≡ l.k;
  room : l.many ≤ vec_capacity l.words;
  rows : HoldRows l.words.items (λ i. g.O.BitOperation.bit (bit_in l.lhs i) (bit_in l.rhs i)) l.len;
}
