use Rattle.std.proofs.Common.{ℕ, ◌<◌, ◌+◌, ◌*◌, arith}
use Rattle.vx_mask.specs.Operands.{bit_in}
use Rattle.vx_mask.proofs.OperandsLemmas.{has_row}
use Rattle.vx_mask.proofs.BitsLemmas.{first_bits}
use Rattle.vx_mask.proofs.Rows.{one_more}
use Rattle.vx_mask.proofs.bits.BitBuffer.zip.Goals as goal

pub word-left-requires : goal.word-left-requires
word-left-requires g c = has_row c.args.lhs c.args.len (64 * c.loop-k.k) c.requires.lhs (omega arith)

pub word-right-requires : goal.word-right-requires
word-right-requires g c = has_row c.args.rhs c.args.len (64 * c.loop-k.k) c.requires.rhs (omega arith)

pub loop-k-preserved : goal.loop-k-preserved
loop-k-preserved g c =
    let k = c.loop-k.k in
    record {
      count = omega arith;
      room = omega arith;
      rows = rw c.push_reserved.ensures.items
          (one_more c.loop-k.words.items _ k c.args.len _ (omega arith) c.loop-k.invariant.rows (λ i h within.
          let left = c.word-left.ensures i h (has_row c.args.lhs c.args.len (64 * k + i) c.requires.lhs within) in
          let right = c.word-right.ensures i h (has_row c.args.rhs c.args.len (64 * k + i) c.requires.rhs within) in
          let both = c.word.ensures i h in
          cc));
    }

pub returns : goal.returns
returns g c =
    let row = λ (i : ℕ). g.O.BitOperation.bit (bit_in c.args.lhs i) (bit_in c.args.rhs i) in
    let held = λ (i : ℕ) (h : i < c.args.len). c.loop-k.invariant.rows i h (omega arith) in
    rw (← first_bits c.loop-k.words.items c.args.len row (omega arith) held) c.from_words.ensures
