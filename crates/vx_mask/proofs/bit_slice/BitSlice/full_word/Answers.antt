use Rattle.std.proofs.Common.{◌+◌, ◌*◌, ◌/◌, ◌%◌, arith, sym}
use Rattle.vx_mask.proofs.Words.{row_of_part}
use Rattle.vx_mask.proofs.bit_slice.BitSlice.full_word.Goals as goal

pub returns : goal.returns
returns c i h within =
    let b = c.self.inside in
    row_of_part b.words.now b.start b.len (b.start / 64 + c.args.k) (b.start % 64) (64 * c.args.k) i _ c.args.self.now (sym c.self.view_is) (omega arith)
    (omega arith) within (c.full_word_at.ensures i h)
