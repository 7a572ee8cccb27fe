use Rattle.std.proofs.Common.{◌+◌, ◌/◌, ◌%◌, arith, sym}
use Rattle.vx_mask.proofs.Words.{row_of_part}
use Rattle.vx_mask.proofs.bit_slice.BitSlice.word_from.Goals as goal

pub returns : goal.returns
returns c i h within =
    let b = c.self.inside in
    row_of_part b.words.now b.start b.len ((b.start + c.args.index) / 64) ((b.start + c.args.index) % 64) c.args.index i _ c.args.self.now
    (sym c.self.view_is) (omega arith) (omega arith) within (c.word_at.ensures i h)
