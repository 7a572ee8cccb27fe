use Rattle.std.proofs.Common.{arith}
use Rattle.vx_mask.proofs.Parts.{last_none, last_some}
use Rattle.vx_mask.proofs.bit_slice.BitSlice.last_word.Goals as goal

pub returns-then-len-eq0 : goal.returns-then-len-eq0
returns-then-len-eq0 c = last_none c.args.self.now (omega arith)

pub returns-else-len-eq0 : goal.returns-else-len-eq0
returns-else-len-eq0 c = last_some c.args.self.now c.word.result c.len-len.result c.len-len.ensures c.word.ensures
