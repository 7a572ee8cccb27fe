use Rattle.std.proofs.Common.{arith}
use Rattle.vx_mask.proofs.WordBits.{true_count-low_bits}
use Rattle.vx_mask.proofs.word.ones_in.Goals as goal

pub returns : goal.returns
returns c = true_count-low_bits 64 c.args.word (omega arith)
