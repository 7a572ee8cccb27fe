use Rattle.std.proofs.Common.{arith}
use Rattle.vx_mask.proofs.WordBits.{last_place}
use Rattle.vx_mask.proofs.word.last_one.Goals as goal

pub returns : goal.returns
returns c = last_place 63 c.args.word c.requires (omega arith)
