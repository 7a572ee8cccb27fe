use Rattle.std.proofs.Common.{arith}
use Rattle.vx_mask.proofs.WordBits.{first_place}
use Rattle.vx_mask.proofs.word.first_one.Goals as goal

pub returns : goal.returns
returns c = first_place 64 c.args.word c.requires (omega arith)
