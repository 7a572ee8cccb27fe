use Rattle.std.proofs.Common.{arith, sym}
use Rattle.vx_mask.proofs.MasksLemmas.{mask_of_falses}
use Rattle.vx_mask.proofs.mask.Mask.none_of.Goals as goal

pub returns-else-len-eq0 : goal.returns-else-len-eq0
returns-else-len-eq0 c = sym (mask_of_falses c.args.len (omega arith))
