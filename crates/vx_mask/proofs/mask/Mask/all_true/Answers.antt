use Rattle.vx_mask.specs.Masks.{bits_in}
use Rattle.vx_mask.proofs.MasksLemmas.{all_true_is}
use Rattle.vx_mask.proofs.mask.Mask.all_true.Goals as goal

pub returns : goal.returns
returns c = all_true_is (bits_in c.args.self.now) c.true_count.result c.len.result c.true_count.ensures c.len.ensures
