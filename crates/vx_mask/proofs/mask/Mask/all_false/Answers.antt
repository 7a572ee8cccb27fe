use Rattle.vx_mask.specs.Masks.{bits_in}
use Rattle.vx_mask.proofs.MasksLemmas.{all_false_is}
use Rattle.vx_mask.proofs.mask.Mask.all_false.Goals as goal

pub returns : goal.returns
returns c = all_false_is (bits_in c.args.self.now) c.true_count.result c.true_count.ensures
