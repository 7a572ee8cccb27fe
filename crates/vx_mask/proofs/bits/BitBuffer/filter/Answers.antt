use Rattle.std.proofs.Common.{rules}
use Rattle.vx_mask.proofs.MasksLemmas.{chosen_by_all, chosen_by_none}
use Rattle.vx_mask.proofs.bits.BitBuffer.filter.Goals as goal

pub returns-in-AllTrue : goal.returns-in-AllTrue
returns-in-AllTrue c =
    rw (chosen_by_all c.args.mask.now c.in-AllTrue.field-0 c.args.self.now c.in-AllTrue.is c.requires) (search rules)

pub returns-in-AllFalse : goal.returns-in-AllFalse
returns-in-AllFalse c =
    rw (chosen_by_none c.args.mask.now c.in-AllFalse.field-0 c.args.self.now c.in-AllFalse.is) c.repeat.ensures
