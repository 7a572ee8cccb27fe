use Rattle.vx_opt.proofs.SlotsLemmas.{counted_slots}
use Rattle.vx_opt.proofs.slots.number_of_slots.Goals as goal

pub returns : goal.returns
returns c = counted_slots c.slots.result.now c.args.array.now c.slots.ensures
