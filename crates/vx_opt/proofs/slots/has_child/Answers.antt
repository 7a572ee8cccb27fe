use Rattle.vx_tree.proofs.SlotsLemmas.{has_present}
use Rattle.vx_opt.proofs.slots.has_child.Goals as goal

pub returns-in-Some-clause-yes : goal.returns-in-Some-clause-yes
returns-in-Some-clause-yes c = λ e. has_present c.args.slot c.in-Some._child.now c.args.array.now c.in-Some.ensures
