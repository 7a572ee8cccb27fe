use Rattle.vx_tree.proofs.MaskedLemmas.{masked_slot_missing}
use Rattle.vx_tree.proofs.arrays.masked.child_and_validity.Goals as goal

pub returns-in-None : goal.returns-in-None
returns-in-None c ty n = masked_slot_missing ty n c.args.slots.now c.index-slots-0.result c.if-slots-ne2.false c.index-slots-0.is c.in-None.is
