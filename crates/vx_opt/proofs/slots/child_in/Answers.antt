use Rattle.std.proofs.Common.{◌<◌, length, sym, ◌∙◌, arith}
use Rattle.vx_opt.proofs.SlotsLemmas.{child_found, no_child, within_slots}
use Rattle.vx_opt.proofs.slots.child_in.Goals as goal

pub returns-in-Some : goal.returns-in-Some
returns-in-Some c =
    let xs = c.slots-slots.result.now in
    let w : c.args.slot < length xs = c.if-slot-slots.true in
    child_found xs c.args.array.now c.in-Some.child c.args.slot c.index-slots-slot.result c.slots-slots.ensures w (sym c.index-slots-slot.is ∙ c.in-Some.is)

pub returns-in-None : goal.returns-in-None
returns-in-None c = no_child c.slots-slots.result.now c.args.array.now c.args.slot c.index-slots-slot.result c.slots-slots.ensures
    (sym c.index-slots-slot.is ∙ c.in-None.is)

pub returns-else-slot-slots : goal.returns-else-slot-slots
returns-else-slot-slots c = λ h. omega (
  arith,
  within_slots c.slots-slots.result.now c.args.array.now c.args.slot c.slots-slots.ensures h,
  c.if-slot-slots.false,
)
