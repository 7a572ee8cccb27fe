use Rattle.std.proofs.Common.{take, sym, subst, map}
use Rattle.std.proofs.lemmas.List.{take_more}
use Rattle.vx_tree.specs.Canonicals.{columnar_tree}
use Rattle.vx_step.specs.Waiting.{HoldsColumn}
use Rattle.vx_step.proofs.WaitingLemmas.{holds_at, columns_more}
use Rattle.vx_step.proofs.function.columns_of.Goals as goal

pub push_column-requires : goal.push_column-requires
push_column-requires c =
    subst HoldsColumn (sym c.slot-item.is) (holds_at c.args.slots.now c.loop-slot.slot-index c.slot-item.result c.requires c.loop-slot-test.true)

pub loop-slot-preserved : goal.loop-slot-preserved
loop-slot-preserved c =
    let here = subst HoldsColumn (sym c.slot-item.is) (holds_at c.args.slots.now c.loop-slot.slot-index c.slot-item.result c.requires c.loop-slot-test.true) in
    rw (take_more c.args.slots.now c.loop-slot.slot-index c.slot-item.result c.loop-slot-test.true, ← c.slot-item.is)
    (columns_more (take c.loop-slot.slot-index c.args.slots.now) c.slot-item.result (map columnar_tree c.loop-slot.columns.items)
    (map columnar_tree c.push_column.new.columns.items) c.loop-slot.invariant here c.in_ok-push_column.ensures)
