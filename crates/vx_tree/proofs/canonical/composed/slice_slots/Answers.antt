use Rattle.std.proofs.Common.{◌≡◌, sym, ◌∙◌, ap, map}
use Rattle.std.specs.Prelude.{option_map}
use Rattle.std.proofs.lemmas.List.{take_all}
use Rattle.vx_tree.specs.Tree.{slots_of}
use Rattle.vx_tree.specs.Parts.{part_of}
use Rattle.vx_tree.proofs.ComposedSlicesLemmas.{mapped, next_range, grown}
use Rattle.vx_tree.proofs.canonical.composed.slice_slots.Goals as goal

pub slice_validity-requires : goal.slice_validity-requires
slice_validity-requires c =
    (next_range c.args.range.start c.args.range.end c.args.slots.now c.loop-slot.slot-index c.slot-item.result c.loop-slot-test.true c.slot-item.is c.loop-slot.invariant.0).0

pub loop-slot-preserved : goal.loop-slot-preserved
loop-slot-preserved c =
    let here = next_range c.args.range.start c.args.range.end c.args.slots.now c.loop-slot.slot-index c.slot-item.result c.loop-slot-test.true c.slot-item.is c.loop-slot.invariant.0 in (
      here.1,
      grown (part_of c.args.range.start c.args.range.end) c.args.slots.now c.loop-slot.parts.items c.push.new.self.items c.loop-slot.slot-index c.slot-item.result c.in_ok-slice_validity.field-0
          c.loop-slot.invariant.1 c.loop-slot-test.true c.slot-item.is c.in_ok-slice_validity.ensures.ok c.in_ok-push.ensures.items,
    )

pub returns-clause-ok : goal.returns-clause-ok
returns-clause-ok c =
    let f = part_of c.args.range.start c.args.range.end in
    ap slots_of c.loop-slot.invariant.1 ∙ ap (λ xs. slots_of (map (option_map f) xs)) (take_all c.loop-slot.slot-index c.args.slots.now c.loop-slot-test.false)
    ∙ mapped f c.args.slots.now
