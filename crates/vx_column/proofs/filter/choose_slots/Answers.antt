use Rattle.std.proofs.Common.{length, map, subst, sym, ap, ◌∙◌}
use Rattle.std.specs.Prelude.{option_map}
use Rattle.std.proofs.lemmas.List.{take_all}
use Rattle.vx_mask.specs.Masks.{bits_in}
use Rattle.vx_tree.specs.Tree.{slots_of}
use Rattle.vx_tree.specs.Parts.{choice_of, HasLen}
use Rattle.vx_tree.proofs.ComposedSlicesLemmas.{mapped, grown}
use Rattle.vx_column.proofs.ComposedLemmas.{long_at}
use Rattle.vx_column.proofs.filter.choose_slots.Goals as goal

pub choose_validity-requires : goal.choose_validity-requires
choose_validity-requires c =
    let n = length (bits_in c.args.mask.now) in
    subst (HasLen n) (sym c.slot-item.is) (long_at n c.args.slots.now c.loop-slot.slot-index _ c.requires c.loop-slot-test.true)

pub loop-slot-preserved : goal.loop-slot-preserved
loop-slot-preserved c =
    grown (choice_of (bits_in c.args.mask.now)) c.args.slots.now c.loop-slot.choices.items c.push.new.self.items c.loop-slot.slot-index c.slot-item.result
    c.in_ok-choose_validity.field-0 c.loop-slot.invariant c.loop-slot-test.true c.slot-item.is c.in_ok-choose_validity.ensures.ok c.in_ok-push.ensures.items

pub returns-clause-ok : goal.returns-clause-ok
returns-clause-ok c =
    let f = choice_of (bits_in c.args.mask.now) in
    let all = take_all c.loop-slot.slot-index c.args.slots.now c.loop-slot-test.false in
    ap slots_of (c.loop-slot.invariant ∙ ap (map (option_map f)) all) ∙ mapped f c.args.slots.now
