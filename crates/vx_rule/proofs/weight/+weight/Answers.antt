use Rattle.std.proofs.Common.{arith, ap, sym, ◌∙◌, subst, take, ◌++◌, ◌∷◌, []}
use Rattle.vx_tree.specs.Tree.{slots_of, slots_height}
use Rattle.vx_tree.specs.Weight.{weight, slots_weights}
use Rattle.vx_tree.proofs.WeightLemmas.{weight_low}
use Rattle.vx_rule.specs.Weighings.{IsSummed}
use Rattle.vx_rule.proofs.WeighingsLemmas.{weighs_node, slots_least, slots_lower, slot_lower, summed_none, summed_some}
use Rattle.vx_rule.proofs.weight.+weight.Goals as goal
use Rattle.vx_rule.proofs.weight.+weight.Goals.{sum_slots-in-Some, sum_slots-in_default}

pub excess_of-sum_slots-slots-requires : goal.excess_of-sum_slots-slots-requires
excess_of-sum_slots-slots-requires t c = (omega (arith, slots_lower c.args.array.now, ap slots_height c.slots.ensures, c.decreases), tt)

pub excess_of-returns : goal.excess_of-returns
excess_of-returns t c =
    let ss = slots_of c.slots.result.now in
    weighs_node c.args.array.now c.weighing_of.result c.excess_by.result c.len.result _ ss c.len.ensures c.encoding.ensures c.slots.ensures c.weighing_of.ensures
    (c.excess_by.ensures (slots_weights ss) c.sum_slots-slots.ensures (slots_least ss))

pub sum_slots-excess_of-requires : goal.sum_slots-excess_of-requires
sum_slots-excess_of-requires t c =
    let lower = slot_lower c.args.slots.now c.loop-slot.slot-index c.slot-item.result c.in-Some.child c.loop-slot-test.true (sym c.slot-item.is ∙ c.in-Some.is) in
    (omega (arith, lower, c.decreases), tt)

pub sum_slots-loop-slot-preserved : goal.sum_slots-loop-slot-preserved
sum_slots-loop-slot-preserved t c =
    let xs = c.args.slots.now in
    let i = c.loop-slot.slot-index in
    let o = c.slot-item.result in
    elim c.match-slot.branch [
      | sum_slots-in-Some w ↦
          let ws = slots_weights (slots_of (take i xs)) in
          let child = w.in-Some.child in
          let more = w.with-sums.ensures ws (weight child) c.loop-slot.invariant (weight_low child) w.excess_of.ensures in
          summed_some xs i o c.loop-slot-test.true c.slot-item.is _ child w.in-Some.is (subst (λ s. IsSummed s (ws ++ weight child ∷ [])) (sym w.sums-is) more)
      | sum_slots-in_default w ↦
          let same = subst (λ s. IsSummed s (slots_weights (slots_of (take i xs)))) (sym w.sums-is) c.loop-slot.invariant in
          summed_none xs i o c.loop-slot-test.true c.slot-item.is _ w.in_default.is same
    ]
