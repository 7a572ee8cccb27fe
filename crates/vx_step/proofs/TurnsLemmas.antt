-- The turns that are left: they are at most the cost, and fall where a slot is taken out and where it is put back.
use Rattle.std.proofs.Common.{◌≡◌, ℕ, zero, suc, ◌+◌, ◌<◌, ◌≤◌, Bool, true, false, refl, ap, arith}
use Rattle.vx_tree.specs.Tree.{Tree, Data, Slots, node, no_slots, absent, slot, datum}
use Rattle.vx_tree.specs.Slots.{set_slot, put, IsAbsentAt, IsHole}
use Rattle.vx_tree.proofs.WeightLemmas.{pays, base_positive}
use Rattle.vx_tree.specs.Cost.{Executed, executed, is_next, after, is_executed, counted, cost, base_cost, slot_cost, slots_cost, extra}
use Rattle.vx_step.specs.Turns.{meets, slot_target, target_of, left_for, slot_potential, slots_potential, node_potential, parent_potential}
use Rattle.vx_step.specs.Steps.{Awaits, AwaitsAt}
use Rattle.vx_step.specs.declared.steps.SlotTarget.{SlotTarget}

slot_paid : (d : Data) (c e : ℕ) → c + 1 + left_for d ≤ slot_cost d c e
slot_paid d c e = (pays d).slot_paid c e

slot_bound : (k : ℕ) (done : Bool) (c : ℕ) → k ≤ c → slot_potential k done c ≤ c
slot_bound k true c h = h
slot_bound k false c h = omega arith

counted_less : (b : Bool) (m n : ℕ) → m ≤ n → counted b m ≤ counted b n
counted_less true m n h = h
counted_less false m n h = omega arith

slots_paid : (d : Data) (e : Executed) (ss : Slots) → slots_potential d e ss ≤ slots_cost (slot_cost d) e ss
slots_paid d e no_slots = omega arith
slots_paid d e (absent ss) = slots_paid d (after e) ss
slots_paid d e (slot t ss) =
    let c = slot_cost d (cost t) (extra t) in
    let done = meets (slot_target d) t in
    let left : left_for d ≤ c = omega (arith, slot_paid d (cost t) (extra t)) in
    omega (arith, slots_paid d (after e) ss, counted_less (is_next e) (slot_potential (left_for d) done c) c (slot_bound (left_for d) done c left))

pub top_paid : (t : Tree) → node_potential t ≤ cost t
top_paid (node ty n d ss) = omega (arith, slots_paid d (executed d) ss)

pub top_positive : (t : Tree) → 0 < node_potential t
top_positive (node ty n d ss) = omega (arith, base_positive d)

-- and at least those that the node takes itself
pub top_own : (t : Tree) → base_cost (datum t) ≤ node_potential t
top_own (node ty n d ss) = omega arith

-- ---- a slot taken out, and put back

-- the turns left for slot i, which holds c
turns_at : Data → Executed → ℕ → Tree → ℕ
turns_at d e i c = counted (is_executed e i) (slot_potential (left_for d) (meets (slot_target d) c) (slot_cost d (cost c) (extra c)))

put_top : (d : Data) (e : Executed) (i : ℕ) (c : Tree) (ss : Slots) → IsAbsentAt i ss
    → slots_potential d e (set_slot i c ss) ≡ turns_at d e i c + slots_potential d e ss
unfolding turns_at
put_top d e i c no_slots h = absurd h
put_top d e zero c (absent ss) h = refl
put_top d e zero c (slot s ss) h = absurd h
put_top d e (suc i) c (absent ss) h = put_top d (after e) i c ss h
put_top d e (suc i) c (slot s ss) h = omega (arith, put_top d (after e) i c ss h)

awaited_put : (g : SlotTarget) (i : ℕ) (c : Tree) (ss : Slots) → IsAbsentAt i ss → AwaitsAt g i (set_slot i c ss) → meets g c ≡ false
awaited_put g i c no_slots h w = absurd h
awaited_put g zero c (absent ss) h w = w
awaited_put g zero c (slot s ss) h w = absurd h
awaited_put g (suc i) c (absent ss) h w = awaited_put g i c ss h w
awaited_put g (suc i) c (slot s ss) h w = awaited_put g i c ss h w.1

pub take_falls : (i : ℕ) (c p : Tree) → IsHole i p → Awaits i (put i c p) → parent_potential p + node_potential c < node_potential (put i c p)
unfolding turns_at
take_falls i c (node ty n d ss) h w =
    let awaited = awaited_put (slot_target d) i c ss h w.1 in
    let turns : turns_at d (executed d) i c ≡ slot_cost d (cost c) (extra c) = λ j.
    counted (w.0 j) (slot_potential (left_for d) (awaited j) (slot_cost d (cost c) (extra c))) in
    omega (arith, put_top d (executed d) i c ss h, top_paid c, turns, slot_paid d (cost c) (extra c))

-- the turns for a slot that has reached its target are those left for it
done_at : (d : Data) (e : Executed) (i : ℕ) (c : Tree) → meets (slot_target d) c ≡ true → turns_at d e i c ≡ counted (is_executed e i) (left_for d)
unfolding turns_at
done_at d e i c m = ap (λ b. counted (is_executed e i) (slot_potential (left_for d) b (slot_cost d (cost c) (extra c)))) m

counted_within : (b : Bool) (n : ℕ) → counted b n ≤ n
counted_within true n = omega arith
counted_within false n = omega arith

pub put_falls : (i : ℕ) (c p : Tree) → IsHole i p → meets (target_of p) c ≡ true → node_potential (put i c p) < parent_potential p + node_potential c
put_falls i c (node ty n d ss) h m =
    let e = executed d in
    omega (arith, put_top d e i c ss h, done_at d e i c m, counted_within (is_executed e i) (left_for d), top_positive c)

-- a slot that has reached its target, and is taken out for good
pub used_falls : (i : ℕ) (c p : Tree) → IsHole i p → is_executed (executed (datum p)) i ≡ true → meets (target_of p) c ≡ true → 0 < left_for (datum p)
    → node_potential p < node_potential (put i c p)
used_falls i c (node ty n d ss) h x m some =
    let e = executed d in
    let left : counted (is_executed e i) (left_for d) ≡ left_for d = ap (λ b. counted b (left_for d)) x in
    omega (arith, put_top d e i c ss h, done_at d e i c m, left, some)
