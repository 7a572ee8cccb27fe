use Rattle.std.proofs.Common.{rules, arith, ◌≡◌, ◌<◌, inr, Some, length, ◌∙◌}
use Rattle.vx_value.specs.View.{type_of}
use Rattle.vx_tree.specs.TreeView.{data_of}
use Rattle.vx_tree.specs.Replacements.{with_slot_refusal}
use Rattle.vx_tree.proofs.SlotsLemmas.{slot_filled}
use Rattle.vx_tree.proofs.ReplacementsLemmas.{slot_found, slot_not_found, slot_within, slot_replaced}
use Rattle.vx_tree.proofs.array.node.ArrayRef.with_slot.Goals as goal

pub returns-in_default-clause-refused : goal.returns-in_default-clause-refused
returns-in_default-clause-refused c = inr (slot_not_found c.slots.result.now c.args.slot c.args.child c.args.self c.slots.ensures c.in_default.ensures.lookup.3)

pub returns-in_err-check_slot-clause-refused : goal.returns-in_err-check_slot-clause-refused
returns-in_err-check_slot-clause-refused c =
    let same = slot_found c.slots.result.now c.args.slot c.args.child c.args.self c.slots.ensures c.in-Some.old.now c.in-Some.ensures.lookup.3.0
    c.in-Some.ensures.lookup.1 in
    let refused : with_slot_refusal c.args.slot c.args.child c.args.self ≡ Some c.in_err-check_slot.field-0.0 = same ∙ c.in_err-check_slot.ensures in
    search rules

pub index_mut-requires : goal.index_mut-requires
index_mut-requires c =
    let n = c.in_ok-node.node in
    let same = slot_found c.slots.result.now c.args.slot c.args.child c.args.self c.slots.ensures c.in-Some.old.now c.in-Some.ensures.lookup.3.0
    c.in-Some.ensures.lookup.1 in
    let within : c.args.slot < length n.slots.items =
    slot_within (type_of n.dtype) n.len
    (data_of n.encoding) n.slots.items c.args.self c.in_ok-node.ensures.ok c.args.slot c.args.child (same ∙ c.in_ok-check_slot.ensures) in
    omega (arith, n.slots.ok.0)

pub into_array-requires-clause-node : goal.into_array-requires-clause-node
into_array-requires-clause-node c =
    let n = c.in_ok-node.node in
    let same = slot_found c.slots.result.now c.args.slot c.args.child c.args.self c.slots.ensures c.in-Some.old.now c.in-Some.ensures.lookup.3.0
    c.in-Some.ensures.lookup.1 in
    slot_replaced (type_of n.dtype) n.len
    (data_of n.encoding) n.slots.items c.args.self c.in_ok-node.ensures.ok c.well_formed_tree.ensures.formed c.args.slot c.args.child (same ∙ c.in_ok-check_slot.ensures)

pub returns-clause-ok : goal.returns-clause-ok
returns-clause-ok c =
    let n = c.in_ok-node.node in
    c.in_ok-into_array.ensures.ok ∙ slot_filled (type_of n.dtype) n.len
    (data_of n.encoding) n.slots.items c.args.slot c.args.child c.args.self c.in_ok-node.ensures.ok

pub returns-clause-valid : goal.returns-clause-valid
returns-clause-valid c =
    slot_found c.slots.result.now c.args.slot c.args.child c.args.self c.slots.ensures c.in-Some.old.now c.in-Some.ensures.lookup.3.0
    c.in-Some.ensures.lookup.1 ∙ c.in_ok-check_slot.ensures
