use Rattle.std.proofs.Common.{rules, arith, ◌≡◌, ◌≢◌, inr, None, Some, length, ◌∙◌}
use Rattle.vx_value.specs.View.{type_of}
use Rattle.vx_tree.specs.Tree.{slots_of}
use Rattle.vx_tree.specs.TreeView.{data_of}
use Rattle.vx_tree.specs.Replacements.{with_slots_refusal}
use Rattle.vx_tree.proofs.ReplacementsLemmas.{slots_counted, slots_miscounted, all_put, all_replaced}
use Rattle.vx_tree.proofs.array.node.ArrayRef.with_slots.Goals as goal

pub returns-then-len-old-clause-refused : goal.returns-then-len-old-clause-refused
returns-then-len-old-clause-refused c =
    let other : length c.args.slots.items ≢ length c.slots-old.result.now = λ e. omega arith in
    inr (slots_miscounted c.args.slots.items c.slots-old.result.now c.args.self c.slots-old.ensures other)

pub returns-in_err-check_slots-clause-refused : goal.returns-in_err-check_slots-clause-refused
returns-in_err-check_slots-clause-refused c =
    let alike : length c.args.slots.items ≡ length c.slots-old.result.now = omega arith in
    let same = slots_counted c.args.slots.items c.slots-old.result.now c.args.self c.slots-old.ensures alike in
    let refused : with_slots_refusal (slots_of c.args.slots.items) c.args.self ≡ Some c.in_err-check_slots.field-0.0 = same
    ∙ rw c.deref.ensures.value at c.in_err-check_slots.ensures in
    search rules

pub into_array-requires-clause-node : goal.into_array-requires-clause-node
into_array-requires-clause-node c =
    let n = c.in_ok-node.node in
    let alike : length c.args.slots.items ≡ length c.slots-old.result.now = omega arith in
    let same = slots_counted c.args.slots.items c.slots-old.result.now c.args.self c.slots-old.ensures alike in
    let taken : with_slots_refusal (slots_of c.args.slots.items) c.args.self ≡ None = same ∙ rw c.deref.ensures.value at c.in_ok-check_slots.ensures in
    all_replaced (type_of n.dtype) n.len
    (data_of n.encoding) n.slots.items c.args.self c.in_ok-node.ensures.ok c.well_formed_tree.ensures.formed (slots_of c.args.slots.items) taken

pub returns-clause-ok : goal.returns-clause-ok
returns-clause-ok c =
    let n = c.in_ok-node.node in
    c.in_ok-into_array.ensures.ok ∙ all_put (type_of n.dtype) n.len (data_of n.encoding) n.slots.items c.args.self c.in_ok-node.ensures.ok
    (slots_of c.args.slots.items)

pub returns-clause-valid : goal.returns-clause-valid
returns-clause-valid c =
    let alike : length c.args.slots.items ≡ length c.slots-old.result.now = omega arith in
    let same = slots_counted c.args.slots.items c.slots-old.result.now c.args.self c.slots-old.ensures alike in
    same ∙ rw c.deref.ensures.value at c.in_ok-check_slots.ensures
