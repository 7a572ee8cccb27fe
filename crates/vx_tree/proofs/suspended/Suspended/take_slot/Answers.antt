use Rattle.std.proofs.Common.{◌≡◌, true, ◌<◌, length, arith, sym, ◌∙◌, ap, subst}
use Rattle.std.specs.Prelude.{is_ok}
use Rattle.std.specs.Vec.{with_item}
use Rattle.vx_value.specs.View.{type_of}
use Rattle.vx_tree.specs.TreeView.{data_of, tree_of}
use Rattle.vx_value.specs.Supported.{has_columns}
use Rattle.vx_tree.specs.Tree.{slots, dtype}
use Rattle.vx_tree.specs.Slots.{IsPresent, NoneBefore}
use Rattle.vx_tree.proofs.SlotsLemmas.{present_bound, present_some, own_or_copy}
use Rattle.vx_tree.proofs.SuspendedLemmas.{none_left, slot_out}
use Rattle.vx_tree.proofs.suspended.Suspended.take_slot.Goals as goal

pub index_mut-requires : goal.index_mut-requires
index_mut-requires c =
    let n = c.in_ok-root.root.now in
    let same = own_or_copy tree_of n c.self.inside.node.value c.args.self c.in_ok-root.ensures.value c.self.view_is in
    let within : c.args.slot < length n.slots.items = present_bound _ _ (subst (λ x. IsPresent c.args.slot x) (sym same) c.requires) in
    omega (arith, n.slots.ok.0)

pub unreachable-requires : goal.unreachable-requires
unreachable-requires c =
    let n = c.in_ok-root.root.now in
    let same = own_or_copy tree_of n c.self.inside.node.value c.args.self c.in_ok-root.ensures.value c.self.view_is in
    present_some n.slots.items c.args.slot c.index_mut.result.now (subst (λ x. IsPresent c.args.slot x) (sym same) c.requires)
    (sym c.index_mut.ensures.value ∙ sym c.take-taken.ensures.value ∙ c.in_default.is)

pub first_left-first-requires : goal.first_left-first-requires
first_left-first-requires c =
    let n = c.in_ok-root.root.now in
    let same = own_or_copy tree_of n c.self.inside.node.value c.args.self c.in_ok-root.ensures.value c.self.view_is in
    let within : c.args.slot < length n.slots.items = present_bound _ _ (subst (λ x. IsPresent c.args.slot x) (sym same) c.requires) in
    omega (arith, n.slots.ok.0)

pub invariant_of-result : goal.invariant_of-result
invariant_of-result c =
    let n = c.in_ok-root.root.now in
    let same = own_or_copy tree_of n c.self.inside.node.value c.args.self c.in_ok-root.ensures.value c.self.view_is in
    let before : NoneBefore c.self.inside.first (slots (tree_of n)) = subst (λ x. NoneBefore c.self.inside.first (slots x)) (c.self.view_is ∙ sym same) c.self.invariant.0 in
    let supported : has_columns (type_of n.dtype) ≡ true = subst (λ x. has_columns (dtype x) ≡ true) (c.self.view_is ∙ sym same) c.self.invariant.1 in
    rw (c.make_mut.follows.holds (record { dtype = n.dtype; len = n.len; encoding = n.encoding; slots = with_item n.slots c.args.slot c.take-taken.new.self })
    (ap is_ok c.in_ok-root.was))
    ((none_left n.slots.items c.args.slot c.self.inside.first c.first_left-first.result c.take-taken.new.self c.take-taken.ensures.after before c.first_left-first.ensures), supported)

pub returns-clause-ok : goal.returns-clause-ok
returns-clause-ok c =
    let n = c.in_ok-root.root.now in
    let same = own_or_copy tree_of n c.self.inside.node.value c.args.self c.in_ok-root.ensures.value c.self.view_is in
    rw (c.make_mut.follows.holds (record { dtype = n.dtype; len = n.len; encoding = n.encoding; slots = with_item n.slots c.args.slot c.take-taken.new.self })
    (ap is_ok c.in_ok-root.was))
    (slot_out (type_of n.dtype) n.len (data_of n.encoding) n.slots.items c.args.slot c.in-Some.child c.args.self c.index_mut.result.now c.take-taken.new.self
    same c.requires (sym c.index_mut.ensures.value ∙ sym c.take-taken.ensures.value ∙ c.in-Some.is) c.take-taken.ensures.after)
