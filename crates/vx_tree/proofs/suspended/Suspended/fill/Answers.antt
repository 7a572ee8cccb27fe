use Rattle.std.proofs.Common.{◌≡◌, true, ◌<◌, length, arith, sym, ◌∙◌, ap, subst, Some}
use Rattle.std.specs.Prelude.{is_ok}
use Rattle.std.specs.Vec.{with_item}
use Rattle.vx_value.specs.View.{type_of}
use Rattle.vx_tree.specs.TreeView.{data_of, tree_of}
use Rattle.vx_value.specs.Supported.{has_columns}
use Rattle.vx_tree.specs.Tree.{slots, dtype}
use Rattle.vx_tree.specs.Slots.{IsHole, NoneBefore}
use Rattle.vx_tree.proofs.SlotsLemmas.{hole_bound, slot_filled, own_or_copy}
use Rattle.vx_tree.proofs.SuspendedLemmas.{none_filled}
use Rattle.vx_tree.proofs.suspended.Suspended.fill.Goals as goal

pub index_mut-requires : goal.index_mut-requires
index_mut-requires c =
    let n = c.in_ok-root.root.now in
    let same = own_or_copy tree_of n c.self.inside.node.value c.args.self c.in_ok-root.ensures.value c.self.view_is in
    let within : c.args.slot < length n.slots.items = hole_bound _ _ (subst (λ x. IsHole c.args.slot x) (sym same) c.requires) in
    omega (arith, n.slots.ok.0)

pub invariant_of-result : goal.invariant_of-result
invariant_of-result c =
    let n = c.in_ok-root.root.now in
    let same = own_or_copy tree_of n c.self.inside.node.value c.args.self c.in_ok-root.ensures.value c.self.view_is in
    let before : NoneBefore c.self.inside.first (slots (tree_of n)) = subst (λ x. NoneBefore c.self.inside.first (slots x)) (c.self.view_is ∙ sym same) c.self.invariant.0 in
    let supported : has_columns (type_of n.dtype) ≡ true = subst (λ x. has_columns (dtype x) ≡ true) (c.self.view_is ∙ sym same) c.self.invariant.1 in
    rw (c.make_mut.follows.holds (record { dtype = n.dtype; len = n.len; encoding = n.encoding; slots = with_item n.slots c.args.slot (Some c.args.child) })
    (ap is_ok c.in_ok-root.was))
    ((none_filled n.slots.items c.args.slot c.self.inside.first c.first_filled-first.result (Some c.args.child) before c.first_filled-first.ensures), supported)

pub returns-clause-ok : goal.returns-clause-ok
returns-clause-ok c =
    let n = c.in_ok-root.root.now in
    let same = own_or_copy tree_of n c.self.inside.node.value c.args.self c.in_ok-root.ensures.value c.self.view_is in
    rw (c.make_mut.follows.holds (record { dtype = n.dtype; len = n.len; encoding = n.encoding; slots = with_item n.slots c.args.slot (Some c.args.child) })
    (ap is_ok c.in_ok-root.was))
    (slot_filled (type_of n.dtype) n.len (data_of n.encoding) n.slots.items c.args.slot c.args.child c.args.self same)
