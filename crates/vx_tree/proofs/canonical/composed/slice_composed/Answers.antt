use Rattle.std.proofs.Common.{◌≡◌, ◌-◌, rules, sym, ◌∙◌, ap, subst, true}
use Rattle.std.proofs.lemmas.Result.{IfOk-weaker}
use Rattle.vx_value.specs.View.{type_of}
use Rattle.vx_tree.specs.Tree.{composed, dtype, node, slots_of, slice_of}
use Rattle.vx_tree.specs.Well.{IsNode, shapes}
use Rattle.vx_tree.specs.Keeps.{KeepsExactly}
use Rattle.vx_tree.specs.Parts.{part_of}
use Rattle.vx_tree.specs.Slots.{map_slots}
use Rattle.vx_value.specs.Supported.{has_columns}
use Rattle.vx_tree.proofs.ComposedSlicesLemmas.{sliced}
use Rattle.vx_tree.proofs.canonical.composed.slice_composed.Given as given
use Rattle.vx_tree.proofs.canonical.composed.slice_composed.Goals as goal

pub slice_slots-requires : goal.slice_slots-requires
slice_slots-requires g c =
    let e = c.composed_slots.ensures in
    (sliced g.V.ComposedEncoding.layout c.args.column.now c.args.range.start c.args.range.end c.composed_slots.result.now e.formed e.composed e.slots c.requires.0 c.requires.1).0

pub of-requires-clause-node : goal.of-requires-clause-node
of-requires-clause-node g c =
    let e = c.composed_slots.ensures in
    let part = sliced g.V.ComposedEncoding.layout c.args.column.now c.args.range.start c.args.range.end c.composed_slots.result.now e.formed e.composed e.slots c.requires.0 c.requires.1 in
    let typed : type_of c.in_ok-dtype.dtype ≡ dtype c.args.column.now = search rules in
    subst (λ x. x) (λ i. IsNode (sym typed i) (c.args.range.end - c.args.range.start) (sym c.no_data.ensures i) (shapes (sym c.in_ok-slots.ensures.ok i))) part.1.0

-- the node that is made
the_node : (g : given.Over) (c : goal.After-no_data g)
    → node (type_of c.in_ok-dtype.dtype) (c.args.range.end - c.args.range.start) (g.V.EncodingVariant.stands_for c.no_data.result) (slots_of c.in_ok-slots.slots.items)
    ≡ node (dtype c.args.column.now) (c.args.range.end - c.args.range.start) (composed g.V.ComposedEncoding.layout)
    (map_slots (part_of c.args.range.start c.args.range.end) (slots_of c.composed_slots.result.now))
the_node g c =
    let typed : type_of c.in_ok-dtype.dtype ≡ dtype c.args.column.now = search rules in
    λ i. node (typed i) (c.args.range.end - c.args.range.start) (c.no_data.ensures i) (c.in_ok-slots.ensures.ok i)

pub returns-clause-ok : goal.returns-clause-ok
returns-clause-ok g c =
    let e = c.composed_slots.ensures in
    let part = sliced g.V.ComposedEncoding.layout c.args.column.now c.args.range.start c.args.range.end c.composed_slots.result.now e.formed e.composed e.slots c.requires.0 c.requires.1 in
    IfOk-weaker c.of.result _ _ (λ a is. subst (KeepsExactly (slice_of c.args.range.start c.args.range.end c.args.column.now)) (sym (is ∙ the_node g c.before)) part.1.1.0) c.of.ensures.ok

pub returns-clause-range : goal.returns-clause-range
returns-clause-range g c =
    let e = c.composed_slots.ensures in
    let part = sliced g.V.ComposedEncoding.layout c.args.column.now c.args.range.start c.args.range.end c.composed_slots.result.now e.formed e.composed e.slots c.requires.0 c.requires.1 in
    IfOk-weaker c.of.result _ _ (λ a is. is ∙ the_node g c.before ∙ part.1.1.1) c.of.ensures.ok

pub of-requires-clause-supported : goal.of-requires-clause-supported
of-requires-clause-supported g c =
    let typed : type_of c.in_ok-dtype.dtype ≡ dtype c.args.column.now = search rules in
    subst (λ x. x) (λ i. has_columns (sym typed i) ≡ true) c.composed_slots.ensures.columns
