use Rattle.std.proofs.Common.{◌≡◌, ◌≤◌, rules, ap, sym, subst, ◌∙◌}
use Rattle.std.proofs.lemmas.Result.{IfOk-weaker}
use Rattle.vx_value.specs.View.{type_of}
use Rattle.vx_tree.specs.Tree.{dtype, slice_of}
use Rattle.vx_tree.specs.Columns.{count_in}
use Rattle.vx_tree.specs.Keeps.{KeepsExactly}
use Rattle.vx_tree.proofs.FlatLemmas.{flat_has_range, flat_counted}
use Rattle.vx_tree.proofs.PartsLemmas.{IsCut, flat_cut}
use Rattle.vx_tree.proofs.canonical.flat.flat_slice.Given as given
use Rattle.vx_tree.proofs.canonical.flat.flat_slice.Goals as goal

pub slice_validity-requires : goal.slice_validity-requires
slice_validity-requires g c =
    let e = c.flat_validity-validity.ensures in
    flat_has_range c.args.column.now c.flat_validity-validity.result.now c.args.range.start c.args.range.end e.formed e.flat e.slot c.requires.0 c.requires.1

pub slice_values-requires-clause-bounds : goal.slice_values-requires-clause-bounds
slice_values-requires-clause-bounds g c =
    let e = c.flat_validity-validity.ensures in
    subst (λ n. c.args.range.end ≤ n) (flat_counted c.args.column.now e.formed e.flat ∙ ap count_in (sym c.data.ensures)) c.requires.1

cut : (g : given.Over) (c : goal.In_ok-payload g) →
    IsCut c.args.range.start c.args.range.end c.args.column.now c.in_ok-validity.validity (type_of c.in_ok-dtype.dtype)
    (g.V.EncodingVariant.stands_for c.in_ok-payload.payload)
cut g c =
    let e = c.flat_validity-validity.ensures in
    let typed : type_of c.in_ok-dtype.dtype ≡ dtype c.args.column.now = search rules in
    flat_cut c.args.range.start c.args.range.end c.args.column.now c.flat_validity-validity.result.now c.in_ok-validity.validity (type_of c.in_ok-dtype.dtype)
    (g.V.EncodingVariant.stands_for c.in_ok-payload.payload) (g.V.EncodingVariant.stands_for c.data.result.now) e.formed e.slot c.requires.0 c.requires.1 e.flat
    c.in_ok-validity.ensures.ok typed c.in_ok-payload.ensures.ok c.data.ensures

pub over-requires-clause-node : goal.over-requires-clause-node
over-requires-clause-node g c = (cut g c).0

pub returns-clause-ok : goal.returns-clause-ok
returns-clause-ok g c =
    IfOk-weaker c.over.result _ _ (λ u made. subst (KeepsExactly (slice_of c.args.range.start c.args.range.end c.args.column.now)) (sym made)
    (cut g c.before).1) c.over.ensures.ok

pub returns-clause-range : goal.returns-clause-range
returns-clause-range g c = IfOk-weaker c.over.result _ _ (λ u made. made ∙ (cut g c.before).2) c.over.ensures.ok
