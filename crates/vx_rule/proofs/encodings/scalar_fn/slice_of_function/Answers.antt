use Rattle.std.proofs.Common.{Some, sym, ap, ◌∙◌}
use Rattle.vx_tree.specs.Tree.{dtype, len, datum, slots_of, slice_of}
use Rattle.vx_rule.specs.Tags.{is_open}
use Rattle.vx_rule.proofs.SlotsLemmas.{called_long, sliced_node}
use Rattle.vx_rule.proofs.FitsLemmas.{fit_S4, raw_row}
use Rattle.vx_rule.proofs.encodings.scalar_fn.slice_of_function.Goals as goal

pub slice_slots-requires-clause-long : goal.slice_slots-requires-clause-long
slice_slots-requires-clause-long c =
    let x = c.args.child.now in
    let p = c.function_parts in
    rw c.len.ensures (called_long (dtype x) (len x) p.result.0.now p.result.1.now p.ensures.node)

pub function_node-requires : goal.function_node-requires
function_node-requires c =
    let x = c.args.child.now in
    let p = c.function_parts in
    sliced_node (dtype x) (len x) p.result.0.now (slots_of p.result.1.now) (slots_of c.in_ok-slices.slices.items) x p.ensures.well p.ensures.shape
    p.ensures.node c.args.range.start c.args.range.end c.in_ok-slices.ensures.ok

pub returns : goal.returns
returns c =
    let a = c.args.range.start in
    let b = c.args.range.end in
    let x = c.args.child.now in
    let p = c.function_parts in
    raw_row (Some 0) (slice_of a b x) c.in_ok-call.call c.raw.result c.raw.ensures
    (λ u os e g. fit_S4 a b (len x) (dtype x) p.result.0.now (slots_of p.result.1.now) (slots_of c.in_ok-slices.slices.items) x u os
    (sym (ap (λ y. is_open (datum y)) p.ensures.shape) ∙ c.requires.open) p.ensures.shape c.requires.part.0 c.in_ok-slices.ensures.ok (e ∙ c.in_ok-call.ensures.ok) g)
