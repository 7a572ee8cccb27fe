use Rattle.std.proofs.Common.{◌≡◌, Some, ap, sym, subst, true, ◌∙◌}
use Rattle.vx_mask.specs.Masks.{bits_in}
use Rattle.vx_rule.specs.Tags.{is_open}
use Rattle.vx_tree.specs.Tree.{dtype, len, datum, node, function, slots_of, filter_of, all_long}
use Rattle.vx_tree.specs.Well.{IsNode, shapes}
use Rattle.vx_rule.proofs.SlotsLemmas.{called_long, chosen_node}
use Rattle.vx_rule.proofs.FitsLemmas.{fit_F7, raw_row}
use Rattle.vx_rule.proofs.encodings.scalar_fn.filter_of_function.Goals as goal

pub choose_slots-requires : goal.choose_slots-requires
choose_slots-requires c =
    let x = c.args.child.now in
    let p = c.function_parts in
    subst (λ n. all_long n (shapes (slots_of p.result.1.now)) ≡ true) (sym c.requires.long)
    (called_long (dtype x) (len x) p.result.0.now p.result.1.now p.ensures.node)

pub function_node-requires : goal.function_node-requires
function_node-requires c =
    let x = c.args.child.now in
    let p = c.function_parts in
    let us = slots_of c.in_ok-choices.choices.items in
    subst (λ n. IsNode (dtype x) n (function p.result.0.now) (shapes us)) (sym c.true_count.ensures)
    (chosen_node (dtype x) (len x) p.result.0.now (slots_of p.result.1.now) us x p.ensures.well p.ensures.shape p.ensures.node
    (bits_in c.args.mask.now) c.in_ok-choices.ensures.ok)

pub returns : goal.returns
returns c =
    let x = c.args.child.now in
    let p = c.function_parts in
    let f = p.result.0.now in
    let us = slots_of c.in_ok-choices.choices.items in
    let bits = bits_in c.args.mask.now in
    raw_row (Some 0) (filter_of bits x) c.in_ok-call.call c.raw.result c.raw.ensures
    (λ u os e g. fit_F7 (len x) bits (dtype x) f (slots_of p.result.1.now) us x u os (sym (ap (λ y. is_open (datum y)) p.ensures.shape) ∙ c.requires.open) p.ensures.shape
    c.in_ok-choices.ensures.ok
    (e ∙ c.in_ok-call.ensures.ok ∙ ap (λ n. node (dtype x) n (function f) us) c.true_count.ensures) g)
