use Rattle.std.proofs.Common.{◌≡◌, Some, ◌∷◌, [], sym, subst, ◌∙◌}
use Rattle.vx_fn.specs.declared.function.ScalarFnRef.TheVariants as fn_of
use Rattle.vx_tree.specs.Tree.{dtype, len, node, function, slots_of}
use Rattle.vx_tree.specs.Well.{IsNode, shapes}
use Rattle.vx_tree.specs.NodeValidities.{both_of}
use Rattle.vx_rule.specs.Rules.{validity_column}
use Rattle.vx_rule.proofs.FitsLemmas.{fit_M1}
use Rattle.vx_rule.proofs.MaskedLemmas.{told_has_rows, both_node}
use Rattle.vx_rule.proofs.encodings.masked.mask_of_masked.Goals as goal

pub and_lazily-requires-clause-second : goal.and_lazily-requires-clause-second
and_lazily-requires-clause-second c =
    let t = c.args.parent.now in
    let p = c.masked_parts in
    let y = c.in_ok-validity.validity in
    let is : y ≡ validity_column (len t) (slots_of (p.result.1.now ∷ [])) =
    c.in_ok-validity.ensures.ok ∙ (λ i. validity_column (c.len-len.ensures i) (slots_of (p.result.1.now ∷ []))) in
    rw c.len-len.ensures (told_has_rows (dtype t) (len t) t c.args.input.now c.args.mask.now p.result.0.now p.result.1.now c.well_formed_tree.ensures.formed
    c.requires.call.0 c.requires.call.1 p.ensures.shape y is)

pub function_node-requires : goal.function_node-requires
function_node-requires c =
    let t = c.args.parent.now in
    let p = c.masked_parts in
    let m = c.in_ok-clone.field-0 in
    let y = c.in_ok-validity.validity in
    let both : c.in_ok-both.both ≡ both_of (len t) m y = c.in_ok-both.ensures.ok ∙ (λ i. both_of (c.len-len.ensures i) m y) in
    let items = c.in_ok-slots.ensures.items ∙ (λ i. Some (c.in_ok-clone-2.ensures.cases i) ∷ Some c.in_ok-both.both ∷ []) in
    let made = both_node (dtype t) (len t) t c.args.input.now c.args.mask.now p.result.0.now p.result.1.now c.well_formed_tree.ensures.formed
    c.requires.call.0 c.requires.call.1 p.ensures.shape m y c.in_ok-both.both both in
    subst (λ x. x) (λ i. IsNode (dtype t) (sym c.len-len.ensures i) (function fn_of.Mask) (shapes (slots_of (sym items i)))) made

pub returns : goal.returns
returns c =
    let t = c.args.parent.now in
    let p = c.masked_parts in
    let m = c.in_ok-clone.field-0 in
    let y = c.in_ok-validity.validity in
    let is : y ≡ validity_column (len t) (slots_of (p.result.1.now ∷ [])) =
    c.in_ok-validity.ensures.ok ∙ (λ i. validity_column (c.len-len.ensures i) (slots_of (p.result.1.now ∷ []))) in
    let both : c.in_ok-both.both ≡ both_of (len t) c.args.mask.now y =
    c.in_ok-both.ensures.ok ∙ (λ i. both_of (c.len-len.ensures i) (c.in_ok-clone.ensures.cases i) y) in
    let items = c.in_ok-slots.ensures.items ∙ (λ i. Some (c.in_ok-clone-2.ensures.cases i) ∷ Some c.in_ok-both.both ∷ []) in
    let made = c.done.ensures.tree ∙ c.in_ok-call.ensures.ok ∙ (λ i. node (dtype t) (c.len-len.ensures i) (function fn_of.Mask) (slots_of (items i))) in
    fit_M1 (dtype t) (len t) t c.args.input.now p.result.0.now c.args.mask.now y c.in_ok-both.both c.done.result.tree
    p.result.1.now c.done.result.optimize.items c.requires.call.0 p.ensures.shape is both made c.done.ensures.optimize
