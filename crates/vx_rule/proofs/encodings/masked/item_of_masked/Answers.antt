use Rattle.std.proofs.Common.{◌≡◌, Some, ◌∷◌, [], ap, sym, subst, ◌∙◌}
use Rattle.vx_value.specs.Nullabilities.{with_nullability}
use Rattle.vx_value.specs.declared.dtype.Nullability.TheVariants.{Nullable}
use Rattle.vx_fn.specs.declared.function.ScalarFnRef.TheVariants as fn_of
use Rattle.vx_tree.specs.Tree.{dtype, len, node, function, masked_of, slots_of}
use Rattle.vx_tree.specs.Well.{IsNode, shapes}
use Rattle.vx_rule.specs.Rules.{validity_column}
use Rattle.vx_rule.proofs.ItemNodesLemmas.{has_of, masked_has, masked_item_type, mask_well, given_type, given_long, given_has}
use Rattle.vx_rule.proofs.MaskedLemmas.{masked_told}
use Rattle.vx_rule.proofs.FitsLemmas.{fit_G3, first_row}
use Rattle.vx_rule.proofs.encodings.masked.item_of_masked.Goals as goal

pub item_of-requires : goal.item_of-requires
item_of-requires c =
    let t = c.args.parent.now in
    let x = c.args.child.now in
    let name = c.args.name.now in
    let inner = c.masked_parts.result.0.now in
    let same : inner ≡ c.in_ok-clone.field-0 = sym c.in_ok-clone.ensures.cases in
    has_of name inner c.in_ok-clone.field-0 (ap dtype same)
    (masked_has name x inner (ap dtype c.masked_parts.ensures.shape) (given_has name t x c.requires.call c.well_formed_tree.ensures.supported))

pub function_node-requires : goal.function_node-requires
function_node-requires c =
    let t = c.args.parent.now in
    let x = c.args.child.now in
    let name = c.args.name.now in
    let p = c.masked_parts in
    let y = c.in_ok-clone.field-0 in
    let v = p.result.1.now in
    let item = c.in_ok-item.item in
    let told = c.in_ok-validity.validity in
    let child : y ≡ p.result.0.now = c.in_ok-clone.ensures.cases in
    let outer : dtype x ≡ with_nullability Nullable (dtype y) = ap dtype p.ensures.shape ∙ ap (λ z. with_nullability Nullable (dtype z)) (sym child) in
    let long = ap len c.in_ok-item.ensures.ok.1 ∙ ap len child ∙ sym (ap len p.ensures.shape) ∙ given_long name t x c.requires.call in
    let tells : told ≡ validity_column (len t) (slots_of (v ∷ [])) =
    c.in_ok-validity.ensures.ok ∙ (λ i. validity_column (c.len-len.ensures i) (slots_of (v ∷ []))) in
    let rows = masked_told (len t) x p.result.0.now v p.ensures.shape p.ensures.well (given_long name t x c.requires.call) told tells in
    let made = mask_well (dtype t) (len t) item told long rows
    (masked_item_type name (dtype t) x y item outer c.in_ok-item.ensures.ok (given_type name t x c.requires.call)) in
    let items = c.in_ok-slots.ensures.items in
    subst (λ z. z) (λ i. IsNode (dtype t) (sym c.len-len.ensures i) (function fn_of.Mask) (shapes (slots_of (sym items i)))) made

pub returns : goal.returns
returns c =
    let t = c.args.parent.now in
    let x = c.args.child.now in
    let name = c.args.name.now in
    let p = c.masked_parts in
    let y = c.in_ok-clone.field-0 in
    let v = p.result.1.now in
    let child : y ≡ p.result.0.now = c.in_ok-clone.ensures.cases in
    let is : x ≡ masked_of y v = p.ensures.shape ∙ ap (λ z. masked_of z v) (sym child) in
    let long : len y ≡ len t = sym (ap len is) ∙ given_long name t x c.requires.call in
    let tells = c.in_ok-validity.ensures.ok ∙ (λ i. validity_column (c.len-len.ensures i) (slots_of (v ∷ []))) in
    let made = c.in_ok-mask.ensures.ok ∙ (λ i. node (dtype t) (c.len-len.ensures i) (function fn_of.Mask) (slots_of (c.in_ok-slots.ensures.items i))) in
    first_row (Some 0) t c.in_ok-mask.mask c.raw_first.result c.raw_first.ensures
    (λ u os e g. fit_G3 name t x y c.in_ok-item.item c.in_ok-validity.validity u v os c.requires.call.0 is long c.in_ok-item.ensures.ok tells (e ∙ made) g)
