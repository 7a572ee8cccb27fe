use Rattle.std.proofs.Common.{◌≡◌, Some, ◌∷◌, [], ap, sym, ◌∙◌}
use Rattle.vx_fn.specs.ReturnTypes.{return_type}
use Rattle.vx_fn.specs.declared.function.ScalarFnRef.TheVariants as fn_of
use Rattle.vx_tree.specs.Tree.{dtype, len, slice_of}
use Rattle.vx_rule.specs.Rules.{item_node}
use Rattle.vx_rule.proofs.ItemNodesLemmas.{given_type, item_is}
use Rattle.vx_rule.proofs.FitsLemmas.{fit_G2, first_row}
use Rattle.vx_rule.proofs.encodings.slice.item_of_slice.Goals as goal

pub returns : goal.returns
returns c =
    let t = c.args.parent.now in
    let x = c.args.child.now in
    let name = c.args.name.now in
    let inner = c.in-Slice.inner.now in
    let a = c.in-Slice.start in
    let b = c.in-Slice.stop in
    let child : c.in_ok-clone.field-0 ≡ inner = c.in_ok-clone.ensures.cases in
    let is : x ≡ slice_of a b inner = c.in-Slice.ensures.0 in
    let typed : return_type (fn_of.GetItem name) (dtype c.in_ok-clone.field-0 ∷ []) ≡ Some (dtype t) =
    ap (λ y. return_type (fn_of.GetItem name) (dtype y ∷ [])) child ∙ ap (λ y. return_type (fn_of.GetItem name) (dtype y ∷ [])) (sym is)
    ∙ given_type name t x c.requires.call in
    let item = item_is name (dtype t) c.in_ok-clone.field-0 c.in_ok-item.item c.in_ok-item.ensures.ok typed
    ∙ ap (λ y. item_node name (dtype t) (len y) y) child in
    let made = c.into_array.ensures ∙ c.in_ok-slice.ensures.ok in
    first_row (Some 0) t c.into_array.result c.raw_first.result c.raw_first.ensures
    (λ u os e g. fit_G2 name a b t x inner c.in_ok-item.item u os c.requires.call.0 is item (e ∙ made) g)
