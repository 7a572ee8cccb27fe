use Rattle.std.proofs.Common.{◌≡◌, refl, ap, sym, subst, ◌∙◌}
use Rattle.vx_value.specs.Supported.{has_columns}
use Rattle.vx_value.specs.View.{type_of}
use Rattle.vx_fn.specs.declared.function.ScalarFnRef.{ScalarFnRef}
use Rattle.vx_fn.specs.declared.function.ScalarFnRef.TheVariants as fn_of
use Rattle.vx_fn.specs.contracts.function.ScalarFnRefClone.TheImpl as cloning
use Rattle.vx_tree.specs.Tree.{dtype, node, function, slots_of}
use Rattle.vx_tree.specs.Well.{IsNode, shapes}
use Rattle.vx_rule.proofs.nodes.function_node.Goals as goal

-- a clone of a function is the function
clone_is_same : (f g : ScalarFnRef) → cloning.ghosts.is_clone f g → g ≡ f
clone_is_same (fn_of.Binary _) (fn_of.Binary _) e = ap fn_of.Binary e
clone_is_same (fn_of.Between _) (fn_of.Between _) e = ap fn_of.Between e
clone_is_same (fn_of.Cast _) (fn_of.Cast _) e = ap fn_of.Cast e
clone_is_same (fn_of.GetItem _) (fn_of.GetItem _) e = ap fn_of.GetItem e
clone_is_same (fn_of.Pack _) (fn_of.Pack _) e = λ i. fn_of.Pack (record { names = e.0 i; nullability = e.1 i })
clone_is_same (fn_of.PreparedSet _) (fn_of.PreparedSet _) e = ap fn_of.PreparedSet e
clone_is_same fn_of.ListContains fn_of.ListContains e = refl
clone_is_same fn_of.Not fn_of.Not e = refl
clone_is_same fn_of.Mask fn_of.Mask e = refl
clone_is_same fn_of.Zip fn_of.Zip e = refl
clone_is_same fn_of.FillNull fn_of.FillNull e = refl
clone_is_same fn_of.IsNull fn_of.IsNull e = refl
clone_is_same fn_of.IsNotNull fn_of.IsNotNull e = refl
clone_is_same _ _ e = absurd e

pub from_parts_unchecked-requires-clause-node : goal.from_parts_unchecked-requires-clause-node
from_parts_unchecked-requires-clause-node c =
    let typed : type_of c.in_ok-clone-2.field-0 ≡ dtype c.args.original.now = ap type_of c.in_ok-clone-2.ensures.cases ∙ c.dtype.ensures.dtype in
    let same = ap (λ p. p.scalar_fn) c.new-payload.ensures ∙ clone_is_same _ _ c.in_ok-clone.ensures.cases in
    rw c.new-parts.ensures (subst (λ x. x) (λ i. IsNode (sym typed i) c.args.len (function (sym same i)) (shapes (slots_of c.args.slots.items))) c.requires)

pub returns-clause-ok : goal.returns-clause-ok
returns-clause-ok c =
    let typed : type_of c.in_ok-clone-2.field-0 ≡ dtype c.args.original.now = ap type_of c.in_ok-clone-2.ensures.cases ∙ c.dtype.ensures.dtype in
    let same = ap (λ p. p.scalar_fn) c.new-payload.ensures ∙ clone_is_same _ _ c.in_ok-clone.ensures.cases in
    let made = rw c.new-parts.ensures at c.in_ok-from_parts_unchecked.ensures.ok in
    c.into_array.ensures ∙ made ∙ (λ i. node (typed i) c.args.len (function (same i)) (slots_of c.args.slots.items))

pub from_parts_unchecked-requires-clause-supported : goal.from_parts_unchecked-requires-clause-supported
from_parts_unchecked-requires-clause-supported c =
    let typed : type_of c.in_ok-clone-2.field-0 ≡ dtype c.args.original.now = ap type_of c.in_ok-clone-2.ensures.cases ∙ c.dtype.ensures.dtype in
    ap (λ p. has_columns (type_of p.dtype)) c.new-parts.ensures ∙ ap has_columns typed ∙ c.dtype.ensures.columns
