-- The arguments of a call, the first of which stands in slot 0.
use Rattle.std.proofs.Common.{◌≡◌, List, [], ◌∷◌, Option, Some, subst, ap, ◌∙◌}
use Rattle.vx_fn.specs.Functions.{arity}
use Rattle.vx_fn.specs.declared.function.ScalarFnRef.{ScalarFnRef}
use Rattle.vx_tree.specs.Tree as enc
use Rattle.vx_tree.specs.Tree.{Tree, Data, Slots, node, no_slots, slot, slots_of, filled_slots, dtype, len, datum, slice_of, filter_of, dict_of}
use Rattle.vx_tree.specs.Slots.{HoldsAt, HasSlot}
use Rattle.vx_tree.specs.Well.{IsNode, shapes}
use Rattle.vx_rule.specs.Calls.{IsCallOf}
use Rattle.vx_rule.proofs.SlotsLemmas.{one_argument}

-- t is the function's node over xs, and holds c in its first slot
module _ (f : ScalarFnRef) (xs : List (Option Tree)) (c t : Tree) (is : t ≡ node (dtype t) (len t) (enc.function f) (slots_of xs))
    (ok : IsNode (dtype t) (len t) (enc.function f) (shapes (slots_of xs))) (held : HasSlot 0 c t) where
  called_on : (ts : List Tree) → slots_of xs ≡ filled_slots ts → IsCallOf f ts t
  called_on ts e =
      (is ∙ ap (node (dtype t) (len t) (enc.function f)) e, subst (λ ss. IsNode (dtype t) (len t) (enc.function f) (shapes ss)) e ok)

  first_is : (x : Tree) (rest : List (Option Tree)) → xs ≡ Some x ∷ rest → x ≡ c
  first_is x rest e = subst (λ ys. HoldsAt 0 c (slots_of ys)) e (subst (HasSlot 0 c) is held)

  pub call_of_one : arity f ≡ 1 → IsCallOf f (c ∷ []) t
  call_of_one k =
      let only = one_argument (dtype t) (len t) f xs ok k in
      called_on (c ∷ []) (ap slots_of only.1 ∙ ap (λ x. slot x no_slots) (first_is only.0 [] only.1))

  pub call_of_two : (x y : Tree) → xs ≡ Some x ∷ Some y ∷ [] → IsCallOf f (c ∷ y ∷ []) t
  call_of_two x y e = called_on (c ∷ y ∷ []) (ap slots_of e ∙ ap (λ z. slot z (slot y no_slots)) (first_is x (Some y ∷ []) e))

  pub call_of_three : (x y z : Tree) → xs ≡ Some x ∷ Some y ∷ Some z ∷ [] → IsCallOf f (c ∷ y ∷ z ∷ []) t
  call_of_three x y z e =
      called_on (c ∷ y ∷ z ∷ []) (ap slots_of e ∙ ap (λ w. slot w (slot y (slot z no_slots))) (first_is x (Some y ∷ Some z ∷ []) e))

-- t is a dictionary, whose values stand in slot 1
pub values_of : (k v c t : Tree) → t ≡ dict_of k v → HasSlot 1 c t → t ≡ dict_of k c
values_of k v c t is held = is ∙ ap (dict_of k) (subst (HasSlot 1 c) is held)
