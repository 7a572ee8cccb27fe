-- A test for null: its parts. Its own type is never nullable.
use Rattle.std.proofs.Common.{◌≡◌, ℕ, List, [], ◌∷◌, Option, Some, None, refl, sym, ap, subst, ◌∙◌}
use Rattle.std.specs.Cmp.{unsigned_Decides}
use Rattle.vx_value.specs.Types.{DataType, nullability_of, bool, same_type_Decides}
use Rattle.vx_value.specs.declared.dtype.Nullability.TheVariants.{NonNullable, Nullable}
use Rattle.vx_tree.specs.Tree as enc
use Rattle.vx_tree.specs.Tree.{Tree, node, slots_of, validity_refusal}
use Rattle.vx_tree.specs.Well.{shape, shapes, IsNode, Shape}
use Rattle.vx_tree.specs.declared.validity.Validity.{Validity}
use Rattle.vx_tree.specs.Refusals.{of_child}
use Rattle.vx_tree.proofs.ConditionsLemmas.{none_refused, first_none, second_none, unless_none, none_unless}
use Rattle.vx_tree.proofs.RefusalsLemmas.{child_kept}
use Rattle.vx_tree.proofs.TellsLemmas.{Tells}

pub kept : (ty : DataType) (n : ℕ) (ss : List (Option Shape)) → of_child (validity_refusal ty n) ss ≡ None → IsNode ty n enc.is_valid ss
kept ty n ss h =
    let k = child_kept (validity_refusal ty n) ss h in
    let typed : ty ≡ bool NonNullable = (same_type_Decides ty (bool NonNullable)).0 (unless_none _ _ (first_none _ _ k.3)) in
    let counted : n ≡ k.1 = (unsigned_Decides n k.1).0 (unless_none _ _ (second_none _ _ k.3)) in
    (k.0, k.2 ∙ ap (λ z. Some (shape k.0 z) ∷ []) (sym counted), typed)

pub taken : (ty : DataType) (n : ℕ) (ss : List (Option Shape)) → IsNode ty n enc.is_valid ss → of_child (validity_refusal ty n) ss ≡ None
taken ty n ss h =
    let typed = none_unless _ _ ((same_type_Decides ty (bool NonNullable)).1 h.2) in
    let e : validity_refusal ty n h.0 n ≡ None = none_refused _ _ typed (none_unless _ _ ((unsigned_Decides n n).1 refl)) in
    subst (λ l. of_child (validity_refusal ty n) l ≡ None) (sym h.1) e

pub is_valid_node : (ty : DataType) (n : ℕ) (xs : List (Option Tree)) (v : Validity) → IsNode ty n enc.is_valid (shapes (slots_of xs))
    → nullability_of ty ≡ Nullable → Tells (node ty n enc.is_valid (slots_of xs)) v
is_valid_node ty n xs v h e = let no : NonNullable ≡ Nullable = sym (ap nullability_of h.2) ∙ e in absurd (cc no)
