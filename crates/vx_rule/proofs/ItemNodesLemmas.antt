-- The node of a field.
use Rattle.std.proofs.Common.{◌≡◌, ℕ, List, [], ◌∷◌, map, Option, Some, None, true, refl, ap, sym, subst, ◌∙◌}
use Rattle.std.specs.Prelude.{◌==◌, ◌&&◌, option_map}
use Rattle.std.proofs.lemmas.Bool.{eq-eqb}
use Rattle.vx_value.specs.Types as type
use Rattle.vx_value.specs.Types.{DataType, Fields, nullability_of}
use Rattle.vx_value.specs.Nested.{field_type}
use Rattle.vx_value.specs.Nullabilities.{with_nullability, union}
use Rattle.vx_value.specs.Supported.{has_columns}
use Rattle.vx_value.specs.declared.dtype.Nullability.{Nullability}
use Rattle.vx_value.specs.declared.dtype.Nullability.TheVariants.{NonNullable, Nullable}
use Rattle.vx_value.proofs.SupportedLemmas.{columns_kept}
use Rattle.vx_fn.specs.Meanings.{widened}
use Rattle.vx_fn.specs.ReturnTypes.{return_type}
use Rattle.vx_fn.specs.declared.function.ScalarFnRef.TheVariants as fn_of
use Rattle.vx_value.specs.declared.error.VortexError.TheVariants.{InvalidArgument}
use Rattle.vx_value.specs.declared.error.ArgKind.TheVariants.{ChildLen, BadType}
use Rattle.vx_tree.specs.Tree as enc
use Rattle.vx_tree.specs.Tree.{Tree, no_slots, slot, slots_of, dtype, len}
use Rattle.vx_tree.specs.Calls.{inferred, inferred_refusal, row_refusal}
use Rattle.vx_tree.specs.Conditions.{first_of_both, unless}
use Rattle.vx_tree.specs.Validities.{HasRows}
use Rattle.vx_tree.specs.Well.{shape, shape_of, shapes, IsNode, IsWell}
use Rattle.vx_tree.specs.declared.validity.Validity.TheVariants as validity
use Rattle.vx_tree.proofs.KindsLemmas.{len_in}
use Rattle.vx_rule.specs.Calls.{IsCallOf}
use Rattle.vx_rule.specs.Items.{HasItem, IsItem}
use Rattle.vx_rule.specs.Rules.{item_node}
use Rattle.vx_rule.proofs.FunctionsLemmas.{one_argument}

-- the call isn't refused
pub item_unrefused : (name : List ℕ) (c : Tree) → HasItem name c → inferred_refusal (fn_of.GetItem name) (c ∷ []) ≡ None
item_unrefused name c h =
    let same : (len c == len c) ≡ true = eq-eqb (len c) (len c) refl in
    (λ i. first_of_both (unless (same i && true) (InvalidArgument ChildLen)) (row_refusal (h.1 i)))
    ∙ (λ i. unless (h.2 i) (InvalidArgument BadType))

-- and it gives the node
pub item_made : (name : List ℕ) (c t : Tree) → HasItem name c → inferred (fn_of.GetItem name) (c ∷ []) ≡ Some t → IsItem name c t
item_made name c t h e =
    let made : Some (item_node name h.0 (len c) c) ≡ Some t = ap (option_map (λ ty. item_node name ty (len c) c)) (sym h.1) ∙ e in
    let is : item_node name h.0 (len c) c ≡ t = cc in
    (h.1 ∙ ap (λ x. Some (dtype x)) is, sym is ∙ ap (λ x. item_node name (dtype x) (len c) c) is)

-- a tree of the same type has it too, and so has what a masked array masks
pub has_of : (name : List ℕ) (x c : Tree) → dtype x ≡ dtype c → HasItem name x → HasItem name c
has_of name x c e h = (h.0, subst (λ s. return_type (fn_of.GetItem name) (s ∷ []) ≡ Some h.0) e h.1, h.2)

-- the struct that is masked, the type of its field, and those of the field's nodes
abbrev Unmasked : List ℕ → DataType → DataType → Type 0
Unmasked name s ty =
    (fs : Fields) × (m : Nullability) × (t : DataType) × (s ≡ type.struct fs m) × (field_type name fs ≡ Some t) × (ty ≡ with_nullability Nullable t)

unmasked : (name : List ℕ) (s ty : DataType) → return_type (fn_of.GetItem name) (with_nullability Nullable s ∷ []) ≡ Some ty → Unmasked name s ty
unmasked name (type.struct fs m) ty e = by_type (field_type name fs) refl e
  where
    by_type : (o : Option DataType) → field_type name fs ≡ o → widened (type.struct fs Nullable) o ≡ Some ty → Unmasked name (type.struct fs m) ty
    by_type None there e = absurd (cc)
    by_type (Some t) there e = (fs, m, t, refl, there, (let same : ty ≡ with_nullability Nullable t = cc in same))
unmasked name _ ty e = absurd (cc)

-- the field's type, as the struct has it
field_given : (name : List ℕ) (fs : Fields) (m : Nullability) (t : DataType) → field_type name fs ≡ Some t
    → return_type (fn_of.GetItem name) (type.struct fs m ∷ []) ≡ Some (with_nullability (union m (nullability_of t)) t)
field_given name fs m t e = ap (widened (type.struct fs m)) e

pub masked_has : (name : List ℕ) (x c : Tree) → dtype x ≡ with_nullability Nullable (dtype c) → HasItem name x → HasItem name c
masked_has name x c e h =
    let found = unmasked name (dtype c) h.0 (subst (λ s. return_type (fn_of.GetItem name) (s ∷ []) ≡ Some h.0) e h.1) in
    let fs = found.0 in
    let m = found.1 in
    let t = found.2 in
    let s = with_nullability (union m (nullability_of t)) t in (
      s,
      ap (λ y. return_type (fn_of.GetItem name) (y ∷ [])) found.3 ∙ field_given name fs m t found.4,
      columns_kept (union m (nullability_of t)) t ∙ sym (columns_kept Nullable t) ∙ ap has_columns (sym found.5) ∙ h.2,
    )

-- the node, by its type
pub item_is : (name : List ℕ) (ty : DataType) (c y : Tree) → IsItem name c y → return_type (fn_of.GetItem name) (dtype c ∷ []) ≡ Some ty
    → y ≡ item_node name ty (len c) c
item_is name ty c y h e = let same : dtype y ≡ ty = cc (h.0, e) in h.1 ∙ ap (λ s. item_node name s (len c) c) same

set_again : (n : Nullability) (t : DataType) → with_nullability Nullable (with_nullability n t) ≡ with_nullability Nullable t
set_again n (type.extension id t) = ap (type.extension id) (set_again n t)
set_again n _ = refl

-- the type of the field of a masked array
pub masked_item_type : (name : List ℕ) (ty : DataType) (x c y : Tree) → dtype x ≡ with_nullability Nullable (dtype c) → IsItem name c y
    → return_type (fn_of.GetItem name) (dtype x ∷ []) ≡ Some ty
    → with_nullability Nullable (dtype y) ≡ ty
masked_item_type name ty x c y e h r =
    let found = unmasked name (dtype c) ty (subst (λ s. return_type (fn_of.GetItem name) (s ∷ []) ≡ Some ty) e r) in
    let fs = found.0 in
    let m = found.1 in
    let t = found.2 in
    let given : Some (dtype y) ≡ Some (with_nullability (union m (nullability_of t)) t) =
    sym h.0 ∙ ap (λ s. return_type (fn_of.GetItem name) (s ∷ [])) found.3 ∙ field_given name fs m t found.4 in
    let same : dtype y ≡ with_nullability (union m (nullability_of t)) t = cc in
    ap (with_nullability Nullable) same ∙ set_again (union m (nullability_of t)) t ∙ sym found.5

-- a mask of a tree by truths of as many rows
pub mask_well : (ty : DataType) (n : ℕ) (c told : Tree) → len c ≡ n → HasRows (validity.Array told) n → with_nullability Nullable (dtype c) ≡ ty
    → IsNode ty n (enc.function fn_of.Mask) (shapes (slots_of (Some c ∷ Some told ∷ [])))
mask_well ty n c told long rows typed =
    (dtype c ∷ type.bool NonNullable ∷ [], (λ i. Some (shape (dtype c) (long i)) ∷ Some (shape (rows.1 i) (rows.2 i)) ∷ []), ap Some typed)

-- what holds of the argument of `get_item` in t
module _ (name : List ℕ) (t x : Tree) (call : IsCallOf (fn_of.GetItem name) (x ∷ []) t) where
  pub given_type : return_type (fn_of.GetItem name) (dtype x ∷ []) ≡ Some (dtype t)
  given_type = subst (λ tys. return_type (fn_of.GetItem name) tys ≡ Some (dtype t)) (one_argument (len t) call.1.0 x call.1.1) call.1.2

  pub given_long : len x ≡ len t
  given_long = long_of call.1.0 call.1.1
    where
      long_of : (tys : List DataType) → shapes (slot x no_slots) ≡ map (λ s. Some (shape s (len t))) tys → len x ≡ len t
      long_of [] e = absurd (cc)
      long_of (s ∷ tys) e = let is : shape_of x ≡ shape s (len t) = cc in ap len_in is

  pub given_has : has_columns (dtype t) ≡ true → HasItem name x
  given_has h = (dtype t, given_type, h)

  pub given_well : IsWell t → IsWell x
  given_well w = let here : IsWell (item_node name (dtype t) (len t) x) = subst IsWell call.0 w in here.1.0
