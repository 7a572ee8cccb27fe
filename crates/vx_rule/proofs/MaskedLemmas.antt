-- A mask of a masked array: row M1.
use Rattle.std.proofs.Common.{◌≡◌, ℕ, List, [], ◌∷◌, map, Option, Some, None, refl, sym, subst, ap, ◌∙◌}
use Rattle.std.specs.Prelude.{option_map, IfSome}
use Rattle.vx_value.specs.Types as type
use Rattle.vx_value.specs.Types.{DataType}
use Rattle.vx_value.specs.Nullabilities.{with_nullability}
use Rattle.vx_value.specs.declared.dtype.Nullability.TheVariants.{NonNullable, Nullable}
use Rattle.vx_fn.specs.Mask.{mask_type}
use Rattle.vx_fn.specs.ReturnTypes.{return_type}
use Rattle.vx_fn.specs.declared.function.ScalarFnRef.TheVariants as fn_of
use Rattle.vx_tree.specs.Tree as enc
use Rattle.vx_tree.specs.Tree.{Tree, node, slots_of, dtype, len, masked_of}
use Rattle.vx_tree.specs.Well.{shape, shape_of, shapes, IsNode, IsWell, IsValidity}
use Rattle.vx_tree.specs.Validities.{HasRows}
use Rattle.vx_tree.specs.NodeValidities.{both_of}
use Rattle.vx_tree.specs.declared.validity.Validity.TheVariants as validity
use Rattle.vx_rule.specs.Rules.{validity_column}
use Rattle.vx_rule.proofs.SlotsLemmas.{masked_parts, well_second}

-- ---- the types of a mask's arguments

mask_known : (s t ty : DataType) → mask_type s t ≡ Some ty → (t ≡ type.bool NonNullable) × (ty ≡ with_nullability Nullable s)
mask_known s (type.bool NonNullable) ty e = let same : with_nullability Nullable s ≡ ty = cc (e) in (refl, sym same)
mask_known s _ ty e = absurd (cc (e))

-- an array and its mask, both of n rows: ty is the type of the masked rows
record Arguments (x m : Tree) (ty : DataType) (n : ℕ) : Type 0 where
  truths : dtype m ≡ type.bool NonNullable
  counted : len m ≡ n
  long : len x ≡ n
  typed : ty ≡ with_nullability Nullable (dtype x)

arguments : (x m : Tree) (ty : DataType) (n : ℕ) (tys : List DataType) → Some (shape_of x) ∷ Some (shape_of m) ∷ [] ≡ map (λ s. Some (shape s n)) tys
    → return_type fn_of.Mask tys ≡ Some ty → Arguments x m ty n
arguments x m ty n [] e r = absurd (cc)
arguments x m ty n (s ∷ []) e r = absurd (cc)
arguments x m ty n (s ∷ t ∷ []) e r =
    let known = mask_known s t ty r in
    let first : dtype x ≡ s = cc (e) in
    let second : dtype m ≡ t = cc (e) in
    record { truths = second ∙ known.0; counted = cc (e); long = cc (e); typed = known.1 ∙ ap (with_nullability Nullable) (sym first) }
arguments x m ty n (s ∷ t ∷ u ∷ tys) e r = absurd (cc)

twice : (s : DataType) → with_nullability Nullable (with_nullability Nullable s) ≡ with_nullability Nullable s
twice type.null = refl
twice (type.extension id s) = ap (type.extension id) (twice s)
twice _ = refl

told_rows : (n k : ℕ) (v : Option Tree) → IfSome v IsWell → IsValidity Nullable k (option_map shape_of v) → k ≡ n
    → HasRows (validity.Array (validity_column n (slots_of (v ∷ [])))) n
told_rows n k None w ok e = (((refl, refl, refl), tt), refl, refl)
told_rows n k (Some t) w ok e = (w, cc (ok), let same : len t ≡ k = cc (ok) in same ∙ e)

-- of a well-formed masked array x of n rows
pub masked_told : (n : ℕ) (x c : Tree) (v : Option Tree) → x ≡ masked_of c v → IsWell x → len x ≡ n → (y : Tree) → y ≡ validity_column n (slots_of (v ∷ []))
    → HasRows (validity.Array y) n
masked_told n x c v is well long y e =
    let w : IsWell (masked_of c v) = subst IsWell is well in
    subst (λ z. HasRows (validity.Array z) n) (sym e) (told_rows n (len c) v (well_second c v w.1) (masked_parts c v w.0) (sym (ap len is) ∙ long))

-- p masks x by m, and x masks c by v
module _ (ty : DataType) (n : ℕ) (p x m c : Tree) (v : Option Tree) (well : IsWell p)
    (is : p ≡ node ty n (enc.function fn_of.Mask) (slots_of (Some x ∷ Some m ∷ [])))
    (ok : IsNode ty n (enc.function fn_of.Mask) (shapes (slots_of (Some x ∷ Some m ∷ [])))) (inner : x ≡ masked_of c v) where
  under : IsWell x × IsWell m
  under = let w : IsWell (node ty n (enc.function fn_of.Mask) (slots_of (Some x ∷ Some m ∷ []))) = subst IsWell is well in (w.1.0, w.1.1.0)

  here : Arguments x m ty n
  here = arguments x m ty n ok.0 ok.1 ok.2

  child_long : len c ≡ n
  child_long = sym (ap len inner) ∙ here.long

  pub told_has_rows : (y : Tree) → y ≡ validity_column n (slots_of (v ∷ [])) → HasRows (validity.Array y) n
  told_has_rows y e = masked_told n x c v inner under.0 here.long y e

  pub both_node : (y z both : Tree) → both ≡ both_of n y z → IsNode ty n (enc.function fn_of.Mask) (shapes (slots_of (Some c ∷ Some both ∷ [])))
  both_node y z both e =
      let typed : with_nullability Nullable (dtype c) ≡ ty = sym (here.typed ∙ ap (λ t. with_nullability Nullable (dtype t)) inner ∙ twice (dtype c)) in
      (dtype c ∷ type.bool NonNullable ∷ [], (λ i. Some (shape (dtype c) (child_long i)) ∷ Some (shape_of (e i)) ∷ []), ap Some typed)
