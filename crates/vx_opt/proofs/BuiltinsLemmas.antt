-- Calls of functions over trees.
use Rattle.std.proofs.Common.{◌≡◌, ℕ, List, [], ◌∷◌, true, false, ◌&&◌, Some, None, Result, Ok, Err, if◌then◌else◌, IfOk, IfErr, refl, sym, ◌∙◌, ap, subst, inl, inr}
use Rattle.std.specs.Prelude.{option_map}
use Rattle.std.proofs.lemmas.Bool.{eq-eqb, false_from_ne_true, false≢true}
use Rattle.vx_value.specs.View.{type_of}
use Rattle.vx_value.specs.Casts.{has_cast}
use Rattle.vx_value.specs.Nullabilities.{same_but_nullability, same_but_nullability_Decides}
use Rattle.vx_value.specs.Supported.{has_columns}
use Rattle.vx_value.specs.Typed.{Typed}
use Rattle.vx_value.specs.declared.dtype.Nullability.TheVariants.{NonNullable}
use Rattle.vx_value.specs.declared.dtype.DType.{DType}
use Rattle.vx_value.specs.declared.error.VortexError.{VortexError}
use Rattle.vx_value.specs.declared.error.VortexError.TheVariants.{InvalidArgument}
use Rattle.vx_value.specs.declared.error.ArgKind.TheVariants.{ChildLen, NoRow, BadType}
use Rattle.vx_value.proofs.CastsLemmas.{cast_to_self}
use Rattle.vx_value.proofs.SupportedLemmas.{columns_kept}
use Rattle.vx_fn.specs.ReturnTypes.{return_type}
use Rattle.vx_fn.specs.declared.function.ScalarFnRef.{ScalarFnRef}
use Rattle.vx_fn.specs.declared.function.ScalarFnRef.TheVariants as fn_of
use Rattle.vx_tree.specs.Tree.{Tree, dtype, len, constant_of, call_of, arity_refusal}
use Rattle.vx_tree.specs.Calls.{call_refusal, called, all_of_len, row_refusal}
use Rattle.vx_tree.specs.Conditions.{unless}
use Rattle.vx_tree.specs.Keeps.{Keeps}
use Rattle.vx_tree.specs.Well.{IsWell}
use Rattle.vx_tree.proofs.ConditionsLemmas.{none_refused, later_refused}
use Rattle.vx_rule.proofs.CastsLemmas.{C1_keeps}
use Rattle.vx_opt.specs.Answers.{IsOptimized, IsLimited}
use Rattle.vx_opt.specs.Select.{GivesJust}
use Rattle.vx_opt.specs.Builtins.{IsCall, IsUncalled, Calls, StandsForCall, CastsTo}

-- the node, optimized
pub calls_by : (f : ScalarFnRef) (ts : List Tree) (n : ℕ) (t : Tree) (r : Result Tree VortexError)
    → IsCall f ts n t → IfOk r (λ u. IsOptimized t u 0) → IfErr r (IsLimited t 0) → Calls f ts n r
calls_by f ts n t (Ok u) h k l = (t, h, k)
calls_by f ts n t (Err e) h k l = inr (t, h, l)

-- ---- a cast to the tree's own type

module _ (target : DType) (t : Tree) (e : type_of target ≡ dtype t) (kept : has_columns (dtype t) ≡ true) where
  cast_given : return_type (fn_of.Cast target) (dtype t ∷ []) ≡ Some (type_of target)
  cast_given =
      let has : has_cast (dtype t) (type_of target) ≡ true = subst (λ s. has_cast s (type_of target) ≡ true) e (cast_to_self (type_of target)) in
      ap (λ b. if b then Some (type_of target) else None) has

  cast_taken : call_refusal (fn_of.Cast target) (t ∷ []) (len t) ≡ None
  cast_taken =
      none_refused (arity_refusal (fn_of.Cast target) 1) _ refl
      (none_refused (unless (all_of_len (len t) (t ∷ [])) (InvalidArgument ChildLen)) _
      (ap (λ b. unless (b && true) (InvalidArgument ChildLen)) (eq-eqb (len t) (len t) refl))
      (ap row_refusal cast_given ∙ ap (λ b. unless b (InvalidArgument BadType)) (ap has_columns e ∙ kept)))

  cast_made : called (fn_of.Cast target) (t ∷ []) (len t) ≡ Some (call_of (fn_of.Cast target) (type_of target) (len t) (t ∷ []))
  cast_made = ap (option_map (λ ty. call_of (fn_of.Cast target) ty (len t) (t ∷ []))) cast_given

  same_cast : (u : Tree) → IsWell t → u ≡ t → StandsForCall (fn_of.Cast target) (t ∷ []) (len t) u
  same_cast u w h = (
    call_of (fn_of.Cast target) (type_of target) (len t) (t ∷ []),
    (cast_taken, cast_made),
    subst (Keeps (call_of (fn_of.Cast target) (type_of target) (len t) (t ∷ []))) (sym h)
        (C1_keeps (type_of target) (len t) target t ((dtype t ∷ [], refl, cast_given), (w, tt)) (sym e)),
  )

  pub own_cast : (r : Result Tree VortexError) → IsWell t → GivesJust t r → CastsTo target t r
  own_cast (Ok u) w h = record { keeps = same_cast u w h; same = λ same. h; other = λ differ. absurd (differ e) }
  own_cast (Err x) w h = record { keeps = tt; same = λ same. h; other = λ differ. absurd (differ e) }

-- ---- a cast to another

pub other_cast : (target : DType) (t : Tree) (r : Result Tree VortexError) → (type_of target ≡ dtype t → ⊥)
    → Calls (fn_of.Cast target) (t ∷ []) (len t) r → CastsTo target t r
other_cast target t (Ok u) differ h = record { keeps = (h.0, h.1, h.2.rewritten.keeps); same = λ same. absurd (differ same); other = λ x. h }
other_cast target t (Err x) differ h = record { keeps = tt; same = λ same. absurd (differ same); other = λ y. h }

-- ---- a fill value of a type without columns

module _ (t : Tree) (v : Typed) (kept : has_columns (dtype t) ≡ true) (none : has_columns v.of_type ≡ false) where
  differs : same_but_nullability (dtype t) v.of_type ≡ false
  differs =
      false_from_ne_true (same_but_nullability (dtype t) v.of_type)
      (λ same. false≢true (sym none ∙ sym (columns_kept NonNullable v.of_type)
      ∙ sym (ap has_columns ((same_but_nullability_Decides (dtype t) v.of_type).0 same)) ∙ columns_kept NonNullable (dtype t) ∙ kept))

  no_fill : return_type fn_of.FillNull (dtype t ∷ v.of_type ∷ []) ≡ None
  no_fill = ap (λ b. if b then Some v.of_type else None) differs

  fill_refused : call_refusal fn_of.FillNull (t ∷ constant_of v (len t) ∷ []) (len t) ≡ Some (InvalidArgument NoRow)
  fill_refused =
      later_refused (arity_refusal fn_of.FillNull 2) _ _ refl
      (later_refused (unless (all_of_len (len t) (t ∷ constant_of v (len t) ∷ [])) (InvalidArgument ChildLen)) _ _
      (ap (λ b. unless (b && (b && true)) (InvalidArgument ChildLen)) (eq-eqb (len t) (len t) refl)) (ap row_refusal no_fill))

  pub no_columns_fill : IsUncalled fn_of.FillNull (t ∷ constant_of v (len t) ∷ []) (len t) (InvalidArgument NoRow)
  no_columns_fill = inl (inr fill_refused)
