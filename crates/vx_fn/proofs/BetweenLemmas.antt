-- Which arguments `between` accepts.
use Rattle.std.proofs.Common.{◌≡◌, ◌<◌, ◌≤◌, List, [], ◌∷◌, length, map, Bool, true, false, ◌&&◌, if◌then◌else◌, Some, None}
use Rattle.std.proofs.Common.{refl, sym, ◌∙◌, arith}
use Rattle.std.proofs.lemmas.Bool.{false≢true}
use Rattle.std.specs.Prelude.{IsSome}
use Rattle.vx_value.specs.Types as type
use Rattle.vx_value.specs.Types.{DataType}
use Rattle.vx_value.specs.Nullabilities.{same_but_nullability}
use Rattle.vx_value.specs.declared.dtype.Nullability.TheVariants.{NonNullable}
use Rattle.vx_fn.specs.Arity.{of_three}
use Rattle.vx_fn.specs.Meanings.{widened}
use Rattle.vx_fn.specs.Comparisons.{is_ordered}
use Rattle.vx_fn.specs.Between.{between, between_type}
use Rattle.vx_fn.specs.declared.functions.between.BetweenOptions.{BetweenOptions}
use Rattle.vx_fn.proofs.OrderLemmas.{ordered_alike}

-- only three
module _ {X : Type 0} (f : X → DataType) where
  pub none_of_few : (xs : List X) → length xs < 3 → of_three widened None between_type (map f xs) ≡ None
  none_of_few (x ∷ y ∷ z ∷ xs) h = absurd (omega arith)
  none_of_few _ h = refl

  pub none_of_many : (xs : List X) → 4 ≤ length xs → of_three widened None between_type (map f xs) ≡ None
  none_of_many (x ∷ y ∷ z ∷ []) h = absurd (omega arith)
  none_of_many _ h = refl

-- whose types are ordered
pub between_ordered : (options : BetweenOptions) (s t u : DataType) → IsSome ((between options).types (s ∷ t ∷ u ∷ []))
    → (is_ordered s ≡ true) × (is_ordered t ≡ true) × (is_ordered u ≡ true)
between_ordered options s t u h = by_tests (same_but_nullability s t) (same_but_nullability s u) (is_ordered s) refl refl refl h
  where
    by_tests : (a b o : Bool) → same_but_nullability s t ≡ a → same_but_nullability s u ≡ b → is_ordered s ≡ o
        → IsSome (widened s (widened t (widened u (if a && b then (if o then Some (type.bool NonNullable) else None) else None))))
        → (is_ordered s ≡ true) × (is_ordered t ≡ true) × (is_ordered u ≡ true)
    by_tests true true true p q r h = (r, sym (ordered_alike s t p) ∙ r, sym (ordered_alike s u q) ∙ r)
    by_tests true true false p q r h = absurd (false≢true h)
    by_tests true false o p q r h = absurd (false≢true h)
    by_tests false b o p q r h = absurd (false≢true h)
