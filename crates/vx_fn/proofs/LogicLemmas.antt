-- Truth values: of which type they are, and the laws of logic.
use Rattle.std.proofs.Common.{◌≡◌, Bool, true, false, refl, ap, sym, ◌∙◌}
use Rattle.std.specs.Prelude.{List, [], ◌∷◌, Option, Some, None}
use Rattle.vx_value.specs.Types.{DataType, bool}
use Rattle.vx_value.specs.Nullabilities.{union}
use Rattle.vx_value.specs.Values.{Value, boolean}
use Rattle.vx_value.specs.Cell.{value}
use Rattle.vx_value.specs.IsOf.{is_of}
use Rattle.vx_value.specs.Parts.{boolean_in}
use Rattle.vx_value.specs.declared.dtype.Nullability.{Nullability}
use Rattle.vx_value.specs.declared.dtype.Nullability.TheVariants.{NonNullable, Nullable}
use Rattle.vx_fn.specs.Logic.{kleene_and, kleene_or, not_truth, truth}
use Rattle.vx_fn.specs.Apply.{apply}
use Rattle.vx_fn.specs.declared.function.ScalarFnRef.TheVariants.{Not}

-- every truth value is a nullable boolean
nullable_truth : (o : Option Bool) → is_of (bool Nullable) (truth o) ≡ true
nullable_truth (Some b) = refl
nullable_truth None = refl

-- what joins two known truth values knows the answer
abbrev pub Knows : (Option Bool → Option Bool → Option Bool) → Type 0
Knows join = (p q : Bool) → (b : Bool) × (join (Some p) (Some q) ≡ Some b)

pub and_knows : Knows kleene_and
and_knows true q = (q, refl)
and_knows false q = (false, refl)

pub or_knows : Knows kleene_or
or_knows true q = (true, refl)
or_knows false q = (q, refl)

-- so the joined value is null only if a type is nullable
pub joined_typed : (join : Option Bool → Option Bool → Option Bool) (m n : Nullability) (v w : Value) → Knows join
    → is_of (bool m) v ≡ true
    → is_of (bool n) w ≡ true
    → is_of (bool (union m n)) (truth (join (boolean_in v) (boolean_in w))) ≡ true
joined_typed join Nullable n v w k h h' = nullable_truth (join (boolean_in v) (boolean_in w))
joined_typed join NonNullable Nullable v w k h h' = nullable_truth (join (boolean_in v) (boolean_in w))
joined_typed join NonNullable NonNullable (boolean p) (boolean q) k h h' = ap (λ o. is_of (bool NonNullable) (truth o)) (k p q).1
joined_typed join NonNullable NonNullable (boolean p) _ k h h' = absurd (cc)
joined_typed join NonNullable NonNullable _ w k h h' = absurd (cc)

-- ---- the laws

pub and_commutes : (p q : Option Bool) → kleene_and p q ≡ kleene_and q p
and_commutes None (Some true) = refl
and_commutes None (Some false) = refl
and_commutes (Some true) (Some true) = refl
and_commutes (Some false) (Some false) = refl
and_commutes _ _ = refl

pub and_by_or : (p q : Option Bool) → not_truth (kleene_and p q) ≡ kleene_or (not_truth p) (not_truth q)
and_by_or None None = refl
and_by_or None (Some true) = refl
and_by_or None (Some false) = refl
and_by_or (Some true) q = refl
and_by_or (Some false) q = refl

not_twice : (p : Option Bool) → not_truth (not_truth p) ≡ p
not_twice None = refl
not_twice (Some true) = refl
not_twice (Some false) = refl

-- so `or` is the negation of `and` of the negations
or_as_and : (p q : Option Bool) → kleene_or p q ≡ not_truth (kleene_and (not_truth p) (not_truth q))
or_as_and p q = (λ i. kleene_or (sym (not_twice p) i) (sym (not_twice q) i)) ∙ sym (and_by_or (not_truth p) (not_truth q))

pub or_by_and : (p q : Option Bool) → not_truth (kleene_or p q) ≡ kleene_and (not_truth p) (not_truth q)
or_by_and p q = ap not_truth (or_as_and p q) ∙ not_twice (kleene_and (not_truth p) (not_truth q))

pub or_commutes : (p q : Option Bool) → kleene_or p q ≡ kleene_or q p
or_commutes p q = or_as_and p q ∙ ap not_truth (and_commutes (not_truth p) (not_truth q)) ∙ sym (or_as_and q p)

-- a truth value is the truth that it stands for
pub truth_back : (p : Option Bool) → boolean_in (truth p) ≡ p
truth_back None = refl
truth_back (Some b) = refl

pub negation_is : (tys : List DataType) (ty : DataType) (p : Option Bool) → apply Not tys ty (value (truth p) ∷ []) ≡ value (truth (not_truth p))
negation_is tys ty None = refl
negation_is tys ty (Some b) = refl
