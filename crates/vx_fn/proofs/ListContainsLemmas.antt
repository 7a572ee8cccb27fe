-- When `list_contains` gives null: its type is nullable then.
use Rattle.std.proofs.Common.{◌≡◌, Bool, true, false, if◌then◌else◌, Some, None, refl}
use Rattle.std.specs.Prelude.{[], ◌∷◌}
use Rattle.std.specs.Cmp.{first_so, second_so}
use Rattle.vx_value.specs.Types as type
use Rattle.vx_value.specs.Types.{DataType, nullability_of, is_nullable}
use Rattle.vx_value.specs.Nullabilities.{same_but_nullability}
use Rattle.vx_value.specs.Values as value
use Rattle.vx_value.specs.Values.{Value, Values}
use Rattle.vx_value.specs.Cell as cell
use Rattle.vx_value.specs.Cell.{fault}
use Rattle.vx_value.specs.IsOf.{is_of, all_of}
use Rattle.vx_value.specs.declared.dtype.Nullability.{Nullability}
use Rattle.vx_fn.specs.Arity.{of_two}
use Rattle.vx_fn.specs.Logic.{truth}
use Rattle.vx_fn.specs.Meanings.{widen, widened, null_through}
use Rattle.vx_fn.specs.ListContains.{contains_type, has, contained, contains, list_contains}
use Rattle.vx_fn.proofs.MeaningsLemmas.{nullable_by_argument, nullable_by_second, nullable_before}

-- null among values of a type makes it nullable
null_among : (t : DataType) (vs : Values) → all_of t vs ≡ true → has value.null vs ≡ true → is_nullable (nullability_of t) ≡ true
null_among t value.no_values typed h = absurd (cc)
null_among t (value.item value.null vs) typed h = first_so (is_of t value.null) (all_of t vs) typed
null_among t (value.item v vs) typed h = null_among t vs (second_so (is_of t v) (all_of t vs) typed) h

-- no answer is given only if null is among the elements
unknown : (w : Value) (vs : Values) → truth (contained w vs) ≡ value.null → has value.null vs ≡ true
unknown w vs e = by_tests (has w vs) (has value.null vs) e
  where
    by_tests : (a b : Bool) → truth (if a then Some true else (if b then None else Some false)) ≡ value.null → b ≡ true
    by_tests true b e = absurd (cc)
    by_tests false true e = refl
    by_tests false false e = absurd (cc)

-- so the result's type is nullable if the elements' is
nullable_by_element : (t u ty : DataType) (n : Nullability) → is_nullable (nullability_of t) ≡ true
    → list_contains.types (type.list t n ∷ u ∷ []) ≡ Some ty
    → is_nullable (nullability_of ty) ≡ true
nullable_by_element t u ty n h e = by_test (same_but_nullability t u) e
  where
    by_test : (b : Bool) → widened (type.list t n) (widened u (if b then Some (type.bool (nullability_of t)) else None)) ≡ Some ty
        → is_nullable (nullability_of ty) ≡ true
    by_test true e =
        let r = type.bool (nullability_of t) in
        nullable_before (type.list t n) (widen u r) ty (nullable_before u r (widen u r) h refl) e
    by_test false e = absurd (cc)

pub contains_null : (s u ty : DataType) (v w : Value) → list_contains.types (s ∷ u ∷ []) ≡ Some ty → is_of s v ≡ true → is_of u w ≡ true
    → of_two null_through fault contains (v ∷ w ∷ []) ≡ cell.value value.null
    → is_nullable (nullability_of ty) ≡ true
contains_null s u ty value.null w e first second h = nullable_by_argument s (widened u (contains_type s u)) ty first e
contains_null s u ty v value.null e first second h = nullable_by_second s u (contains_type s u) ty second e
contains_null (type.list t n) u ty (value.list vs) w e first second h =
    let same : truth (contained w vs) ≡ value.null = cc in
    nullable_by_element t u ty n (null_among t vs first (unknown w vs same)) e
contains_null s u ty _ w e first second h = absurd (cc)
