-- What arguments make of a result: whether there is one, its nullability, and null.
use Rattle.std.proofs.Common.{◌≡◌, Bool, true, false, if◌then◌else◌, refl, ap, sym, ◌∙◌}
use Rattle.std.proofs.lemmas.Bool.{false≢true}
use Rattle.std.proofs.lemmas.Option.{none-some}
use Rattle.std.specs.Prelude.{Option, Some, None, IsSome}
use Rattle.vx_value.specs.Types as type
use Rattle.vx_value.specs.Types.{DataType, nullability_of, is_nullable}
use Rattle.vx_value.specs.Nullabilities.{with_nullability, union}
use Rattle.vx_value.specs.declared.dtype.Nullability.{Nullability}
use Rattle.vx_value.specs.declared.dtype.Nullability.TheVariants.{NonNullable, Nullable}
use Rattle.vx_value.proofs.NullabilitiesLemmas.{union_first, union_second, set_alike, same_but_set, is_of_either}
use Rattle.vx_value.specs.Values.{Value, null}
use Rattle.vx_value.specs.Cell.{Cell, value}
use Rattle.vx_value.specs.View.{value_of}
use Rattle.vx_value.specs.IsOf.{is_of}
use Rattle.vx_value.specs.declared.scalar.ScalarValue.{ScalarValue}
use Rattle.vx_value.specs.declared.scalar.ScalarValue.TheVariants as scalar
use Rattle.vx_fn.specs.Meanings.{widen, widened, null_through}

-- a test whose answer is there was passed
pub passed : (b : Bool) (t : DataType) → IsSome (if b then Some t else None) → (b ≡ true) × ((if b then Some t else None) ≡ Some t)
passed true t h = (refl, refl)
passed false t h = absurd (false≢true h)

pub union_with_plain : (m n : Nullability) → n ≡ NonNullable → union m n ≡ m
union_with_plain NonNullable n h = h
union_with_plain Nullable n h = refl

-- a widened type's nullability; null is nullable already, and an extension as its storage is
widened_to : (m : Nullability) (t : DataType) → nullability_of (with_nullability (union m (nullability_of t)) t) ≡ union m (nullability_of t)
widened_to NonNullable type.null = refl
widened_to Nullable type.null = refl
widened_to m (type.extension id t) = widened_to m t
widened_to m _ = refl

pub widened_nullability : (s t : DataType) → nullability_of (widen s t) ≡ union (nullability_of s) (nullability_of t)
widened_nullability s t = widened_to (nullability_of s) t

-- a type that is set nullable is
pub nullable_set : (t : DataType) → is_nullable (nullability_of (with_nullability Nullable t)) ≡ true
nullable_set t = ap is_nullable (widened_to Nullable t)

-- a non-nullable type, widened by two, is nullable if one of them is
pub widened_twice : (s t r : DataType) → nullability_of r ≡ NonNullable
    → widen s (widen t r) ≡ with_nullability (union (nullability_of s) (nullability_of t)) r
widened_twice s t r h =
    let m = nullability_of s in
    let n = nullability_of t in
    ap (λ k. with_nullability (union m k) (widen t r)) (widened_nullability t r ∙ union_with_plain n (nullability_of r) h)
    ∙ set_alike (union m n) (widen t r) r (same_but_set (union n (nullability_of r)) (widen t r) r refl)

-- and it has the values of the type before
pub widened_typed : (s t : DataType) (v : Value) → is_of t v ≡ true → is_of (widen s t) v ≡ true
widened_typed s t null h = ap is_nullable (widened_nullability s t ∙ union_second (nullability_of s) (nullability_of t) h)
widened_typed s t v h = is_of_either (union (nullability_of s) (nullability_of t)) t v refl ∙ h

-- a result is nullable if the argument that widens it is, or if it was before
pub nullable_by_argument : (s : DataType) (o : Option DataType) (ty : DataType) → is_nullable (nullability_of s) ≡ true → widened s o ≡ Some ty
    → is_nullable (nullability_of ty) ≡ true
nullable_by_argument s None ty h e = absurd (cc)
nullable_by_argument s (Some r) ty h e =
    let same : widen s r ≡ ty = cc in
    ap (λ u. is_nullable (nullability_of u)) (sym same)
    ∙ ap is_nullable (widened_nullability s r ∙ union_first (nullability_of s) (nullability_of r) h)

pub nullable_before : (s r ty : DataType) → is_nullable (nullability_of r) ≡ true → widened s (Some r) ≡ Some ty
    → is_nullable (nullability_of ty) ≡ true
nullable_before s r ty h e =
    let same : widen s r ≡ ty = cc in
    ap (λ u. is_nullable (nullability_of u)) (sym same)
    ∙ ap is_nullable (widened_nullability s r ∙ union_second (nullability_of s) (nullability_of r) h)

-- and if the second of two arguments that widen it is
pub nullable_by_second : (s t : DataType) (o : Option DataType) (ty : DataType) → is_nullable (nullability_of t) ≡ true
    → widened s (widened t o) ≡ Some ty
    → is_nullable (nullability_of ty) ≡ true
nullable_by_second s t o ty h e = by_type (widened t o) refl e
  where
    by_type : (o' : Option DataType) → widened t o ≡ o' → widened s o' ≡ Some ty → is_nullable (nullability_of ty) ≡ true
    by_type None same e = absurd (none-some ty e)
    by_type (Some r) same e = nullable_before s r ty (nullable_by_argument t o r h same) e

-- a null gives null, and one further on does too
pub by_null : (v : Value) (c : Cell) → null ≡ v → null_through v c ≡ value null
by_null v c e = ap (λ x. null_through x c) (sym e)

pub by_later : (v : Value) (c : Cell) → c ≡ value null → null_through v c ≡ value null
by_later null c e = refl
by_later _ c e = e

-- a value there leaves what is given
pub past_value : (x : ScalarValue) (c : Cell) → null_through (value_of x) c ≡ c
past_value (scalar.Bool b) c = refl
past_value _ c = refl
