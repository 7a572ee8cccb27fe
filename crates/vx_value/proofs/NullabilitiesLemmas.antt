-- Which values a type has once its nullability is set.
use Rattle.std.proofs.Common.{◌≡◌, Bool, true, false, refl, ap, sym, ◌∙◌}
use Rattle.vx_value.specs.Types as type
use Rattle.vx_value.specs.Types.{DataType, nullability_of, is_nullable}
use Rattle.vx_value.specs.Values as value
use Rattle.vx_value.specs.Values.{Value}
use Rattle.vx_value.specs.IsOf.{is_of, is_stored, are_parts, is_null}
use Rattle.vx_value.specs.Nested.{bare}
use Rattle.vx_value.specs.Fits.{parts_overflow, list_overflow, ListsFit}
use Rattle.vx_value.specs.Storage.{storage_of, has_parts, is_nested}
use Rattle.vx_value.specs.declared.dtype.Storage.{Storage}
use Rattle.vx_value.specs.declared.dtype.Storage.TheVariants.{Bits, Integers, Decimals, Text, Bytes, Nested}
use Rattle.vx_value.specs.Nullabilities.{with_nullability, union, same_but_nullability, same_but_nullability_Decides}
use Rattle.vx_value.specs.declared.dtype.Nullability.{Nullability}
use Rattle.vx_value.specs.declared.dtype.Nullability.TheVariants.{NonNullable, Nullable}

-- a type's values are stored alike, whatever its nullability
pub storage_kept : (n : Nullability) (t : DataType) → storage_of (with_nullability n t) ≡ storage_of t
storage_kept n type.null = refl
storage_kept n _ = refl

pub bare_kept : (n : Nullability) (t : DataType) → bare (with_nullability n t) ≡ with_nullability n (bare t)
bare_kept n (type.extension id t) = bare_kept n t
bare_kept n type.null = refl
bare_kept n _ = refl

-- the type that an extension is stored as isn't one
pub bare_once : (t : DataType) → bare (bare t) ≡ bare t
bare_once (type.extension id t) = bare_once t
bare_once type.null = refl
bare_once _ = refl

-- the parts of a value are tested alike
parts_kept : (n : Nullability) (t : DataType) (v : Value) → are_parts (with_nullability n t) v ≡ are_parts t v
parts_kept n (type.list t m) (value.list vs) = refl
parts_kept n (type.fixed_size_list t k m) (value.list vs) = refl
parts_kept n (type.map k t m) (value.list vs) = refl
parts_kept n (type.struct fs m) (value.fields vs) = refl
parts_kept n (type.union us m) (value.tagged tag v) = refl
parts_kept n (type.variant m) (value.variant t v) = refl
parts_kept n _ _ = refl

-- the nullability decides of null alone: a line for each storage
stored_either : (m n : Nullability) (s : Storage) (parts : Bool) (v : Value) → is_null v ≡ false → is_stored m s parts v ≡ is_stored n s parts v
stored_either m n s parts value.null h = absurd (cc)
stored_either m n Bits parts (value.boolean b) h = refl
stored_either m n (Integers p) parts (value.integer z) h = refl
stored_either m n (Decimals p s) parts (value.decimal z r) h = refl
stored_either m n Text parts (value.bytes bs) h = refl
stored_either m n Bytes parts (value.bytes bs) h = refl
stored_either m n Nested parts (value.boolean b) h = refl
stored_either m n _ parts _ h = refl

pub is_of_either : (n : Nullability) (t : DataType) (v : Value) → is_null v ≡ false → is_of (with_nullability n t) v ≡ is_of t v
is_of_either n t v h =
    let u : DataType = with_nullability n t in
    let inner : Bool = is_stored (nullability_of u) (storage_of (bare u)) (are_parts (bare u) v) v in
    let same : inner ≡ is_stored (nullability_of t) (storage_of (bare t)) (are_parts (bare t) v) v =
    stored_either (nullability_of u) (nullability_of t) (storage_of (bare u)) (are_parts (bare u) v) v h
    ∙ ap (λ s. is_stored (nullability_of t) s (are_parts (bare u) v) v) (ap storage_of (bare_kept n t) ∙ storage_kept n (bare t))
    ∙ ap (λ b. is_stored (nullability_of t) (storage_of (bare t)) b v) (ap (λ w. are_parts w v) (bare_kept n t) ∙ parts_kept n (bare t) v) in
    stored_either (nullability_of u) (nullability_of t) (storage_of u) inner v h
    ∙ ap (λ s. is_stored (nullability_of t) s inner v) (storage_kept n t)
    ∙ ap (λ b. is_stored (nullability_of t) (storage_of t) b v) same

nullable_once : (t : DataType) → nullability_of (with_nullability Nullable t) ≡ Nullable
nullable_once type.null = refl
nullable_once (type.extension id t) = nullable_once t
nullable_once _ = refl

null_typed : (t : DataType) → is_of (with_nullability Nullable t) value.null ≡ true
null_typed t = ap is_nullable (nullable_once t)

pub nullable_typed : (t : DataType) (v : Value) → is_of t v ≡ true → is_of (with_nullability Nullable t) v ≡ true
nullable_typed t value.null h = null_typed t
nullable_typed t v h = is_of_either Nullable t v refl ∙ h

-- set twice, the second stays
set_twice : (m n : Nullability) (t : DataType) → with_nullability m (with_nullability n t) ≡ with_nullability m t
set_twice m n type.null = refl
set_twice m n (type.extension id t) = ap (type.extension id) (set_twice m n t)
set_twice m n _ = refl

-- types that are the same but for their nullability are the same once it is set
pub set_alike : (n : Nullability) (s t : DataType) → same_but_nullability s t ≡ true → with_nullability n s ≡ with_nullability n t
set_alike n s t e =
    sym (set_twice n NonNullable s) ∙ ap (with_nullability n) ((same_but_nullability_Decides s t).0 e) ∙ set_twice n NonNullable t

-- so the first is the second with its own nullability, and with whichever it was set
own_nullability : (t : DataType) → with_nullability (nullability_of t) t ≡ t
own_nullability type.null = refl
own_nullability (type.extension id t) = ap (type.extension id) (own_nullability t)
own_nullability _ = refl

pub alike_but_nullability : (s t : DataType) → same_but_nullability s t ≡ true → s ≡ with_nullability (nullability_of s) t
alike_but_nullability s t e = sym (own_nullability s) ∙ set_alike (nullability_of s) s t e

pub same_but_set : (n : Nullability) (s t : DataType) → s ≡ with_nullability n t → same_but_nullability s t ≡ true
same_but_set n s t e = (same_but_nullability_Decides s t).1 (ap (with_nullability NonNullable) e ∙ set_twice NonNullable n t)

-- a type that is nullable where another is has its values
still_typed : (m : Nullability) (t : DataType) (v : Value) → (is_nullable (nullability_of t) ≡ true → m ≡ Nullable) → is_of t v ≡ true
    → is_of (with_nullability m t) v ≡ true
still_typed m t value.null h there = ap (λ n. is_of (with_nullability n t) value.null) (h there) ∙ null_typed t
still_typed m t v h there = is_of_either m t v refl ∙ there

pub union_first : (m n : Nullability) → is_nullable m ≡ true → union m n ≡ Nullable
union_first Nullable n h = refl
union_first NonNullable n h = absurd (cc)

pub union_second : (m n : Nullability) → is_nullable n ≡ true → union m n ≡ Nullable
union_second Nullable n h = refl
union_second NonNullable Nullable h = refl
union_second NonNullable NonNullable h = absurd (cc)

-- of two types that are the same but for their nullability, the values of each are of the type that is nullable where one of them is
pub first_typed : (s t : DataType) (v : Value) → is_of s v ≡ true → is_of (with_nullability (union (nullability_of s) (nullability_of t)) s) v ≡ true
first_typed s t v h = still_typed (union (nullability_of s) (nullability_of t)) s v (union_first (nullability_of s) (nullability_of t)) h

pub second_typed : (s t : DataType) (v : Value) → same_but_nullability s t ≡ true → is_of t v ≡ true
    → is_of (with_nullability (union (nullability_of s) (nullability_of t)) s) v ≡ true
second_typed s t v e h =
    ap (λ u. is_of u v) (set_alike (union (nullability_of s) (nullability_of t)) s t e)
    ∙ still_typed (union (nullability_of s) (nullability_of t)) t v (union_second (nullability_of s) (nullability_of t)) h

-- ---- lists in a value fit whatever the nullability of its type

overflow_kept : (n : Nullability) (t : DataType) (v : Value) → parts_overflow (with_nullability n t) v ≡ parts_overflow t v
overflow_kept n (type.list t m) (value.list vs) = refl
overflow_kept n (type.fixed_size_list t k m) (value.list vs) = refl
overflow_kept n (type.map k t m) (value.list vs) = refl
overflow_kept n (type.struct fs m) (value.fields vs) = refl
overflow_kept n (type.union us m) (value.tagged tag v) = refl
overflow_kept n (type.variant m) (value.variant t v) = refl
overflow_kept n _ _ = refl

pub fits_either : (n : Nullability) (t : DataType) (v : Value) → list_overflow (with_nullability n t) v ≡ list_overflow t v
fits_either n t v = ap (λ u. parts_overflow u v) (bare_kept n t) ∙ overflow_kept n (bare t) v

pub nullable_fits : (t : DataType) (v : Value) → ListsFit t v → ListsFit (with_nullability Nullable t) v
nullable_fits t v h = fits_either Nullable t v ∙ h

-- ---- a type is nested whatever its nullability

pub nested_kept : (n : Nullability) (t : DataType) → is_nested (with_nullability n t) ≡ is_nested t
nested_kept n t = ap has_parts (storage_kept n t)
