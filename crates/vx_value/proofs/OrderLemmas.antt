-- What equality and the order of scalars say of types and values.
use Rattle.std.specs.Prelude.{◌≡◌, ◌≢◌, ℕ, suc, ◌+◌, ◌<◌, Bool, true, false, not, ◌&&◌, ◌==◌, List, [], ◌∷◌, length, drop, Option, Some, None, if◌then◌else◌, ◌↔◌, ◌⊎◌, IsTrue, IsSome, refl}
use Rattle.std.specs.declared.cmp.Ordering.{Ordering}
use Rattle.std.specs.declared.cmp.Ordering.TheVariants.{Less, Equal, Greater}
use Rattle.std.specs.Ordering.{int_cmp, int_eq, nat_cmp, is_eq, ordering_then}
use Rattle.std.specs.Cmp.{unsigned_ties}
use Rattle.std.proofs.Common.{ap, sym, subst, ◌∙◌, inl, inr}
use Rattle.std.proofs.Math.ListN.{get_or}
use Rattle.std.proofs.lemmas.List.{drop_more}
use Rattle.vx_value.specs.Types.{DataType, same_type, same_type_Decides, nullability_of}
use Rattle.vx_value.specs.Typed.{Typed}
use Rattle.vx_value.specs.Values as value
use Rattle.vx_value.specs.Values.{Value}
use Rattle.vx_value.specs.View.{cell_of, values_of}
use Rattle.vx_value.specs.Storage.{storage_of, has_parts, is_nested}
use Rattle.vx_value.specs.IsOf.{is_of, is_stored}
use Rattle.vx_value.specs.declared.dtype.Nullability.{Nullability}
use Rattle.vx_value.specs.declared.dtype.Storage.{Storage}
use Rattle.vx_value.specs.declared.dtype.Storage.TheVariants.{Nulls, Bits, Integers, Decimals, Text, Bytes, Nested}
use Rattle.vx_value.specs.declared.decimal.DecimalValue.{DecimalValue}
use Rattle.vx_value.specs.declared.scalar.ScalarValue.{ScalarValue}
use Rattle.vx_value.specs.Order.{value_cmp, same_value, same_values, same_scalar, scalar_cmp, is_unnested, is_compared, ordered_part, other_part, decimal_cmp}
use Rattle.vx_value.specs.OrderLaws.{same_value_Decides, same_scalar_Decides, scalar_cmp_order}

-- an order of two parts finds no difference exactly where neither does
pub then_ties : (o p : Ordering) → is_eq (ordering_then o p) ≡ (is_eq o && is_eq p)
then_ties Less p = refl
then_ties Equal p = refl
then_ties Greater p = refl

pub decimals_same : (d e : DecimalValue) → (int_eq d.unscaled e.unscaled && (d.scale == e.scale)) ≡ is_eq (decimal_cmp (d.unscaled, d.scale) (e.unscaled, e.scale))
decimals_same d e =
    ap (λ b. int_eq d.unscaled e.unscaled && b) (unsigned_ties d.scale e.scale)
    ∙ sym (then_ties (int_cmp d.unscaled e.unscaled) (nat_cmp d.scale e.scale))

-- ---- of lists of values

and_false : (b : Bool) → false ≡ (b && false)
and_false true = refl
and_false false = refl

pub items_differ : (vs ws : List (Option ScalarValue)) → length vs ≢ length ws → false ≡ same_values (values_of vs) (values_of ws)
items_differ [] [] n = absurd (n refl)
items_differ [] (w ∷ ws) n = refl
items_differ (v ∷ vs) [] n = refl
items_differ (v ∷ vs) (w ∷ ws) n =
    and_false (same_value (cell_of v) (cell_of w)) ∙ ap (λ b. same_value (cell_of v) (cell_of w) && b) (items_differ vs ws (λ e. n (ap suc e)))

pub items_at : (vs ws : List (Option ScalarValue)) (i : ℕ) (v w : Option ScalarValue) → i < length vs → i < length ws
    → same_values (values_of (drop i vs)) (values_of (drop i ws))
    ≡ (same_value (cell_of (get_or vs i v)) (cell_of (get_or ws i w)) && same_values (values_of (drop (i + 1) vs)) (values_of (drop (i + 1) ws)))
items_at vs ws i v w p q =
    ap (λ xs. same_values (values_of xs) (values_of (drop i ws))) (drop_more vs i v p)
    ∙ ap (λ ys. same_values (values_of (get_or vs i v ∷ drop (i + 1) vs)) (values_of ys)) (drop_more ws i w q)

-- ---- of scalars

-- equal exactly where the type and the value are the same
pub same_scalar_is : (s t : Typed) → IsTrue (same_scalar s t) ↔ (s ≡ t)
same_scalar_is = same_scalar_Decides

-- a value of a type that is ordered isn't nested
stored_unnested : (n : Nullability) (s : Storage) (parts : Bool) (v : Value) → has_parts s ≡ false → is_stored n s parts v ≡ true → is_unnested v ≡ true
stored_unnested n s parts value.null o h = refl
stored_unnested n s parts (value.boolean b) o h = refl
stored_unnested n s parts (value.integer z) o h = refl
stored_unnested n s parts (value.decimal z r) o h = refl
stored_unnested n s parts (value.bytes bs) o h = refl
stored_unnested n Nulls parts v o h = absurd (cc)
stored_unnested n Bits parts v o h = absurd (cc)
stored_unnested n (Integers p) parts v o h = absurd (cc)
stored_unnested n (Decimals p q) parts v o h = absurd (cc)
stored_unnested n Text parts v o h = absurd (cc)
stored_unnested n Bytes parts v o h = absurd (cc)
stored_unnested n Nested parts v o h = absurd (cc)

pub ordered_unless : (s : Storage) → (s ≡ Nested → ⊥) → has_parts s ≡ false
ordered_unless Nested n = absurd (n refl)
ordered_unless Nulls n = refl
ordered_unless _ n = refl

compared_if_ordered : (s : Typed) → is_of s.of_type s.value ≡ true → is_nested s.of_type ≡ false → is_compared s ≡ true
compared_if_ordered s typed o =
    λ i. not (o i) && stored_unnested (nullability_of s.of_type) (storage_of s.of_type) _ s.value o typed i

not_compared : (s : Typed) → is_nested s.of_type ≡ true → is_compared s ≡ false
not_compared s o = ap (λ b. not b && is_unnested s.value) o

-- of types that differ
pub apart : (s t : Typed) → same_type s.of_type t.of_type ≡ false → None ≡ scalar_cmp s t
apart s t h = ap (λ b. if b && same_value (other_part s) (other_part t) then Some (value_cmp (ordered_part s) (ordered_part t)) else None) (sym h)

-- of one type that is ordered
pub in_order : (s t : Typed) → is_of s.of_type s.value ≡ true → is_of t.of_type t.value ≡ true → s.of_type ≡ t.of_type → is_nested s.of_type ≡ false
    → Some (value_cmp s.value t.value) ≡ scalar_cmp s t
in_order s t p q e o =
    let first : is_compared s ≡ true = compared_if_ordered s p o in
    let second : is_compared t ≡ true = compared_if_ordered t q (ap is_nested (sym e) ∙ o) in
    λ i. if sym ((same_type_Decides s.of_type t.of_type).1 e) i
    && same_value (if sym first i then value.null else s.value) (if sym second i then value.null else t.value)
    then Some (value_cmp (if sym first i then s.value else value.null) (if sym second i then t.value else value.null)) else None

-- of one nested type
pub by_sameness : (s t : Typed) → s.of_type ≡ t.of_type → is_nested s.of_type ≡ true
    → (if same_value s.value t.value then Some Equal else None) ≡ scalar_cmp s t
by_sameness s t e o =
    let first : is_compared s ≡ false = not_compared s o in
    let second : is_compared t ≡ false = not_compared t (ap is_nested (sym e) ∙ o) in
    λ i. if sym ((same_type_Decides s.of_type t.of_type).1 e) i
    && same_value (if sym first i then value.null else s.value) (if sym second i then value.null else t.value)
    then Some (value_cmp (if sym first i then s.value else value.null) (if sym second i then t.value else value.null)) else None

-- `Equal` exactly where the type and the value are the same
pub scalar_cmp_is_equal : (s t : Typed) → (scalar_cmp s t ≡ Some Equal) ↔ (s ≡ t)
scalar_cmp_is_equal s t =
    let level = scalar_cmp_order.matches_eq s t in
    let same = same_scalar_Decides s t in
    (λ h. same.0 (level.1 h), λ e. level.0 (same.1 e))

-- an answer exactly where the types are the same, and ordered or the scalars the same
abbrev pub AreCompared : Typed → Typed → Type 0
AreCompared s t = (s.of_type ≡ t.of_type) × ((is_nested s.of_type ≡ false) ⊎ (s ≡ t))

pub scalar_cmp_is_some : (s t : Typed) → is_of s.of_type s.value ≡ true → is_of t.of_type t.value ≡ true → IsSome (scalar_cmp s t) ↔ AreCompared s t
scalar_cmp_is_some s t p q = by_type (same_type s.of_type t.of_type) refl
  where
    absent : Option Ordering
    absent = None

    none : IsSome absent → AreCompared s t
    none h = absurd (cc)

    nested : (e : s.of_type ≡ t.of_type) (o : is_nested s.of_type ≡ true) (b : Bool) → b ≡ same_value s.value t.value
        → IsSome (if b then Some Equal else None) ↔ AreCompared s t
    nested e o true same =
        let values = (same_value_Decides s.value t.value).0 (sym same) in
        (λ h. (e, inr (λ i. record { of_type = e i; value = values i })), λ h. refl)
    nested e o false same = (
      none,
      λ h. elim h.1 [
        | inl k ↦ absurd (cc)
        | inr k ↦ absurd (clash (sym same) ((same_value_Decides s.value t.value).1 (ap (λ u. u.value) k)))
      ],
    )
      where
        clash : same_value s.value t.value ≡ false → same_value s.value t.value ≡ true → ⊥
        clash f g = absurd (cc)

    by_order : (e : s.of_type ≡ t.of_type) (o : Bool) → is_nested s.of_type ≡ o → IsSome (scalar_cmp s t) ↔ AreCompared s t
    by_order e false o = (λ h. (e, inl o), λ h. ap (λ x. is_some_of x) (sym (in_order s t p q e o)))
      where
        is_some_of : Option Ordering → Bool
        is_some_of (Some x) = true
        is_some_of None = false
    by_order e true o = subst (λ x. IsSome x ↔ AreCompared s t) (by_sameness s t e o) (nested e o (same_value s.value t.value) refl)

    by_type : (b : Bool) → same_type s.of_type t.of_type ≡ b → IsSome (scalar_cmp s t) ↔ AreCompared s t
    by_type true h = by_order ((same_type_Decides s.of_type t.of_type).0 h) (is_nested s.of_type) refl
    by_type false h = subst (λ x. IsSome x ↔ AreCompared s t) (apart s t h) (none, λ k. absurd (clash h ((same_type_Decides s.of_type t.of_type).1 k.0)))
      where
        clash : same_type s.of_type t.of_type ≡ false → same_type s.of_type t.of_type ≡ true → ⊥
        clash f g = absurd (cc)
