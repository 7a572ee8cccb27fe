-- Which values are of a type, by its parts.
use Rattle.std.proofs.Common.{◌≡◌, ◌≢◌, ℕ, suc, ◌+◌, ◌<◌, Bool, true, false, ◌&&◌, List, [], ◌∷◌, length, drop, Option}
use Rattle.std.proofs.Common.{refl, sym, ◌∙◌, ap, arith}
use Rattle.std.proofs.Math.ListN.{get_or}
use Rattle.std.proofs.lemmas.List.{drop_more}
use Rattle.vx_value.specs.Types as type
use Rattle.vx_value.specs.Types.{DataType, nullability_of}
use Rattle.vx_value.specs.Nested.{bare}
use Rattle.vx_value.proofs.NullabilitiesLemmas.{bare_once}
use Rattle.vx_value.specs.Values as value
use Rattle.vx_value.specs.Values.{Value, count}
use Rattle.vx_value.specs.View.{type_of, fields_of, value_of, cell_of, values_of}
use Rattle.vx_value.specs.Storage.{storage_of}
use Rattle.vx_value.specs.IsOf.{is_of, is_stored, is_null, are_parts, are_of}
use Rattle.vx_value.specs.declared.dtype.Nullability.{Nullability}
use Rattle.vx_value.specs.declared.dtype.Storage.{Storage}
use Rattle.vx_value.specs.declared.dtype.Storage.TheVariants.{Bits, Integers, Decimals, Text, Bytes, Nested}
use Rattle.vx_value.specs.declared.nested.Field.{Field}
use Rattle.vx_value.specs.declared.scalar.ScalarValue.{ScalarValue}
use Rattle.vx_value.specs.declared.scalar.ScalarValue.TheVariants as scalar

pub count_length : (vs : List (Option ScalarValue)) → count (values_of vs) ≡ length vs
count_length [] = refl
count_length (v ∷ vs) = simp (count_length vs) (omega arith)

-- ---- extensions, as what they are stored as

twice : (n : Nullability) (s : Storage) (parts : Bool) (v : Value) → is_stored n s (is_stored n s parts v) v ≡ is_stored n s parts v
twice n s parts value.null = refl
twice n Bits parts (value.boolean b) = refl
twice n (Integers p) parts (value.integer z) = refl
twice n (Decimals p s) parts (value.decimal z r) = refl
twice n Text parts (value.bytes bs) = refl
twice n Bytes parts (value.bytes bs) = refl
twice n Nested parts (value.boolean b) = refl
twice n Nested parts (value.integer z) = refl
twice n Nested parts (value.decimal z r) = refl
twice n Nested parts (value.bytes bs) = refl
twice n Nested parts (value.list vs) = refl
twice n Nested parts (value.fields vs) = refl
twice n Nested parts (value.tagged tag v) = refl
twice n Nested parts (value.variant t v) = refl
twice n _ parts _ = refl

nested_only : (n : Nullability) (parts : Bool) (v : Value) → is_null v ≡ false → is_stored n Nested parts v ≡ parts
nested_only n parts value.null h = absurd (cc)
nested_only n parts (value.boolean b) h = refl
nested_only n parts _ h = refl

-- a type is tested once, as what it is stored as
tested_once : (t : DataType) (v : Value) → is_null v ≡ false
    → is_of t v ≡ is_stored (nullability_of t) (storage_of (bare t)) (are_parts (bare t) v) v
tested_once (type.extension id t) v h = nested_only (nullability_of t) (is_stored (nullability_of t) (storage_of (bare t)) (are_parts (bare t) v) v) v h
tested_once type.null v h = twice (nullability_of type.null) (storage_of type.null) (are_parts type.null v) v
tested_once t v h = twice (nullability_of t) (storage_of t) (are_parts t v) v

bare_nullability : (t : DataType) → nullability_of (bare t) ≡ nullability_of t
bare_nullability (type.extension id t) = bare_nullability t
bare_nullability type.null = refl
bare_nullability _ = refl

present : (v : ScalarValue) → is_null (value_of v) ≡ false
present (scalar.Bool b) = refl
present _ = refl

-- a value that isn't null is of a type exactly if it is of what that is stored as
pub bare_typed : (t : DataType) (v : Value) → is_null v ≡ false → is_of t v ≡ is_of (bare t) v
bare_typed t v h =
    tested_once t v h
    ∙ ap (λ n. is_stored n (storage_of (bare t)) (are_parts (bare t) v) v) (sym (bare_nullability t))
    ∙ ap (λ u. is_stored (nullability_of (bare t)) (storage_of u) (are_parts u v) v) (sym (bare_once t))
    ∙ sym (tested_once (bare t) v h)

pub present_typed : (t : DataType) (v : ScalarValue) → is_of t (value_of v) ≡ is_of (bare t) (value_of v)
present_typed t v = bare_typed t (value_of v) (present v)

-- ---- fields

and_false : (b : Bool) → false ≡ (b && false)
and_false true = refl
and_false false = refl

pub counts_differ : (fs : List Field) (vs : List (Option ScalarValue)) → length fs ≢ length vs → false ≡ are_of (fields_of fs) (values_of vs)
counts_differ [] [] n = absurd (n refl)
counts_differ [] (v ∷ vs) n = refl
counts_differ (f ∷ fs) [] n = refl
counts_differ (f ∷ fs) (v ∷ vs) n =
    and_false (is_of (type_of f.dtype) (cell_of v)) ∙ ap (λ b. is_of (type_of f.dtype) (cell_of v) && b) (counts_differ fs vs (λ e. n (ap suc e)))

-- the value at a place decides together with those after it
pub are_at : (fs : List Field) (vs : List (Option ScalarValue)) (i : ℕ) (f : Field) (v : Option ScalarValue) (b : Bool)
    → i < length fs → i < length vs → v ≡ get_or vs i v → b ≡ is_of (type_of (get_or fs i f).dtype) (cell_of v)
    → are_of (fields_of (drop i fs)) (values_of (drop i vs)) ≡ (b && are_of (fields_of (drop (i + 1) fs)) (values_of (drop (i + 1) vs)))
are_at fs vs i f v b p q here e =
    ap (λ xs. are_of (fields_of xs) (values_of (drop i vs))) (drop_more fs i f p)
    ∙ ap (λ ys. are_of (fields_of (get_or fs i f ∷ drop (i + 1) fs)) (values_of ys)) (drop_more vs i v q)
    ∙ ap (λ w. is_of (type_of (get_or fs i f).dtype) (cell_of w) && are_of (fields_of (drop (i + 1) fs)) (values_of (drop (i + 1) vs))) (sym here)
    ∙ ap (λ a. a && are_of (fields_of (drop (i + 1) fs)) (values_of (drop (i + 1) vs))) (sym e)
