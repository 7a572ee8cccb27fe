-- Nested scalars are of their types, and so are their parts.
use Rattle.std.proofs.Common.{◌≡◌, ℕ, zero, suc, ◌+◌, ◌<◌, ◌≤◌, Bool, true, ◌&&◌, List, [], ◌∷◌, ◌++◌, length, drop, slice_get, Option, None, Some}
use Rattle.std.proofs.Common.{refl, sym, ◌∙◌, ap, arith, append_assoc}
use Rattle.std.specs.List.{All}
use Rattle.std.specs.Cmp.{first_so, second_so}
use Rattle.std.proofs.Math.ListN.{get_or}
use Rattle.std.proofs.lemmas.List.{drop_more}
use Rattle.vx_value.specs.Types as type
use Rattle.vx_value.specs.Types.{DataType, Fields}
use Rattle.vx_value.specs.Values as value
use Rattle.vx_value.specs.Values.{Value}
use Rattle.vx_value.specs.View.{type_of, fields_of, cell_of, values_of}
use Rattle.vx_value.specs.IsOf.{is_of, are_of}
use Rattle.vx_value.specs.Fits.{or_else, list_overflow, named_overflow, ListsFit}
use Rattle.vx_value.specs.Typed.{Typed}
use Rattle.vx_value.specs.Defaults.{default_of}
use Rattle.vx_value.specs.ScalarParts.{values_in, IsSound, AreFields, HaveFields, fields_by, fields_of_type, fields_in}
use Rattle.vx_value.specs.declared.dtype.Nullability.{Nullability}
use Rattle.vx_value.specs.declared.nested.Field.{Field}
use Rattle.vx_value.specs.declared.scalar.ScalarValue.{ScalarValue}
use Rattle.vx_value.proofs.DefaultsLemmas.{both_true}
use Rattle.vx_value.proofs.TypedLemmas.{bare_typed}
use Rattle.vx_value.proofs.FitsLemmas.{named_at, named_past}

-- ---- extensions

-- the values of an extension are those of the type that it is stored as
pub extension_typed : (id : List ℕ) (t : DataType) (v : Value) → is_of (type.extension id t) v ≡ is_of t v
extension_typed id t value.null = refl
extension_typed id t v = bare_typed (type.extension id t) v refl ∙ sym (bare_typed t v refl)

-- ---- structs that are made of their fields

pub values_push : (ss : List Typed) (s : Typed) (vs : List (Option ScalarValue)) (v : Option ScalarValue)
    → values_of vs ≡ values_in ss → cell_of v ≡ s.value → values_of (vs ++ v ∷ []) ≡ values_in (ss ++ s ∷ [])
values_push [] s [] v h e = ap (λ w. value.item w value.no_values) e
values_push [] s (w ∷ vs) v h e = absurd (cc)
values_push (r ∷ ss) s [] v h e = absurd (cc)
values_push (r ∷ ss) s (w ∷ vs) v h e =
    let first : cell_of w ≡ r.value = cc in
    let more : values_of vs ≡ values_in ss = cc in
    let rest : values_of (vs ++ v ∷ []) ≡ values_in (ss ++ s ∷ []) = values_push ss s vs v more e in
    λ i. value.item (first i) (rest i)

-- the first of some sound scalars, and the others
first_sound : (s : Typed) (ss : List Typed) → All IsSound (s ∷ ss) → IsSound s
first_sound s ss a = let some : 0 < length (s ∷ ss) = omega arith in a 0 s some

others_sound : (s : Typed) (ss : List Typed) → All IsSound (s ∷ ss) → All IsSound ss
others_sound s ss a = λ k d h. let next : suc k < length (s ∷ ss) = omega (arith, h) in a (suc k) d next

fields_typed : (fs : Fields) (ss : List Typed) → AreFields fs ss → All IsSound ss → are_of fs (values_in ss) ≡ true
fields_typed type.no_fields [] h a = refl
fields_typed type.no_fields (s ∷ ss) h a = absurd h
fields_typed (type.field name t fs) [] h a = absurd h
fields_typed (type.field name t fs) (s ∷ ss) h a =
    let first : IsSound s = first_sound s ss a in
    both_true (ap (λ u. is_of u s.value) (sym h.0) ∙ first.0) (fields_typed fs ss h.1 (others_sound s ss a))

fields_fit : (fs : Fields) (ss : List Typed) → AreFields fs ss → All IsSound ss → named_overflow fs (values_in ss) ≡ None
fields_fit type.no_fields ss h a = refl
fields_fit (type.field name t fs) [] h a = refl
fields_fit (type.field name t fs) (s ∷ ss) h a =
    let first : IsSound s = first_sound s ss a in
    ap (λ o. or_else o (named_overflow fs (values_in ss))) (ap (λ u. list_overflow u s.value) (sym h.0) ∙ first.1)
    ∙ fields_fit fs ss h.1 (others_sound s ss a)

-- a struct of sound fields is sound
pub struct_typed : (t : DataType) (ss : List Typed) → HaveFields t ss → All IsSound ss → is_of t (value.fields (values_in ss)) ≡ true
struct_typed (type.struct fs n) ss h a = fields_typed fs ss h a
struct_typed _ ss h a = absurd h

pub struct_fits : (t : DataType) (ss : List Typed) → HaveFields t ss → All IsSound ss → ListsFit t (value.fields (values_in ss))
struct_fits (type.struct fs n) ss h a = fields_fit fs ss h a
struct_fits _ ss h a = absurd h

-- ---- the fields of a struct

-- as many values as fields
pub same_counts : (fs : List Field) (vs : List (Option ScalarValue)) → are_of (fields_of fs) (values_of vs) ≡ true → length fs ≡ length vs
same_counts [] [] h = refl
same_counts [] (v ∷ vs) h = absurd (cc)
same_counts (f ∷ fs) [] h = absurd (cc)
same_counts (f ∷ fs) (v ∷ vs) h =
    let rest : length fs ≡ length vs = same_counts fs vs (second_so (is_of (type_of f.dtype) (cell_of v)) (are_of (fields_of fs) (values_of vs)) h) in
    omega (arith, rest)

-- the value at a place is of the type of the field there, and so are those after it
pub part_typed : (fs : List Field) (vs : List (Option ScalarValue)) (i : ℕ) (f : Field) (v : Option ScalarValue) → i < length fs → i < length vs
    → are_of (fields_of (drop i fs)) (values_of (drop i vs)) ≡ true
    → (is_of (type_of (get_or fs i f).dtype) (cell_of (get_or vs i v)) ≡ true) × (are_of (fields_of (drop (i + 1) fs)) (values_of (drop (i + 1) vs)) ≡ true)
part_typed fs vs i f v p q h =
    let here : Bool = is_of (type_of (get_or fs i f).dtype) (cell_of (get_or vs i v)) in
    let rest : Bool = are_of (fields_of (drop (i + 1) fs)) (values_of (drop (i + 1) vs)) in
    let both : (here && rest) ≡ true =
    sym (
    ap (λ xs. are_of (fields_of xs) (values_of (drop i vs))) (drop_more fs i f p)
    ∙ ap (λ ys. are_of (fields_of (get_or fs i f ∷ drop (i + 1) fs)) (values_of ys)) (drop_more vs i v q))
    ∙ h in
    (first_so here rest both, second_so here rest both)

-- none of two is the first of them
neither_some : {A : Type 0} (o p : Option A) → or_else o p ≡ None → (o ≡ None) × (p ≡ None)
neither_some None p h = (refl, h)
neither_some (Some x) p h = absurd (cc)

-- the lists in the value at a place fit, and so do those after it
pub part_fits : (fs : List Field) (vs : List (Option ScalarValue)) (i : ℕ) (f : Field) (v : Option ScalarValue) → i < length fs → i < length vs
    → named_overflow (fields_of (drop i fs)) (values_of (drop i vs)) ≡ None
    → ListsFit (type_of (get_or fs i f).dtype) (cell_of (get_or vs i v)) × (named_overflow (fields_of (drop (i + 1) fs)) (values_of (drop (i + 1) vs)) ≡ None)
part_fits fs vs i f v p q h =
    neither_some (list_overflow (type_of (get_or fs i f).dtype) (cell_of (get_or vs i v))) (named_overflow (fields_of (drop (i + 1) fs)) (values_of (drop (i + 1) vs)))
    (sym (named_at fs vs i f v p q) ∙ h)

-- the field at a place comes before those after it
pub present_at : (fs : List Field) (vs : List (Option ScalarValue)) (i : ℕ) (f : Field) (v : Option ScalarValue) → i < length fs → i < length vs
    → fields_by (fields_of (drop i fs)) (value.fields (values_of (drop i vs)))
    ≡ record { of_type = type_of (get_or fs i f).dtype; value = cell_of (get_or vs i v) }
    ∷ fields_by (fields_of (drop (i + 1) fs)) (value.fields (values_of (drop (i + 1) vs)))
present_at fs vs i f v p q =
    ap (λ xs. fields_by (fields_of xs) (value.fields (values_of (drop i vs)))) (drop_more fs i f p)
    ∙ ap (λ ys. fields_by (fields_of (get_or fs i f ∷ drop (i + 1) fs)) (value.fields (values_of ys))) (drop_more vs i v q)

-- one more is made of those to come
pub one_more : (all done more rest after : List Typed) (s : Typed) → all ≡ done ++ rest → rest ≡ s ∷ after → more ≡ done ++ s ∷ [] → all ≡ more ++ after
one_more all done more rest after s h e m = h ∙ ap (λ xs. done ++ xs) e ∙ sym (append_assoc done (s ∷ []) after) ∙ ap (λ xs. xs ++ after) (sym m)

-- ---- one field of a struct

-- the values after a place are of their types, and their lists fit
pub typed_after : (fs : List Field) (vs : List (Option ScalarValue)) (i : ℕ) → are_of (fields_of fs) (values_of vs) ≡ true
    → are_of (fields_of (drop i fs)) (values_of (drop i vs)) ≡ true
typed_after fs vs zero h = h
typed_after [] [] (suc i) h = refl
typed_after [] (v ∷ vs) (suc i) h = absurd (cc)
typed_after (f ∷ fs) [] (suc i) h = absurd (cc)
typed_after (f ∷ fs) (v ∷ vs) (suc i) h =
    typed_after fs vs i (second_so (is_of (type_of f.dtype) (cell_of v)) (are_of (fields_of fs) (values_of vs)) h)

pub fit_after : (fs : List Field) (vs : List (Option ScalarValue)) (i : ℕ) → named_overflow (fields_of fs) (values_of vs) ≡ None
    → named_overflow (fields_of (drop i fs)) (values_of (drop i vs)) ≡ None
fit_after fs vs zero h = h
fit_after [] vs (suc i) h = refl
fit_after (f ∷ fs) [] (suc i) h = let past : 0 ≤ suc i = omega arith in named_past (f ∷ fs) [] (suc i) past
fit_after (f ∷ fs) (v ∷ vs) (suc i) h =
    fit_after fs vs i (neither_some (list_overflow (type_of f.dtype) (cell_of v)) (named_overflow (fields_of fs) (values_of vs)) h).1

-- the field at a place is of the type there, with the value there
pub field_at : (fs : List Field) (vs : List (Option ScalarValue)) (i : ℕ) (f : Field) (v : Option ScalarValue) → i < length fs → i < length vs
    → slice_get (fields_by (fields_of fs) (value.fields (values_of vs))) i
    ≡ Some (record { of_type = type_of (get_or fs i f).dtype; value = cell_of (get_or vs i v) })
field_at [] vs i f v p q = absurd (omega (arith, p))
field_at (g ∷ fs) [] i f v p q = absurd (omega (arith, q))
field_at (g ∷ fs) (w ∷ vs) zero f v p q = refl
field_at (g ∷ fs) (w ∷ vs) (suc i) f v p q = let a : i < length fs = omega (arith, p) in let b : i < length vs = omega (arith, q) in field_at fs vs i f v a b

-- of a null struct it is the default value of that type
default_at : (fs : List Field) (i : ℕ) (f : Field) → i < length fs
    → slice_get (fields_by (fields_of fs) value.null) i
    ≡ Some (record { of_type = type_of (get_or fs i f).dtype; value = default_of (type_of (get_or fs i f).dtype) })
default_at [] i f p = absurd (omega (arith, p))
default_at (g ∷ fs) zero f p = refl
default_at (g ∷ fs) (suc i) f p = let a : i < length fs = omega (arith, p) in default_at fs i f a

-- as many scalars as fields
as_many : (fs : List Field) (v : Value) → length (fields_by (fields_of fs) v) ≡ length fs
as_many [] v = refl
as_many (f ∷ fs) (value.fields (value.item v vs)) = let rest = as_many fs (value.fields vs) in omega (arith, rest)
as_many (f ∷ fs) (value.fields value.no_values) = let rest = as_many fs (value.fields value.no_values) in omega (arith, rest)
as_many (f ∷ fs) v = let rest = as_many fs v in omega (arith, rest)

-- a place among the fields of a struct
pub among_fields : (s : Typed) (fs : List Field) (n : Nullability) (i : ℕ) → type.struct (fields_of fs) n ≡ s.of_type → i < length (fields_in s)
    → i < length fs
among_fields s fs n i e p =
    let same : length (fields_by (fields_of fs) s.value) ≡ length (fields_in s) = ap (λ t. length (fields_of_type t s.value)) e in
    omega (arith, p, same, as_many fs s.value)

pub null_field : (s : Typed) (fs : List Field) (n : Nullability) (i : ℕ) (f : Field) → type.struct (fields_of fs) n ≡ s.of_type → value.null ≡ s.value
    → i < length fs
    → slice_get (fields_in s) i ≡ Some (record { of_type = type_of (get_or fs i f).dtype; value = default_of (type_of (get_or fs i f).dtype) })
null_field s fs n i f e v p = sym (λ k. slice_get (fields_of_type (e k) (v k)) i) ∙ default_at fs i f p
