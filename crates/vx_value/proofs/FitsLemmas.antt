-- Which lists in a value have too many elements.
use Rattle.std.proofs.Common.{◌≡◌, false, ℕ, ◌+◌, ◌<◌, ◌≤◌, List, ◌∷◌, length, drop, refl, ◌∙◌, ap, Option, None}
use Rattle.std.proofs.Math.ListN.{get_or}
use Rattle.std.proofs.lemmas.List.{drop_more, drop_all}
use Rattle.vx_value.specs.Types as type
use Rattle.vx_value.specs.Types.{DataType, Fields}
use Rattle.vx_value.specs.Values as value
use Rattle.vx_value.specs.Values.{Value}
use Rattle.vx_value.specs.Storage.{is_nested}
use Rattle.vx_value.specs.Fits.{or_else, list_overflow, named_overflow, ListsFit}
use Rattle.vx_value.specs.View.{type_of, fields_of, cell_of, values_of}
use Rattle.vx_value.specs.declared.nested.Field.{Field}
use Rattle.vx_value.specs.declared.scalar.ScalarValue.{ScalarValue}

pub named_at : (fs : List Field) (vs : List (Option ScalarValue)) (i : ℕ) (f : Field) (v : Option ScalarValue) → i < length fs → i < length vs
    → named_overflow (fields_of (drop i fs)) (values_of (drop i vs))
    ≡ or_else (list_overflow (type_of (get_or fs i f).dtype) (cell_of (get_or vs i v)))
    (named_overflow (fields_of (drop (i + 1) fs)) (values_of (drop (i + 1) vs)))
named_at fs vs i f v p q =
    ap (λ xs. named_overflow (fields_of xs) (values_of (drop i vs))) (drop_more fs i f p)
    ∙ ap (λ ys. named_overflow (fields_of (get_or fs i f ∷ drop (i + 1) fs)) (values_of ys)) (drop_more vs i v q)

-- no field past the last value counts
without_values : (fs : Fields) → named_overflow fs value.no_values ≡ None
without_values type.no_fields = refl
without_values (type.field name t fs) = refl

pub named_past : (fs : List Field) (vs : List (Option ScalarValue)) (i : ℕ) → length vs ≤ i
    → named_overflow (fields_of (drop i fs)) (values_of (drop i vs)) ≡ None
named_past fs vs i h = ap (λ ys. named_overflow (fields_of (drop i fs)) (values_of ys)) (drop_all i vs h) ∙ without_values (fields_of (drop i fs))

-- a value of a type that isn't nested has no list
pub unnested_fits : (t : DataType) (v : Value) → is_nested t ≡ false → ListsFit t v
unnested_fits type.null v h = refl
unnested_fits (type.bool n) v h = refl
unnested_fits (type.primitive p n) v h = refl
unnested_fits (type.decimal p s n) v h = refl
unnested_fits (type.utf8 n) v h = refl
unnested_fits (type.binary n) v h = refl
unnested_fits _ v h = absurd (cc)
