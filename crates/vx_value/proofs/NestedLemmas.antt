-- The fields of structs, the variants of unions and the values of lists, by their places.
use Rattle.std.proofs.Common.{◌≡◌, ℕ, zero, suc, ◌+◌, ◌<◌, ◌≤◌, Bool, true, false, not, ◌&&◌, ◌||◌, ◌==◌, List, [], ◌∷◌, length, drop}
use Rattle.std.proofs.Common.{refl, ◌∙◌, ap, arith, rules, tests, is_some, Option}
use Rattle.std.proofs.Math.ListN.{get_or}
use Rattle.std.proofs.lemmas.List.{drop_more}
use Rattle.vx_value.specs.Types as type
use Rattle.vx_value.specs.Types.{DataType}
use Rattle.vx_value.specs.Nested.{field_type, fields_count, are_fields, tag_type, has_variant, are_distinct, is_some_variant}
use Rattle.vx_value.specs.Values.{height, values_height}
use Rattle.vx_value.specs.View.{type_of, fields_of, variants_of, cell_of, values_of}
use Rattle.vx_value.specs.declared.nested.Field.{Field}
use Rattle.vx_value.specs.declared.nested.UnionVariant.{UnionVariant}
use Rattle.vx_value.specs.declared.scalar.ScalarValue.{ScalarValue}

pub fields_length : (fs : List Field) → fields_count (fields_of fs) ≡ length fs
fields_length [] = refl
fields_length (f ∷ fs) = simp (fields_length fs) (omega arith)

-- the field at a place has another name than those after it, and these have distinct names
pub fields_apart : (fs : List Field) (i : ℕ) (f : Field) → i < length fs
    → are_fields (fields_of (drop i fs))
    ≡ (not (is_some (field_type (get_or fs i f).name (fields_of (drop (i + 1) fs)))) && are_fields (fields_of (drop (i + 1) fs)))
fields_apart fs i f h = ap (λ xs. are_fields (fields_of xs)) (drop_more fs i f h)

-- neither is one of two
neither : (a b c : Bool) → (not a && not b && c) ≡ (not (a || b) && c)
neither true b c = refl
neither false true c = refl
neither false false c = refl

-- the variant at a place has another tag and another name than those after it, and these are distinct
pub variants_apart : (vs : List UnionVariant) (i : ℕ) (v : UnionVariant) → i < length vs
    → are_distinct (variants_of (drop i vs))
    ≡ (not (is_some (tag_type (get_or vs i v).tag (variants_of (drop (i + 1) vs)))
    || has_variant (get_or vs i v).name (variants_of (drop (i + 1) vs))) && are_distinct (variants_of (drop (i + 1) vs)))
variants_apart vs i v h =
    ap (λ xs. are_distinct (variants_of xs)) (drop_more vs i v h)
    ∙ neither (is_some (tag_type (get_or vs i v).tag (variants_of (drop (i + 1) vs))))
    (has_variant (get_or vs i v).name (variants_of (drop (i + 1) vs))) (are_distinct (variants_of (drop (i + 1) vs)))

pub some_variant : (vs : List UnionVariant) → is_some_variant (variants_of vs) ≡ not (length vs == 0)
some_variant [] = refl
some_variant (v ∷ vs) = search (rules, tests)

-- ---- maps

-- an entry has two fields, the second of the value's type
pub has_second : (fs : List Field) (m n : List ℕ) (k v : DataType)
    → fields_of fs ≡ type.field m k (type.field n v type.no_fields) → 1 < length fs
has_second [] m n k v e = absurd (cc)
has_second (f ∷ []) m n k v e = absurd (cc)
has_second (f ∷ g ∷ fs) m n k v e = omega arith

pub second_type : (fs : List Field) (f : Field) (m n : List ℕ) (k v : DataType)
    → fields_of fs ≡ type.field m k (type.field n v type.no_fields) → type_of (get_or fs 1 f).dtype ≡ v
second_type [] f m n k v e = absurd (cc)
second_type (g ∷ []) f m n k v e = absurd (cc)
second_type (g ∷ h ∷ fs) f m n k v e = cc
