-- Which types have columns.
use Rattle.std.proofs.Common.{◌≡◌, ℕ, zero, suc, ◌+◌, ◌<◌, Bool, false, true, ◌&&◌, if◌then◌else◌, List, [], ◌∷◌, length, drop, Option, Some, None, refl, sym, ◌∙◌, ap, arith}
use Rattle.std.specs.Cmp.{first_so, second_so}
use Rattle.std.specs.Str.{bytes_eq}
use Rattle.std.proofs.Math.ListN.{get_or}
use Rattle.std.proofs.lemmas.List.{drop_more}
use Rattle.std.proofs.lemmas.Bool.{false≢true}
use Rattle.vx_value.specs.Types as type
use Rattle.vx_value.specs.Types.{DataType, Fields}
use Rattle.vx_value.specs.Nullabilities.{with_nullability}
use Rattle.vx_value.specs.Storage.{is_nested}
use Rattle.vx_value.specs.Values as value
use Rattle.vx_value.specs.Values.{Value, Values}
use Rattle.vx_value.specs.Fits.{or_else, list_overflow, named_overflow, ListsFit}
use Rattle.vx_value.specs.Nested.{bare, field_type}
use Rattle.vx_value.specs.Supported.{has_columns, have_columns}
use Rattle.vx_value.specs.View.{type_of, fields_of}
use Rattle.vx_value.specs.declared.dtype.Nullability.{Nullability}
use Rattle.vx_value.specs.declared.nested.Field.{Field}

-- a type that isn't nested has columns
pub unnested_columns : (t : DataType) → is_nested t ≡ false → has_columns t ≡ true
unnested_columns type.null h = refl
unnested_columns (type.bool n) h = refl
unnested_columns (type.primitive p n) h = refl
unnested_columns (type.decimal p s n) h = refl
unnested_columns (type.utf8 n) h = refl
unnested_columns (type.binary n) h = refl
unnested_columns _ h = absurd (cc)

-- a type has columns whatever its nullability
pub columns_kept : (n : Nullability) (t : DataType) → has_columns (with_nullability n t) ≡ has_columns t
columns_kept n (type.extension id t) = columns_kept n t
columns_kept n type.null = refl
columns_kept n _ = refl

-- an extension has columns exactly if the type that it is stored as has
pub bare_columns : (t : DataType) → has_columns (bare t) ≡ has_columns t
bare_columns (type.extension id t) = bare_columns t
bare_columns type.null = refl
bare_columns _ = refl

-- ---- the fields of a struct that has columns have columns

-- the first, and the others
pub first_columns : (name : List ℕ) (t : DataType) (fs : Fields) → have_columns (type.field name t fs) ≡ true → has_columns t ≡ true
first_columns name t fs h = first_so (has_columns t) (have_columns fs) h

pub other_columns : (name : List ℕ) (t : DataType) (fs : Fields) → have_columns (type.field name t fs) ≡ true → have_columns fs ≡ true
other_columns name t fs h = second_so (has_columns t) (have_columns fs) h

-- the field of a name
by_name : (b : Bool) (u t : DataType) (o : Option DataType) → (if b then Some u else o) ≡ Some t → has_columns u ≡ true → (o ≡ Some t → has_columns t ≡ true)
    → has_columns t ≡ true
by_name true u t o e h rest = let same : u ≡ t = cc in ap has_columns (sym same) ∙ h
by_name false u t o e h rest = rest e

pub field_columns : (name : List ℕ) (fs : Fields) (t : DataType) → have_columns fs ≡ true → field_type name fs ≡ Some t → has_columns t ≡ true
field_columns name type.no_fields t h e = absurd (cc)
field_columns name (type.field other u fs) t h e =
    by_name (bytes_eq name other) u t (field_type name fs) e (first_columns other u fs h) (field_columns name fs t (other_columns other u fs h))

-- the field at a place decides together with those after it
pub columns_at : (fs : List Field) (i : ℕ) (f : Field) → i < length fs
    → have_columns (fields_of (drop i fs)) ≡ (has_columns (type_of (get_or fs i f).dtype) && have_columns (fields_of (drop (i + 1) fs)))
columns_at fs i f p = ap (λ xs. have_columns (fields_of xs)) (drop_more fs i f p)

-- the field at a place
pub field_at_columns : (fs : List Field) (i : ℕ) (f : Field) → i < length fs → have_columns (fields_of fs) ≡ true → has_columns (type_of (get_or fs i f).dtype) ≡ true
field_at_columns [] i f p h = absurd (omega (arith, p))
field_at_columns (g ∷ fs) zero f p h = first_columns g.name (type_of g.dtype) (fields_of fs) h
field_at_columns (g ∷ fs) (suc i) f p h =
    let below : i < length fs = omega (arith, p) in field_at_columns fs i f below (other_columns g.name (type_of g.dtype) (fields_of fs) h)

-- ---- a value of a type with columns has no list

none_of_both : {A : Type 0} → (x y : Option A) → x ≡ None → y ≡ None → or_else x y ≡ None
none_of_both x y h k = ap (λ z. or_else z y) h ∙ k

mutual
  no_overflow : (t : DataType) (v : Value) → has_columns t ≡ true → list_overflow t v ≡ None
  no_overflow (type.struct fs n) (value.fields vs) h = no_fields_overflow fs vs h
  no_overflow (type.extension id t) v h = no_overflow t v h
  no_overflow type.null v h = refl
  no_overflow (type.bool n) v h = refl
  no_overflow (type.primitive p n) v h = refl
  no_overflow (type.decimal p s n) v h = refl
  no_overflow (type.utf8 n) v h = refl
  no_overflow (type.binary n) v h = refl
  no_overflow (type.struct fs n) _ h = refl
  no_overflow _ v h = absurd (false≢true h)

  no_fields_overflow : (fs : Fields) (vs : Values) → have_columns fs ≡ true → named_overflow fs vs ≡ None
  no_fields_overflow type.no_fields vs h = refl
  no_fields_overflow (type.field name t fs) value.no_values h = refl
  no_fields_overflow (type.field name t fs) (value.item v vs) h =
      none_of_both _ _ (no_overflow t v (first_columns name t fs h)) (no_fields_overflow fs vs (other_columns name t fs h))

pub columns_fit : (t : DataType) (v : Value) → has_columns t ≡ true → ListsFit t v
columns_fit t v h = no_overflow t v h
