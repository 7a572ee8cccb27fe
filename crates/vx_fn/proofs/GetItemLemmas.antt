-- The field that `get_item` gives: its place among the values, and its type.
use Rattle.std.proofs.Common.{◌≡◌, ℕ, zero, suc, ◌<◌, List, [], ◌∷◌, length, get_or, Bool, true, false, if◌then◌else◌}
use Rattle.std.proofs.Common.{Option, Some, None, refl, ap, sym, ◌∙◌, arith}
use Rattle.std.specs.Prelude.{option_map}
use Rattle.std.specs.Str.{bytes_eq}
use Rattle.std.specs.Cmp.{first_so, second_so}
use Rattle.vx_value.specs.Types as type
use Rattle.vx_value.specs.Types.{DataType, Fields, nullability_of}
use Rattle.vx_value.specs.Nested.{field_type, field_place, bare}
use Rattle.vx_value.specs.Nullabilities.{union}
use Rattle.vx_value.specs.Values as value
use Rattle.vx_value.specs.Values.{Value, Values}
use Rattle.vx_value.specs.Cell as cell
use Rattle.vx_value.specs.IsOf.{is_of, are_of}
use Rattle.vx_value.specs.Fits.{or_else, list_overflow, named_overflow, ListsFit}
use Rattle.vx_value.specs.View.{cell_of, values_of}
use Rattle.vx_value.specs.declared.scalar.ScalarValue.{ScalarValue}
use Rattle.vx_value.proofs.NullabilitiesLemmas.{fits_either}
use Rattle.vx_fn.specs.Meanings.{widen, widened, null_through}
use Rattle.vx_fn.specs.GetItem.{get_item, item_type, item_of, value_at, value_at_place}
use Rattle.vx_fn.proofs.OrderLemmas.{unnested_fits}
use Rattle.vx_fn.proofs.MeaningsLemmas.{nullable_by_argument, widened_typed}

-- the values of a struct are as many as its fields, so there is one at the place of each
pub place_within : (name : List ℕ) (fs : Fields) (xs : List (Option ScalarValue)) (place : ℕ) → Some place ≡ field_place name fs
    → are_of fs (values_of xs) ≡ true
    → place < length xs
place_within name type.no_fields xs place e h = absurd (cc)
place_within name (type.field other t fs) [] place e h = absurd (cc)
place_within name (type.field other t fs) (x ∷ xs) place e h =
    let rest : are_of fs (values_of xs) ≡ true = second_so (is_of t (cell_of x)) (are_of fs (values_of xs)) h in
    by_test (bytes_eq name other) (field_place name fs) (λ p same. place_within name fs xs p same rest) e
  where
    by_test : (b : Bool) (o : Option ℕ) → ((p : ℕ) → Some p ≡ o → p < length xs) → Some place ≡ (if b then Some 0 else option_map suc o)
        → place < length (x ∷ xs)
    by_test true o later e = let first : place ≡ 0 = cc in omega arith
    by_test false (Some p) later e =
        let next : place ≡ suc p = cc in
        let within : p < length xs = later p refl in
        omega arith
    by_test false None later e = absurd (cc)

-- a field that has a type has a place
pub no_place : (name : List ℕ) (fs : Fields) → field_place name fs ≡ None → field_type name fs ≡ None
no_place name type.no_fields e = refl
no_place name (type.field other t fs) e = by_test (bytes_eq name other) (field_place name fs) (no_place name fs) e
  where
    by_test : (b : Bool) (o : Option ℕ) → (o ≡ None → field_type name fs ≡ None) → (if b then Some 0 else option_map suc o) ≡ None
        → (if b then Some t else field_type name fs) ≡ None
    by_test true o later e = absurd (cc)
    by_test false None later e = later refl
    by_test false (Some place) later e = absurd (cc)

-- what is read there is the value
pub read_at : (xs : List (Option ScalarValue)) (place : ℕ) (x : Option ScalarValue) → place < length xs → x ≡ get_or xs place x
    → value_at place (values_of xs) ≡ cell.value (cell_of x)
read_at [] place x within e = absurd (omega arith)
read_at (y ∷ xs) zero x within e = ap (λ z. cell.value (cell_of z)) (sym e)
read_at (y ∷ xs) (suc place) x within e = read_at xs place x (omega arith) e

-- ---- the field is of its type, and lists in it fit

later_place : (o : Option ℕ) (v : Value) (vs : Values) → value_at_place (option_map suc o) (value.item v vs) ≡ value_at_place o vs
later_place (Some place) v vs = refl
later_place None v vs = refl

both_none : {A : Type 0} (o p : Option A) → or_else o p ≡ None → (o ≡ None) × (p ≡ None)
both_none None p e = (refl, e)
both_none (Some x) p e = absurd (cc)

field_held : (name : List ℕ) (fs : Fields) (vs : Values) (t : DataType) (w : Value) → field_type name fs ≡ Some t
    → value_at_place (field_place name fs) vs ≡ cell.value w
    → are_of fs vs ≡ true
    → named_overflow fs vs ≡ None
    → (is_of t w ≡ true) × ListsFit t w
field_held name type.no_fields vs t w e there typed fits = absurd (cc)
field_held name (type.field other u fs) value.no_values t w e there typed fits = absurd (cc)
field_held name (type.field other u fs) (value.item v vs) t w e there typed fits =
    let rest_typed : are_of fs vs ≡ true = second_so (is_of u v) (are_of fs vs) typed in
    let both : (list_overflow u v ≡ None) × (named_overflow fs vs ≡ None) = both_none (list_overflow u v) (named_overflow fs vs) fits in
    by_test (bytes_eq name other) (λ e there. field_held name fs vs t w e there rest_typed both.1) both.0 e there
  where
    by_test : (b : Bool) → (field_type name fs ≡ Some t → value_at_place (field_place name fs) vs ≡ cell.value w → (is_of t w ≡ true) × ListsFit t w)
        → ListsFit u v → (if b then Some u else field_type name fs) ≡ Some t
        → value_at_place (if b then Some 0 else option_map suc (field_place name fs)) (value.item v vs) ≡ cell.value w
        → (is_of t w ≡ true) × ListsFit t w
    by_test true later fit e there =
        let same : u ≡ t = cc in
        let here : v ≡ w = cc in (
          (λ i. is_of (sym same i) (sym here i)) ∙ first_so (is_of u v) (are_of fs vs) typed,
          (λ i. list_overflow (sym same i) (sym here i)) ∙ fit,
        )
    by_test false later fit e there = later e (sym (later_place (field_place name fs) v vs) ∙ there)

-- so is the result
pub item_held : (name : List ℕ) (s ty : DataType) (v w : Value) → (get_item name).types (s ∷ []) ≡ Some ty → is_of s v ≡ true → ListsFit s v
    → null_through v (item_of name s v) ≡ cell.value w
    → (is_of ty w ≡ true) × ListsFit ty w
item_held name (type.struct fs n) ty (value.fields vs) w e typed fits there = by_type (field_type name fs) refl e
  where
    by_type : (o : Option DataType) → field_type name fs ≡ o → widened (type.struct fs n) o ≡ Some ty → (is_of ty w ≡ true) × ListsFit ty w
    by_type None same e = absurd (cc)
    by_type (Some t) same e =
        let held = field_held name fs vs t w same there typed fits in
        let result : widen (type.struct fs n) t ≡ ty = cc in (
          ap (λ u. is_of u w) (sym result) ∙ widened_typed (type.struct fs n) t w held.0,
          ap (λ u. list_overflow u w) (sym result) ∙ fits_either (union n (nullability_of t)) t w ∙ held.1,
        )
item_held name s ty value.null w e typed fits there =
    let same : value.null ≡ w = cc in (
      ap (is_of ty) (sym same) ∙ nullable_by_argument s (item_type name s) ty typed e,
      ap (list_overflow ty) (sym same) ∙ unnested_fits (bare ty) value.null refl,
    )
item_held name s ty _ w e typed fits there = absurd (cc)
