-- A struct of the arguments.
use Rattle.std.specs.Prelude.{◌≡◌, ◌==◌, ℕ, List, [], ◌∷◌, length, Bool, true, false, if◌then◌else◌, Option, Some, None, refl}
use Rattle.std.specs.Cmp.{unsigned_Decides}
use Rattle.vx_value.specs.Typed.{Typed}
use Rattle.vx_value.specs.IsOf.{is_of}
use Rattle.vx_value.specs.Fits.{ListsFit}
use Rattle.vx_value.specs.Types.{DataType, Fields, no_fields, field, struct}
use Rattle.vx_value.specs.Nested.{are_fields}
use Rattle.vx_value.specs.Values.{Value, Values, no_values, item, fields}
use Rattle.vx_value.specs.Cell.{value}
use Rattle.vx_value.specs.declared.dtype.Nullability.{Nullability}
use Rattle.vx_value.specs.declared.id.Id.TheVariants as id
use Rattle.vx_fn.specs.Meanings.{Meaning}
use Rattle.vx_fn.specs.declared.functions.pack.PackOptions.{PackOptions}

-- the fields of these names and types, in order
abbrev pub fields_with : List (List ℕ) → List DataType → Fields
fields_with (name ∷ names) (t ∷ tys) = field name t (fields_with names tys)
fields_with _ _ = no_fields

-- the struct type; None if two fields have one name
abbrev pub struct_of : Nullability → Fields → Option DataType
struct_of n fs = if are_fields fs then Some (struct fs n) else None

-- the same, from one argument for each name; None if their number differs
abbrev pub pack_type : Nullability → List (List ℕ) → List DataType → Option DataType
pack_type n names tys = if length tys == length names then struct_of n (fields_with names tys) else None

pub on_named : (n : Nullability) (names : List (List ℕ)) (tys : List DataType) (ty : DataType) → pack_type n names tys ≡ Some ty
    → length tys ≡ length names
on_named n names tys ty e = (unsigned_Decides (length tys) (length names)).0 (by_test (length tys == length names) e)
  where
    by_test : (b : Bool) → (if b then struct_of n (fields_with names tys) else None) ≡ Some ty → b ≡ true
    by_test true e = refl
    by_test false e = absurd (cc)

-- the values, in order
abbrev pub in_order : List Value → Values
in_order [] = no_values
in_order (v ∷ vs) = item v (in_order vs)

abbrev pub pack : PackOptions → Meaning
pack options = record {
  id = id.Pack;
  names = options.names;
  types = pack_type options.nullability options.names;
  value = λ tys ty vs. value (fields (in_order vs));
  taken = on_named options.nullability options.names;
}

-- each scalar is of its type, and its lists fit
abbrev pub AreTyped : List Typed → Type 0
AreTyped [] = Unit {0}
AreTyped (s ∷ ss) = (is_of s.of_type s.value ≡ true) × ListsFit s.of_type s.value × AreTyped ss
