-- The validities that are spelled have the nullability and the rows that they are spelled for.
use Rattle.std.proofs.Common.{◌≡◌, ℕ, true, false, Some, refl}
use Rattle.vx_value.specs.Values.{Value, boolean}
use Rattle.vx_value.specs.declared.dtype.Nullability.{Nullability}
use Rattle.vx_value.specs.declared.dtype.Nullability.TheVariants.{NonNullable, Nullable}
use Rattle.vx_tree.specs.Tree as enc
use Rattle.vx_tree.specs.Tree.{Tree, datum}
use Rattle.vx_tree.specs.Validities.{HasRows, nullability_by, without_nulls, of_truth, of_data, validity_of}
use Rattle.vx_tree.specs.declared.validity.Validity.{Validity}
use Rattle.vx_tree.specs.declared.validity.Validity.TheVariants as validity

-- a validity is one of n rows of a type of this nullability
abbrev pub IsFor : Nullability → ℕ → Validity → Type 0
IsFor m n v = (nullability_by v ≡ m) × HasRows v n

pub absent_for : (m : Nullability) (n : ℕ) → IsFor m n (without_nulls m)
absent_for NonNullable n = (refl, tt)
absent_for Nullable n = (refl, tt)

-- a constant that is read back too
pub told_for : (t : Tree) (n : ℕ) → HasRows (validity.Array t) n → IsFor Nullable n (validity_of Nullable (Some t))
told_for t n h = by_data (datum t)
  where
    by_truth : (x : Value) → IsFor Nullable n (of_truth x t)
    by_truth (boolean true) = (refl, tt)
    by_truth (boolean false) = (refl, tt)
    by_truth _ = (refl, h)

    by_data : (d : enc.Data) → IsFor Nullable n (of_data d t)
    by_data (enc.constant v) = by_truth v.value
    by_data _ = (refl, h)
