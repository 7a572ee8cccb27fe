-- Columns of decimals, by how their type's values are stored.
use Rattle.std.proofs.Common.{◌≡◌, ℕ, ℤ, List, slice_range, true, Option, length, refl, sym, ap, subst, ◌∙◌}
use Rattle.std.specs.List.{list_all}
use Rattle.std.specs.Cmp.{first_so, second_so}
use Rattle.std.proofs.lemmas.Bool.{and_from}
use Rattle.vx_value.specs.Types.{DataType}
use Rattle.vx_value.specs.Nullabilities.{with_nullability}
use Rattle.vx_value.specs.Decimals.{has_digits, smallest_width, same_width}
use Rattle.vx_value.specs.Storage.{storage_of}
use Rattle.vx_value.specs.declared.decimal.DecimalType.{DecimalType}
use Rattle.vx_value.specs.declared.dtype.Nullability.{Nullability}
use Rattle.vx_value.specs.declared.dtype.Storage.{Storage}
use Rattle.vx_value.specs.declared.dtype.Storage.TheVariants.{Decimals}
use Rattle.vx_value.specs.declared.id.Id.TheVariants.{Decimal}
use Rattle.vx_tree.specs.ColumnTypes.{decimal_type, are_decimals_of}
use Rattle.vx_tree.specs.Columns.{canonical_id}
use Rattle.vx_tree.specs.Tree.{decimals}
use Rattle.vx_tree.specs.Well.{Shape, IsFlat, IsNode}
use Rattle.vx_tree.proofs.BytesLemmas.{range_passes}

-- its encoding, whatever the nullability
pub decimal_columns : (m : Nullability) (s : Storage) → canonical_id (with_nullability m (decimal_type s)) ≡ Decimal
decimal_columns m (Decimals p s) = refl
decimal_columns m _ = refl

-- numbers that are stored so make columns of their type alone
pub decimals_node : (s : Storage) (w : DecimalType) (zs : List ℤ) → are_decimals_of s w zs ≡ true
    → (ty : DataType) (n : ℕ) (ss : List (Option Shape)) → IsFlat (decimal_type s) (length zs) ty n ss → IsNode ty n (decimals w zs) ss
decimals_node (Decimals p s) w zs h ty n ss flat =
    let stored : storage_of ty ≡ Decimals p s = ap storage_of flat.1 in
    (subst (λ x. IsFlat (decimal_type x) (length zs) ty n ss) (sym stored) flat, ap (λ x. are_decimals_of x w zs) stored ∙ h)
decimals_node _ w zs h ty n ss flat = absurd (cc)

-- a range of numbers of a type is of it too
pub decimals_part : (s : Storage) (w : DecimalType) (xs ys : List ℤ) (a b : ℕ) → are_decimals_of s w xs ≡ true → ys ≡ slice_range xs a b
    → are_decimals_of s w ys ≡ true
decimals_part (Decimals p s) w xs ys a b h range =
    let width : same_width w (smallest_width p) ≡ true = first_so _ _ h in
    and_from _ _ width (ap (list_all (has_digits p)) range ∙ range_passes (has_digits p) xs a b (second_so (same_width w (smallest_width p)) _ h))
decimals_part _ w xs ys a b h range = absurd (cc)
