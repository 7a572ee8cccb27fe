-- Columns of decimals.
use Rattle.std.specs.Prelude.{◌≡◌, ℤ, List, length, map, Bool, true, false}
use Rattle.vx_value.specs.Values.{decimal}
use Rattle.vx_value.specs.Cell.{value}
use Rattle.vx_value.specs.Storage.{storage_of}
use Rattle.vx_value.specs.declared.decimal.DecimalType.{DecimalType}
use Rattle.vx_value.specs.declared.id.Id.TheVariants as id
use Rattle.vx_tree.specs.ColumnTypes.{decimal_type, are_decimals_of, scale_of}
use Rattle.vx_tree.specs.Tree.Nodes.{Data}
pub use Rattle.vx_tree.specs.Tree.Nodes.{decimals}
use Rattle.vx_tree.specs.Shapes.{IsFlat}
use Rattle.vx_tree.specs.SlotRefusals.{tested_refusal}
use Rattle.vx_tree.specs.Meanings.{Meaning, column_meaning}

abbrev pub is_decimals : Data → Bool
is_decimals (decimals w zs) = true
is_decimals _ = false

abbrev pub decimals_meaning : DecimalType → List ℤ → Meaning
decimals_meaning w zs =
    column_meaning id.Decimal
    (λ ty n ss. IsFlat (decimal_type (storage_of ty)) (length zs) ty n ss × (are_decimals_of (storage_of ty) w zs ≡ true))
    (λ ty n. tested_refusal ty n (decimal_type (storage_of ty)) (length zs) (are_decimals_of (storage_of ty) w zs))
    (λ ty. map (λ z. value (decimal z (scale_of (storage_of ty)))) zs)
