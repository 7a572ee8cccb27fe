-- Columns of text and of bytes.
use Rattle.std.specs.Prelude.{◌≡◌, length, map, Bool, true, false}
use Rattle.vx_value.specs.Values.{bytes}
use Rattle.vx_value.specs.Cell.{value}
use Rattle.vx_value.specs.Storage.{storage_of}
use Rattle.vx_value.specs.declared.id.Id.TheVariants as id
use Rattle.vx_tree.specs.ColumnTypes.{bytes_type, are_views_of}
use Rattle.vx_tree.specs.Views.{ViewedRows, bytes_at}
use Rattle.vx_tree.specs.Tree.Nodes.{Data}
pub use Rattle.vx_tree.specs.Tree.Nodes.{views}
use Rattle.vx_tree.specs.Shapes.{IsFlat}
use Rattle.vx_tree.specs.SlotRefusals.{tested_refusal}
use Rattle.vx_tree.specs.Meanings.{Meaning, column_meaning}

abbrev pub is_views : Data → Bool
is_views (views rs) = true
is_views _ = false

abbrev pub views_meaning : ViewedRows → Meaning
views_meaning rs =
    column_meaning id.VarBinView (λ ty n ss. IsFlat (bytes_type (storage_of ty)) (length rs.views) ty n ss × (are_views_of (storage_of ty) rs ≡ true))
    (λ ty n. tested_refusal ty n (bytes_type (storage_of ty)) (length rs.views) (are_views_of (storage_of ty) rs))
    (λ ty. map (λ v. value (bytes (bytes_at rs.buffers v))) rs.views)
