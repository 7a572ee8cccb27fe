-- Columns of booleans.
use Rattle.std.specs.Prelude.{List, length, map, Bool, true, false, None}
use Rattle.vx_value.specs.Types as type
use Rattle.vx_value.specs.Values.{boolean}
use Rattle.vx_value.specs.Cell.{value}
use Rattle.vx_value.specs.declared.dtype.Nullability.TheVariants.{NonNullable}
use Rattle.vx_value.specs.declared.id.Id.TheVariants as id
use Rattle.vx_tree.specs.Tree.Nodes.{Tree, Data, column}
pub use Rattle.vx_tree.specs.Tree.Nodes.{bool}
use Rattle.vx_tree.specs.Shapes.{IsFlat}
use Rattle.vx_tree.specs.SlotRefusals.{column_refusal}
use Rattle.vx_tree.specs.Meanings.{Meaning, column_meaning}

-- a column of booleans without nulls
abbrev pub booleans : List Bool → Tree
booleans bs = column (type.bool NonNullable) (length bs) (bool bs) None

abbrev pub is_bool : Data → Bool
is_bool (bool bs) = true
is_bool _ = false

abbrev pub bool_meaning : List Bool → Meaning
bool_meaning bs =
    column_meaning id.Bool (IsFlat (type.bool NonNullable) (length bs)) (λ ty n. column_refusal ty n (type.bool NonNullable) (length bs))
    (λ ty. map (λ b. value (boolean b)) bs)
