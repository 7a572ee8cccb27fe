-- Columns of integers.
use Rattle.std.specs.Prelude.{ℤ, List, length, map, Bool, true, false, None}
use Rattle.vx_value.specs.Types as type
use Rattle.vx_value.specs.Values.{integer}
use Rattle.vx_value.specs.Cell.{value}
use Rattle.vx_value.specs.declared.dtype.Nullability.TheVariants.{NonNullable}
use Rattle.vx_value.specs.declared.dtype.PType.{PType}
use Rattle.vx_value.specs.declared.id.Id.TheVariants as id
use Rattle.vx_tree.specs.Tree.Nodes.{Tree, Data, column}
pub use Rattle.vx_tree.specs.Tree.Nodes.{primitive}
use Rattle.vx_tree.specs.Shapes.{IsFlat}
use Rattle.vx_tree.specs.SlotRefusals.{column_refusal}
use Rattle.vx_tree.specs.Meanings.{Meaning, column_meaning}

-- a column of integers without nulls
abbrev pub integers : PType → List ℤ → Tree
integers p zs = column (type.primitive p NonNullable) (length zs) (primitive p zs) None

abbrev pub is_primitive : Data → Bool
is_primitive (primitive p zs) = true
is_primitive _ = false

abbrev pub primitive_meaning : PType → List ℤ → Meaning
primitive_meaning p zs =
    column_meaning id.Primitive (IsFlat (type.primitive p NonNullable) (length zs)) (λ ty n. column_refusal ty n (type.primitive p NonNullable) (length zs))
    (λ ty. map (λ z. value (integer z)) zs)
