-- Columns by the values that they store and their validity.
use Rattle.std.specs.Prelude.{ℕ, ℤ, List, length, Bool}
use Rattle.vx_value.specs.Types as type
use Rattle.vx_value.specs.declared.dtype.PType.{PType}
use Rattle.vx_value.specs.Nullabilities.{with_nullability}
use Rattle.vx_value.specs.declared.dtype.Storage.{Storage}
use Rattle.vx_value.specs.declared.decimal.DecimalDType.{DecimalDType}
use Rattle.vx_value.specs.declared.decimal.DecimalType.{DecimalType}
use Rattle.vx_tree.specs.ColumnTypes.{bytes_type}
use Rattle.vx_tree.specs.Tree.{Tree, column, bool, primitive, decimals, views}
use Rattle.vx_tree.specs.Validities.{nullability_by, child_of}
use Rattle.vx_tree.specs.declared.validity.Validity.{Validity}
use Rattle.vx_tree.specs.Views.{ViewedRows}

-- a column of booleans; of integers; of decimals without their points; of text or bytes, by its storage
abbrev pub boolean_column : List Bool → Validity → Tree
boolean_column bs v = column (type.bool (nullability_by v)) (length bs) (bool bs) (child_of v (length bs))

abbrev pub integer_column : PType → List ℤ → Validity → Tree
integer_column p zs v = column (type.primitive p (nullability_by v)) (length zs) (primitive p zs) (child_of v (length zs))

abbrev pub scaled_column : ℕ → ℕ → DecimalType → List ℤ → Validity → Tree
scaled_column p k w zs v = column (type.decimal p k (nullability_by v)) (length zs) (decimals w zs) (child_of v (length zs))

abbrev pub decimal_column : DecimalDType → DecimalType → List ℤ → Validity → Tree
decimal_column d = scaled_column d.precision d.scale

abbrev pub bytes_column : Storage → ViewedRows → Validity → Tree
bytes_column st rs v = column (with_nullability (nullability_by v) (bytes_type st)) (length rs.views) (views rs) (child_of v (length rs.views))
