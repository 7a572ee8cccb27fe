-- The column of rows that may be null: the values that it stores, and its validity, by one definition.
use Rattle.std.specs.Prelude.{ℕ, ℤ, pos, List, [], length, map, Bool, false, Option, Some, None, is_some}
use Rattle.vx_value.specs.Types as type
use Rattle.vx_value.specs.Types.{DataType}
use Rattle.vx_value.specs.declared.dtype.Nullability.{Nullability}
use Rattle.vx_value.specs.declared.dtype.PType.{PType}
use Rattle.vx_value.specs.Storage.{storage_of}
use Rattle.vx_tree.specs.ColumnTypes.{width_in}
use Rattle.vx_tree.specs.Tree as enc
use Rattle.vx_tree.specs.Tree.{Tree, column}
use Rattle.vx_tree.specs.Validities.{child_by}
use Rattle.vx_tree.specs.Views.{packed}

-- a row's item, or `other` if it is null
abbrev pub item_or : {A : Type 0} → A → Option A → A
item_or other None = other
item_or other (Some x) = x

-- a column of booleans, and one of integers: a null row stores false or 0
abbrev pub boolean_rows : Nullability → List (Option Bool) → Tree
boolean_rows m rows = column (type.bool m) (length rows) (enc.bool (map (item_or false) rows)) (child_by (map is_some rows))

abbrev pub integer_rows : Nullability → PType → List (Option ℤ) → Tree
integer_rows m p rows = column (type.primitive p m) (length rows) (enc.primitive p (map (item_or (pos 0)) rows)) (child_by (map is_some rows))

-- a column of decimals of a type: a null row stores 0
abbrev pub decimal_rows : DataType → List (Option ℤ) → Tree
decimal_rows ty rows = column ty (length rows) (enc.decimals (width_in (storage_of ty)) (map (item_or (pos 0)) rows)) (child_by (map is_some rows))

-- a column of text or bytes of a type, in one data buffer: a null row stores no bytes
abbrev pub bytes_rows : DataType → List (Option (List ℕ)) → Tree
bytes_rows ty rows = column ty (length rows) (enc.views (packed (map (item_or []) rows))) (child_by (map is_some rows))
