-- What columns of decimals and of rows of bytes have beside their values.
use Rattle.std.specs.Prelude.{ℕ, ℤ, List, Bool, true, false, ◌&&◌}
use Rattle.std.specs.List.{list_all}
use Rattle.std.specs.Str.{is_utf8}
use Rattle.vx_value.specs.Types.{DataType, decimal, utf8, binary}
use Rattle.vx_value.specs.Decimals.{has_digits, smallest_width, same_width}
use Rattle.vx_value.specs.declared.decimal.DecimalType.{DecimalType}
use Rattle.vx_value.specs.declared.decimal.DecimalType.TheVariants.{I8}
use Rattle.vx_value.specs.declared.dtype.Nullability.TheVariants.{NonNullable}
use Rattle.vx_value.specs.declared.dtype.Storage.{Storage}
use Rattle.vx_value.specs.declared.dtype.Storage.TheVariants.{Decimals, Text}
use Rattle.vx_tree.specs.Views.{ViewedRows, rows_of, all_lie_in}

-- the type of the decimals of this storage; if it isn't one of decimals, a type with one digit
abbrev pub decimal_type : Storage → DataType
decimal_type (Decimals p s) = decimal p s NonNullable
decimal_type _ = decimal 1 0 NonNullable

-- the scale of the decimals, and the width of the integers that store them
abbrev pub scale_of : Storage → ℕ
scale_of (Decimals p s) = s
scale_of _ = 0

abbrev pub width_in : Storage → DecimalType
width_in (Decimals p s) = smallest_width p
width_in _ = I8

-- the integers, of width w, are numbers of that type without their points: the width is the narrowest, and none has more digits
abbrev pub are_decimals_of : Storage → DecimalType → List ℤ → Bool
are_decimals_of (Decimals p s) w zs = same_width w (smallest_width p) && list_all (has_digits p) zs
are_decimals_of _ w zs = false

-- the type of rows of bytes: text if the storage is of text, else binary
abbrev pub bytes_type : Storage → DataType
bytes_type Text = utf8 NonNullable
bytes_type _ = binary NonNullable

-- the rows are of that type: each is UTF-8 if it is text
abbrev pub are_bytes_of : Storage → List (List ℕ) → Bool
are_bytes_of Text rows = list_all is_utf8 rows
are_bytes_of _ rows = true

-- the views lie in their buffers, and their rows are of that type
abbrev pub are_views_of : Storage → ViewedRows → Bool
are_views_of s rs = all_lie_in rs && are_bytes_of s (rows_of rs)
