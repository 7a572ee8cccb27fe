-- Values compared row by row.
use Rattle.std.specs.Prelude.{ℕ, ◌<◌, Bool}
use Rattle.vx_value.specs.Values.{Value}
use Rattle.vx_value.specs.Order.{value_cmp}
use Rattle.vx_fn.specs.Comparisons.{holds}
use Rattle.vx_fn.specs.declared.function.Operator.{Operator}
use Rattle.vx_column.specs.Arguments.{AreBytes}
use Rattle.vx_column.specs.declared.rows.argument.BytesOperand.{BytesOperand}

-- the bytes have a row i
abbrev pub HasBytesRow : BytesOperand → ℕ → Type 0
HasBytesRow bs i = (n : ℕ) × (i < n) × AreBytes bs n

-- the operator holds of row i of `left` and `right`
abbrev pub is_compared : Operator → (left right : ℕ → Value) → ℕ → Bool
is_compared op left right i = holds op (value_cmp (left i) (right i))
