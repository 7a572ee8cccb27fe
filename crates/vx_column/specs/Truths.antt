-- Truth values: bits, and which of them are known.
use Rattle.std.specs.Prelude.{ℕ, Bool}
use Rattle.vx_mask.specs.Operands.{bit_in, HasBits}
use Rattle.vx_column.specs.ValidRows.{is_valid, HasValidity}
use Rattle.vx_column.specs.declared.rows.argument.Argument.{Argument}
use Rattle.vx_column.specs.declared.rows.argument.ArgumentRows.TheVariants.{Bits}
use Rattle.vx_column.specs.declared.functions.operator.logic.Truths.{Truths}

-- there are n rows
abbrev pub HasTruths : Truths → ℕ → Type 0
HasTruths t n = HasBits t.bits n × HasValidity t.valid.now n

abbrev pub argument_in : Truths → Argument
argument_in t = record { rows = Bits t.bits; valid = t.valid.now }

-- f applied to whether row i is known and to its bit
abbrev pub row_over : (Bool → Bool → Bool) → Truths → ℕ → Bool
row_over f t i = f (is_valid t.valid.now i) (bit_in t.bits i)
