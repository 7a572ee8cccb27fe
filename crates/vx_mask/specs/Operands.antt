use Rattle.std.specs.Prelude.{◌≡◌, ◌<◌, ℕ, Bool, length}
use Rattle.vx_mask.specs.Logic.{bit_row}
use Rattle.vx_mask.specs.declared.operand.BitOperand.{BitOperand}
use Rattle.vx_mask.specs.declared.operand.BitOperand.TheVariants.{Bits, Bit}

-- the bit at row i
abbrev pub bit_in : BitOperand → ℕ → Bool
bit_in (Bits bs) i = bit_row bs.now i
bit_in (Bit b) i = b

-- the operand has n rows; one bit stands for any number of them
abbrev pub HasBits : BitOperand → ℕ → Type 0
HasBits (Bits bs) n = length bs.now ≡ n
HasBits (Bit b) n = Unit {0}

-- the operand has a row i
abbrev pub HasRow : BitOperand → ℕ → Type 0
HasRow (Bits bs) i = i < length bs.now
HasRow (Bit b) i = Unit {0}
