-- The rows of an operand.
use Rattle.std.proofs.Common.{◌<◌, ℕ, arith}
use Rattle.vx_mask.specs.Operands.{HasBits, HasRow}
use Rattle.vx_mask.specs.declared.operand.BitOperand.{BitOperand}
use Rattle.vx_mask.specs.declared.operand.BitOperand.TheVariants.{Bits, Bit}

-- an operand of n rows has each row below n
pub has_row : (o : BitOperand) (n i : ℕ) → HasBits o n → i < n → HasRow o i
has_row (Bits bs) n i sized within = omega arith
has_row (Bit b) n i sized within = tt
