-- What a call says of its errors.
use Rattle.std.specs.Prelude.{◌≡◌, ℕ, Option, Some, None, Result, IfErr}
use Rattle.vx_value.specs.declared.error.VortexError.{VortexError}
use Rattle.vx_value.specs.declared.error.VortexError.TheVariants.{OutOfMemory, TooLong}

-- the only error is out of memory
abbrev pub OnlyOutOfMemory : {T : Type 0} → Result T VortexError → Type 0
OnlyOutOfMemory result = IfErr result (λ e. e ≡ OutOfMemory)

-- lists of a size and with so many rows, whose product is too large
abbrev pub IsOverflow : VortexError → Option (ℕ × ℕ) → Type 0
IsOverflow e None = ⊥
IsOverflow e (Some p) = e ≡ TooLong p.0 p.1
