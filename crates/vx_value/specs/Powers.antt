-- Powers of ten that a cast to decimals needs.
use Rattle.std.specs.Prelude.{◌≡◌, ◌-◌, ◌≤◌, ℕ, ℤ, nat_le, if◌then◌else◌}
use Rattle.vx_value.specs.Casts.{power}
use Rattle.vx_value.specs.declared.decimal.DecimalDType.{DecimalDType}

-- how far apart two scales are
abbrev pub scales_apart : ℕ → ℕ → ℕ
scales_apart s r = if nat_le r s then s - r else r - s

-- the power of ten that brings numbers of scale r to the scale of d
abbrev pub HasPower : DecimalDType → ℕ → ℤ → Type 0
HasPower d r by = (r ≤ 38) × (by ≡ power (scales_apart d.scale r))
