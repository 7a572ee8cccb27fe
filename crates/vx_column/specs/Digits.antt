-- Numbers within a precision.
use Rattle.std.specs.Prelude.{◌≡◌, ◌&&◌, ℕ, ℤ, Bool}
use Rattle.std.specs.Ordering.{int_cmp, is_le}
use Rattle.vx_value.specs.Cell.{Cell, fault}
use Rattle.vx_value.specs.Decimals.{has_digits, smallest_width}
use Rattle.vx_value.specs.declared.decimal.DecimalType.{DecimalType}

-- z is neither below `least` nor above `greatest`
abbrev pub is_within : (least greatest : ℤ) → ℤ → Bool
is_within least greatest z = is_le (int_cmp least z) && is_le (int_cmp z greatest)

-- the least and the greatest number with at most this many digits
abbrev pub AreLimits : ℕ → (least greatest : ℤ) → Type 0
AreLimits precision least greatest = (z : ℤ) → is_within least greatest z ≡ has_digits precision z

-- the same, and numbers of the precision are stored in this width
abbrev pub HasLimits : DecimalType → ℕ → (least greatest : ℤ) → Type 0
HasLimits width precision least greatest = (width ≡ smallest_width precision) × AreLimits precision least greatest

-- each number for which `fits` doesn't hold is a fault
abbrev pub IsWithin : (fits : ℤ → Type 0) → (fit : ℤ → Cell) → Type 0
IsWithin fits fit = (z : ℤ) → ¬ fits z → fit z ≡ fault
