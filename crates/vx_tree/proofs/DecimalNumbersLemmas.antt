-- The numbers of a precision, and the width that they are stored in.
use Rattle.std.proofs.Common.{◌≡◌, ◌≤◌, ℕ, ℤ, true}
use Rattle.vx_value.specs.Decimals.{has_digits, width_of, smallest_width, IsNarrowest}
use Rattle.vx_value.specs.declared.decimal.DecimalType.{DecimalType}
use Rattle.vx_value.proofs.DecimalsLemmas.{is_narrowest}
use Rattle.vx_tree.specs.Ranges.{signed_range}
use Rattle.vx_tree.specs.Widths.{fits_width}

-- a number of so many digits fits the width that holds them all
pub narrowest_fits : (t : DecimalType) (p : ℕ) (z : ℤ) → IsNarrowest t p → has_digits p z ≡ true → fits_width t z ≡ true
narrowest_fits t p z narrowest h = (signed_range (width_of t) z).0 (narrowest.holds z h)

pub digits_fit : (t : DecimalType) (p : ℕ) (z : ℤ) → t ≡ smallest_width p → p ≤ 38 → has_digits p z ≡ true → fits_width t z ≡ true
digits_fit t p z e few = narrowest_fits t p z (is_narrowest t p e few)
