-- Which integers each width that decimals are stored in has.
use Rattle.std.specs.Prelude.{ℤ, ◌^◌, Bool}
use mir.Val.{hbits}
use Rattle.vx_value.specs.IsOf.{is_signed_below}
use Rattle.vx_value.specs.Decimals.{width_of}
use Rattle.vx_value.specs.declared.decimal.DecimalType.{DecimalType}

-- the integer is one of the width's
abbrev pub fits_width : DecimalType → ℤ → Bool
fits_width t z = is_signed_below (2 ^ hbits (width_of t)) z
