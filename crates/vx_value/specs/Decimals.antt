-- Decimal types: which there are, which numbers fit a precision, and how wide an integer holds these.
use Rattle.std.specs.Prelude.{◌≡◌, ℕ, ℤ, pos, ◌≤◌, ◌^◌, Bool, true, nat_lt, nat_le, nat_abs, if◌then◌else◌, FitsSigned}
use Rattle.std.specs.Int.{Width, w8, w16, w32, w64, w128}
use Rattle.std.specs.Bool.{Decides}
use Rattle.std.specs.Coded.{Coded, coded_ℕ}
use denote.Enum.Bare.{sameb, same_true, true_same, tag_one}
use denote.Enum.Declared.{tag_of}
use mir.Val.{bits}
use Rattle.vx_value.specs.contracts.decimal.DecimalType.{the_type as the_width}
use Rattle.vx_value.specs.declared.decimal.DecimalType.{DecimalType}
use Rattle.vx_value.specs.declared.decimal.DecimalType.TheVariants.{I8, I16, I32, I64, I128}

-- the precision is from 1 to 38, and the scale at most the precision
abbrev pub IsDecimal : ℕ → ℕ → Type 0
IsDecimal precision scale = (1 ≤ precision) × (precision ≤ 38) × (scale ≤ precision)

-- the number, without its point, has at most as many digits as the precision
abbrev pub has_digits : ℕ → ℤ → Bool
has_digits precision z = nat_lt (nat_abs z) (10 ^ precision)

-- the first number with more digits than the precision, which is at most 38
abbrev pub IsBeyond : ℕ → ℤ → Type 0
IsBeyond precision z = (precision ≤ 38) × (z ≡ pos (10 ^ precision))

abbrev pub width_of : DecimalType → Width
width_of I8 = w8
width_of I16 = w16
width_of I32 = w32
width_of I64 = w64
width_of I128 = w128

-- up to a precision of 2, 4, 9, 18 and 38
abbrev pub smallest_width : ℕ → DecimalType
smallest_width precision =
    if nat_le precision 2 then I8 else
    if nat_le precision 4 then I16 else
    if nat_le precision 9 then I32 else
    if nat_le precision 18 then I64 else
    I128

-- each number of the precision fits
abbrev pub HoldsDigits : DecimalType → ℕ → Type 0
HoldsDigits t precision = (z : ℤ) → has_digits precision z ≡ true → FitsSigned (width_of t) z

-- each fits, and no narrower integer holds them all
pub record IsNarrowest (t : DecimalType) (precision : ℕ) : Type 0 where
  pub holds : HoldsDigits t precision
  pub narrowest : (other : DecimalType) → HoldsDigits other precision → bits (width_of t) ≤ bits (width_of other)

-- ---- widths as the numbers of the variants, whatever these are

abbrev pub coded_width : Coded DecimalType
coded_width = record { code = λ w. coded_ℕ.code (tag_of the_width w); inj = λ v w e. tag_one the_width tt v w (coded_ℕ.inj _ _ e) }

abbrev pub same_width : DecimalType → DecimalType → Bool
same_width = sameb the_width

pub same_width_Decides : (v w : DecimalType) → Decides (same_width v w) (v ≡ w)
same_width_Decides v w = (same_true the_width tt v w, true_same the_width v w)
