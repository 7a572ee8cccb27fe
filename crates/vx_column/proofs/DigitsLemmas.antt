-- Numbers of so many digits.
use Rattle.std.proofs.Common.{◌≡◌, ◌≤◌, ◌^◌, ℕ, ℤ, pos, Bool, true, false, if◌then◌else◌, FitsSigned, to_z, of_z, nat_abs, rules, refl}
use Rattle.std.proofs.Common.{sym}
use Rattle.std.proofs.Common.{ap}
use Rattle.std.proofs.Common.{◌∙◌}
use Rattle.std.proofs.Common.{arith}
use Rattle.std.specs.Prelude.{◌-ℤ◌, nat_lt}
use Rattle.std.proofs.Math.Facts.{to_z-of_z}
use Rattle.std.specs.Int.{w128}
use Rattle.std.proofs.lemmas.Bool.Decides.{nat_tests}
use Rattle.std.proofs.lemmas.Int.{ints}
use Rattle.vx_value.specs.Casts.{sized}
use Rattle.vx_value.specs.Cell.{Cell, value, fault}
use Rattle.vx_value.specs.Decimals.{has_digits, smallest_width}
use Rattle.vx_value.specs.Values.{decimal}
use Rattle.vx_value.specs.declared.decimal.DecimalDType.{DecimalDType}
use Rattle.vx_value.specs.declared.decimal.DecimalType.{DecimalType}
use Rattle.vx_value.proofs.DecimalsLemmas.{ten_to}
use Rattle.vx_fn.specs.Arithmetic.{calculated_by}
use Rattle.vx_fn.specs.declared.function.Operator.{Operator}
use Rattle.vx_tree.specs.Widths.{fits_width}
use Rattle.vx_tree.proofs.DecimalNumbersLemmas.{digits_fit}
use Rattle.vx_column.specs.Digits.{is_within, AreLimits, HasLimits, IsWithin}
use Rattle.vx_column.proofs.UnscaledLemmas.{some_number}

-- ---- limits

pub ten_fits : (p : ℕ) → p ≤ 38 → FitsSigned w128 (pos (10 ^ p))
ten_fits p few = let all : 10 ^ p ≤ 10 ^ 38 = ten_to few in record { sfits = omega arith }

above_fits : (n : ℕ) → n ≤ 10 ^ 38 → FitsSigned w128 (pos 1 -ℤ pos n)
above_fits n few = search rules

below_fits : (n : ℕ) → n ≤ 10 ^ 38 → FitsSigned w128 (pos n -ℤ pos 1)
below_fits n few = search rules

least_digits : (n : ℕ) → 1 ≤ n → nat_lt (nat_abs (pos 1 -ℤ pos n)) n ≡ true
least_digits n some = grind (arith, nat_tests, ints)

greatest_digits : (n : ℕ) → 1 ≤ n → nat_lt (nat_abs (pos n -ℤ pos 1)) n ≡ true
greatest_digits n some = grind (arith, nat_tests, ints)

limits_below : (n : ℕ) (z : ℤ) → 1 ≤ n → is_within (pos 1 -ℤ pos n) (pos n -ℤ pos 1) z ≡ nat_lt (nat_abs z) n
limits_below n z some = grind (arith, nat_tests, ints)

limits : (p : ℕ) → AreLimits p (pos 1 -ℤ pos (10 ^ p)) (pos (10 ^ p) -ℤ pos 1)
limits p z = limits_below (10 ^ p) z (some_number p)

-- the least one, and the greatest, as they are computed in 128 bits
module _ (p : ℕ) (few : p ≤ 38) (beyond : ℤ) (is : beyond ≡ pos (10 ^ p)) where
  in_wide : to_z w128 (of_z w128 beyond) ≡ pos (10 ^ p)
  in_wide = ap (λ z. to_z w128 (of_z w128 z)) is ∙ to_z-of_z (ten_fits p few)

  least_is : to_z w128 (of_z w128 (pos 1 -ℤ to_z w128 (of_z w128 beyond))) ≡ pos 1 -ℤ pos (10 ^ p)
  least_is =
      let fits : FitsSigned w128 (pos 1 -ℤ pos (10 ^ p)) = above_fits (10 ^ p) (ten_to few) in
      ap (λ z. to_z w128 (of_z w128 (pos 1 -ℤ z))) in_wide ∙ to_z-of_z fits

  greatest_is : to_z w128 (of_z w128 (to_z w128 (of_z w128 beyond) -ℤ pos 1)) ≡ pos (10 ^ p) -ℤ pos 1
  greatest_is =
      let fits : FitsSigned w128 (pos (10 ^ p) -ℤ pos 1) = below_fits (10 ^ p) (ten_to few) in
      ap (λ z. to_z w128 (of_z w128 (z -ℤ pos 1))) in_wide ∙ to_z-of_z fits

  pub limits_computed : (least greatest : ℤ) → least ≡ to_z w128 (of_z w128 (pos 1 -ℤ to_z w128 (of_z w128 beyond)))
      → greatest ≡ to_z w128 (of_z w128 (to_z w128 (of_z w128 beyond) -ℤ pos 1)) → AreLimits p least greatest
  limits_computed least greatest low high z =
      (λ j. is_within (low j) (high j) z) ∙ (λ j. is_within (least_is j) (greatest_is j) z) ∙ limits p z

  pub least_narrow : (t : DecimalType) → t ≡ smallest_width p → fits_width t (to_z w128 (of_z w128 (pos 1 -ℤ to_z w128 (of_z w128 beyond)))) ≡ true
  least_narrow t narrow = ap (fits_width t) least_is ∙ digits_fit t p (pos 1 -ℤ pos (10 ^ p)) narrow few (least_digits (10 ^ p) (some_number p))

  pub greatest_narrow : (t : DecimalType) → t ≡ smallest_width p → fits_width t (to_z w128 (of_z w128 (to_z w128 (of_z w128 beyond) -ℤ pos 1))) ≡ true
  greatest_narrow t narrow = ap (fits_width t) greatest_is ∙ digits_fit t p (pos (10 ^ p) -ℤ pos 1) narrow few (greatest_digits (10 ^ p) (some_number p))

-- ---- decimals that fit

-- a number that the width doesn't have has more digits
pub sized_within : (t : DecimalType) (p s : ℕ) (fits : ℤ → Type 0) → t ≡ smallest_width p → p ≤ 38 → ((z : ℤ) → fits_width t z ≡ true → fits z)
    → IsWithin fits (sized p s)
sized_within t p s fits narrow few law z not_fits = by_test (has_digits p z) refl
  where
    by_test : (b : Bool) → has_digits p z ≡ b → (if b then value (decimal z s) else fault) ≡ fault
    by_test true e = absurd (not_fits (law z (digits_fit t p z narrow few e)))
    by_test false e = refl

-- a row of an operation, from what the operator gives of any cells of the type's numbers
module _ (t : DecimalType) (op : Operator) (d : DecimalDType) (least greatest : ℤ) (has : HasLimits t d.precision least greatest) (fits : ℤ → Type 0)
    (law : (z : ℤ) → fits_width t z ≡ true → fits z) (x y p q : ℤ) (left : x ≡ p) (right : y ≡ q) where
  given : (c : (ℤ → Cell) → Cell) → ((fit : ℤ → Cell) → IsWithin fits fit → calculated_by op fit x y ≡ c fit)
      → calculated_by op (sized d.precision d.scale) p q ≡ c (sized d.precision d.scale)
  given c h =
      (λ j. calculated_by op (sized d.precision d.scale) (sym left j) (sym right j))
      ∙ h (sized d.precision d.scale) (sized_within t d.precision d.scale fits has.0 d.is_decimal.1 law)

  pub row_fault : ((fit : ℤ → Cell) → IsWithin fits fit → calculated_by op fit x y ≡ fault) → calculated_by op (sized d.precision d.scale) p q ≡ fault
  row_fault = given (λ fit. fault)

  module _ (z : ℤ) (h : (fit : ℤ → Cell) → IsWithin fits fit → calculated_by op fit x y ≡ fit z) where
    by_limits : (b : Bool) → is_within least greatest z ≡ b
        → calculated_by op (sized d.precision d.scale) p q ≡ (if b then value (decimal z d.scale) else fault)
    by_limits b e = given (λ fit. fit z) h ∙ ap (λ b. if b then value (decimal z d.scale) else fault) (sym (has.1 z) ∙ e)

    pub row_value : is_within least greatest z ≡ true → calculated_by op (sized d.precision d.scale) p q ≡ value (decimal z d.scale)
    row_value = by_limits true

    pub row_beyond : is_within least greatest z ≡ false → calculated_by op (sized d.precision d.scale) p q ≡ fault
    row_beyond = by_limits false
