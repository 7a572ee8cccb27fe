-- Casts to decimals by powers of ten.
use Rattle.std.proofs.Common.{◌≡◌, ◌≤◌, ◌<◌, ◌-◌, ◌*ℤ◌, ℕ, ℤ, pos, Bool, true, false, if◌then◌else◌, nat_le, FitsSigned, Option, Some, None, SomeIff, MatchOption}
use Rattle.std.proofs.Common.{of_z, to_z, sym, ap, subst, ◌∙◌, arith}
use Rattle.std.specs.Prelude.{int_div, int_rem}
use Rattle.std.specs.Int.{w128}
use Rattle.std.specs.Ordering.{int_eq}
use Rattle.std.proofs.lemmas.Bool.Decides.{nat_tests}
use Rattle.vx_value.specs.Casts.{power, sized, lengthened, shortened, rescaled}
use Rattle.vx_value.specs.Cell.{fault}
use Rattle.vx_value.specs.declared.decimal.DecimalDType.{DecimalDType}
use Rattle.vx_value.specs.Powers.{scales_apart, HasPower}
use Rattle.vx_value.proofs.CastsLemmas.{power_fits, power_divides, past_digits}

apart_fits : (d : DecimalDType) (r : ℕ) → r ≤ 38 → FitsSigned w128 (power (scales_apart d.scale r))
apart_fits d r h = power_fits (scales_apart d.scale r) (by_test (nat_le r d.scale))
  where
    by_test : (b : Bool) → (if b then d.scale - r else r - d.scale) ≤ 38
    by_test true = omega (arith, d.is_decimal.1, d.is_decimal.2)
    by_test false = omega (arith, h)

module _ (d : DecimalDType) (r : ℕ) (by z : ℤ) (has : HasPower d r by) where
  -- 128 bits hold the power
  pub fits_by : FitsSigned w128 by
  fits_by = subst (FitsSigned w128) (sym has.1) (apart_fits d r has.0)

  -- dividing by it is safe
  pub divides_by : FitsSigned w128 z → (0 < of_z w128 by) × FitsSigned w128 (int_div (to_z w128 (of_z w128 z)) (to_z w128 (of_z w128 by)))
  divides_by fits = power_divides z by (scales_apart d.scale r) fits (apart_fits d r has.0) has.1

  lengthened_by : r ≤ d.scale → rescaled d.precision d.scale z r ≡ sized d.precision d.scale (z *ℤ by)
  lengthened_by h =
      let e : nat_le r d.scale ≡ true = grind (arith, nat_tests) in
      ap (λ b. if b then lengthened d.precision d.scale z (d.scale - r) else shortened d.precision d.scale z (r - d.scale)) e
      ∙ ap (λ x. sized d.precision d.scale (z *ℤ x)) (sym (has.1 ∙ ap (λ b. power (if b then d.scale - r else r - d.scale)) e))

  -- a product that 128 bits don't hold is of no decimal type
  pub lengthened_in : r ≤ d.scale → (x y : ℤ) → x ≡ z → y ≡ by → (o : Option ℤ) → SomeIff o (FitsSigned w128 (x *ℤ y)) (x *ℤ y)
      → MatchOption o (rescaled d.precision d.scale z r ≡ fault) (λ u. rescaled d.precision d.scale z r ≡ sized d.precision d.scale u)
  lengthened_in h x y left right None past =
      lengthened_by h
      ∙ past_digits d.precision d.scale (z *ℤ by) d.is_decimal.1 (λ fits. past (subst (λ w. FitsSigned w128 w) (λ j. sym left j *ℤ sym right j) fits))
  lengthened_in h x y left right (Some u) found =
      lengthened_by h ∙ ap (sized d.precision d.scale) ((λ j. sym left j *ℤ sym right j) ∙ sym found.1)

  pub shortened_by : ¬ (r ≤ d.scale)
      → rescaled d.precision d.scale z r ≡ (if int_eq (int_rem z by) (pos 0) then sized d.precision d.scale (int_div z by) else fault)
  shortened_by h =
      let e : nat_le r d.scale ≡ false = grind (arith, nat_tests) in
      ap (λ b. if b then lengthened d.precision d.scale z (d.scale - r) else shortened d.precision d.scale z (r - d.scale)) e
      ∙ ap (λ x. if int_eq (int_rem z x) (pos 0) then sized d.precision d.scale (int_div z x) else fault)
      (sym (has.1 ∙ ap (λ b. power (if b then d.scale - r else r - d.scale)) e))
