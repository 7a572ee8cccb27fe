-- Arithmetic at a native type.
use Rattle.std.proofs.Common.{◌≡◌, ◌≢◌, ◌↔◌, ℤ, zero, suc, pos, negsuc, Bool, if◌then◌else◌, true, false, Option, Some, None, MatchOption, int_div, inl}
use Rattle.std.proofs.Common.{inr}
use Rattle.std.proofs.Common.{refl}
use Rattle.std.proofs.Common.{sym}
use Rattle.std.proofs.Common.{ap}
use Rattle.std.proofs.Common.{subst}
use Rattle.std.proofs.Common.{◌∙◌}
use Rattle.std.proofs.Common.{arith}
use Rattle.std.specs.Prelude.{IfSome}
use Rattle.std.specs.Ordering.{int_cmp, is_eq}
use Rattle.std.proofs.lemmas.Bool.Decides.{nat_tests}
use Rattle.std.proofs.lemmas.Int.{ints}
use Rattle.num_traits.specs.Laws.{Checks, Divides}
use Rattle.vx_value.specs.Values.{integer}
use Rattle.vx_value.specs.Cell.{Cell, value, fault}
use Rattle.vx_value.specs.IsOf.{in_range}
use Rattle.vx_value.specs.declared.dtype.PType.{PType}
use Rattle.vx_fn.specs.Arithmetic.{number, divided, calculated, calculated_by}
use Rattle.vx_fn.specs.declared.function.Operator.{Operator}
use Rattle.vx_column.specs.Digits.{IsWithin}

-- ---- a number that the type is asked for

module _ {T : Type 0} (read : T → ℤ) (fits : ℤ → Type 0) where
  pub fitted : (z : ℤ) (r : Option T) → Checks read fits z r → (fit : ℤ → Cell) → IsWithin fits fit → MatchOption r (fit z ≡ fault) (λ v. fit z ≡ fit (read v))
  fitted z None h fit within = within z h
  fitted z (Some v) h fit within = ap fit (sym h.1)

  pub own_fits : (z : ℤ) (r : Option T) → Checks read fits z r → IfSome r (λ v. fits (read v))
  own_fits z None h = tt
  own_fits z (Some v) h = subst fits (sym h.1) h.0

  -- of a division, if the divisor isn't 0
  pub quotient_checks : (nonzero : Type 0) (z : ℤ) (r : Option T) → nonzero → Divides read fits nonzero z z r → Checks read fits z r
  quotient_checks nonzero z None can h =
      elim h [
        | inl n ↦ absurd (n can)
        | inr n ↦ n
      ]
  quotient_checks nonzero z (Some v) can h = (h.1, h.2)

not_zero : (y : ℤ) → y ≢ pos 0 → is_eq (int_cmp y (pos 0)) ≡ false
not_zero (pos zero) h = absurd (h refl)
not_zero (pos (suc n)) h = grind (arith, nat_tests, ints)
not_zero (negsuc n) h = grind (arith, nat_tests, ints)

pub quotient_fitted : {T : Type 0} (read : T → ℤ) (fits : ℤ → Type 0) (x y : ℤ) → y ≢ pos 0 → (r : Option T) → Checks read fits (int_div x y) r
    → (fit : ℤ → Cell) → IsWithin fits fit → MatchOption r (divided fit x y ≡ fault) (λ v. divided fit x y ≡ fit (read v))
quotient_fitted read fits x y other r h fit within =
    subst (λ c. MatchOption r (c ≡ fault) (λ v. c ≡ fit (read v))) (sym (ap (λ b. if b then fault else fit (int_div x y)) (not_zero y other)))
    (fitted read fits (int_div x y) r h fit within)

-- ---- the integers of a type

number_yes : (p : PType) (z : ℤ) → in_range p z ≡ true → number p z ≡ value (integer z)
number_yes p z h = ap (λ b. if b then value (integer z) else fault) h

not_true : (b : Bool) → ¬ (b ≡ true) → b ≡ false
not_true true h = absurd (h refl)
not_true false h = refl

number_no : (p : PType) (z : ℤ) → ¬ (in_range p z ≡ true) → number p z ≡ fault
number_no p z h = ap (λ b. if b then value (integer z) else fault) (not_true (in_range p z) h)

-- the cell of a row, from what the operator gives of any cells of the type's numbers
pub integer_calculated : {T : Type 0} (read : T → ℤ) (fits : ℤ → Type 0) (p : PType) → ((z : ℤ) → fits z ↔ (in_range p z ≡ true))
    → (op : Operator) (x y u v : ℤ)
    → x ≡ u → y ≡ v → (r : Option T)
    → ((fit : ℤ → Cell) → IsWithin fits fit → MatchOption r (calculated_by op fit x y ≡ fault) (λ w. calculated_by op fit x y ≡ fit (read w)))
    → IfSome r (λ w. fits (read w)) → MatchOption r (calculated op p u v ≡ fault) (λ w. calculated op p u v ≡ value (integer (read w)))
integer_calculated {T = T} read fits p law op x y u v left right r h own = by_option r (h (number p) (λ z no. number_no p z (λ t. no ((law z).1 t)))) own
  where
    same : calculated op p u v ≡ calculated op p x y
    same = λ j. calculated op p (sym left j) (sym right j)

    by_option : (r : Option T) → MatchOption r (calculated op p x y ≡ fault) (λ w. calculated op p x y ≡ number p (read w)) → IfSome r (λ w. fits (read w))
        → MatchOption r (calculated op p u v ≡ fault) (λ w. calculated op p u v ≡ value (integer (read w)))
    by_option None k own = same ∙ k
    by_option (Some w) k own = same ∙ k ∙ number_yes p (read w) ((law (read w)).0 own)
