-- The width that a precision has is the narrowest that holds its numbers.
use Rattle.std.proofs.Common.{◌≡◌, ◌≤◌, ◌<◌, ◌^◌, ℕ, pos, negsuc, nat_abs, FitsSigned, arith, lt-ltb, ltb-true, sym, subst}
use Rattle.std.proofs.lemmas.Bool.Decides.{nat_tests}
use Rattle.std.proofs.Math.Nat.{pow-le-pow_right}
use mir.Val.{hbits, bits}
use Rattle.vx_value.specs.Decimals.{width_of, smallest_width, HoldsDigits, IsNarrowest}
use Rattle.vx_value.specs.declared.decimal.DecimalType.{DecimalType}
use Rattle.vx_value.specs.declared.decimal.DecimalType.TheVariants.{I8, I16, I32, I64, I128}

-- an integer holds the numbers of so many digits exactly if the first number with one more digit is at most its bound
holds_from : (t : DecimalType) (p : ℕ) → 10 ^ p ≤ 2 ^ hbits (width_of t) → HoldsDigits t p
holds_from t p h (pos n) e = let below : n < 10 ^ p = ltb-true n (10 ^ p) e in record { sfits = omega arith }
holds_from t p h (negsuc n) e = let below : nat_abs (negsuc n) < 10 ^ p = ltb-true _ (10 ^ p) e in record { sfits = omega arith }

holds_to : (t : DecimalType) (p : ℕ) → HoldsDigits t p → ¬ (2 ^ hbits (width_of t) < 10 ^ p)
holds_to t p h below =
    let fits : FitsSigned (width_of t) (pos (2 ^ hbits (width_of t))) = h (pos (2 ^ hbits (width_of t))) (lt-ltb _ _ below) in
    let lower : 2 ^ hbits (width_of t) < 2 ^ hbits (width_of t) = fits.sfits in
    omega arith

pub ten_to : {p q : ℕ} → p ≤ q → 10 ^ p ≤ 10 ^ q
ten_to h = pow-le-pow_right (omega arith) h

-- the numbers of the precision fit
smallest_holds : (p : ℕ) → p ≤ 38 → 10 ^ p ≤ 2 ^ hbits (width_of (smallest_width p))
smallest_holds p h =
    let two : p ≤ 2 → 10 ^ p ≤ 10 ^ 2 = ten_to in
    let four : p ≤ 4 → 10 ^ p ≤ 10 ^ 4 = ten_to in
    let nine : p ≤ 9 → 10 ^ p ≤ 10 ^ 9 = ten_to in
    let eighteen : p ≤ 18 → 10 ^ p ≤ 10 ^ 18 = ten_to in
    let all : 10 ^ p ≤ 10 ^ 38 = ten_to h in
    grind (arith, nat_tests)

-- whatever holds them is as wide
narrower : (p : ℕ) (other : DecimalType) → ¬ (2 ^ hbits (width_of other) < 10 ^ p)
    → (3 ≤ p → 10 ^ 3 ≤ 10 ^ p) → (5 ≤ p → 10 ^ 5 ≤ 10 ^ p) → (10 ≤ p → 10 ^ 10 ≤ 10 ^ p) → (19 ≤ p → 10 ^ 19 ≤ 10 ^ p)
    → bits (width_of (smallest_width p)) ≤ bits (width_of other)
narrower p I8 past three five ten nineteen = grind (arith, nat_tests)
narrower p I16 past three five ten nineteen = grind (arith, nat_tests)
narrower p I32 past three five ten nineteen = grind (arith, nat_tests)
narrower p I64 past three five ten nineteen = grind (arith, nat_tests)
narrower p I128 past three five ten nineteen = grind (arith, nat_tests)

smallest_narrowest : (p : ℕ) (other : DecimalType) → HoldsDigits other p → bits (width_of (smallest_width p)) ≤ bits (width_of other)
smallest_narrowest p other h =
    let past : ¬ (2 ^ hbits (width_of other) < 10 ^ p) = holds_to other p h in
    let three : 3 ≤ p → 10 ^ 3 ≤ 10 ^ p = ten_to in
    let five : 5 ≤ p → 10 ^ 5 ≤ 10 ^ p = ten_to in
    let ten : 10 ≤ p → 10 ^ 10 ≤ 10 ^ p = ten_to in
    let nineteen : 19 ≤ p → 10 ^ 19 ≤ 10 ^ p = ten_to in
    narrower p other past three five ten nineteen

pub is_narrowest : (t : DecimalType) (p : ℕ) → t ≡ smallest_width p → p ≤ 38 → IsNarrowest t p
is_narrowest t p e h =
    let found : IsNarrowest (smallest_width p) p = record { holds = holds_from (smallest_width p) p (smallest_holds p h); narrowest = smallest_narrowest p } in
    subst (λ (u : DecimalType). IsNarrowest u p) (sym e) found
