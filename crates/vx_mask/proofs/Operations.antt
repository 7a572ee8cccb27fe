-- What the operations on words do to one bit of each.
use Rattle.std.specs.Prelude.{◌==◌, ◌&&◌, ◌||◌, bit_and, bit_or, bit_xor, not}
use Rattle.std.proofs.Common.{◌≡◌, ◌<◌, ◌+◌, ◌-◌, ◌%◌, ◌^◌, ℕ, Bool, true, false, zero, suc, min, max, arith, ◌∙◌, ap, refl}
use Rattle.std.specs.Int.{bit_at, w64}
use Rattle.std.specs.Ordering.{bool_cmp, is_eq, is_ne, is_lt, is_le, is_gt, is_ge}
use Rattle.std.proofs.lemmas.Nat.{xor_lt}
use Rattle.std.proofs.lemmas.Nat.Bits.{bit_at-lt, bit_at_not, bit_at_and, bit_at_or, bit_at_xor}

-- f does to the numbers 0 and 1 what g does to false and true
abbrev IsOnBits : (ℕ → ℕ → ℕ) → (Bool → Bool → Bool) → Type 0
IsOnBits f g =
    ((f 0 0 == 1) ≡ g false false) × ((f 0 1 == 1) ≡ g false true)
    × ((f 1 0 == 1) ≡ g true false) × ((f 1 1 == 1) ≡ g true true)

-- two bits, by cases
of_two : (f : ℕ → ℕ → ℕ) (g : Bool → Bool → Bool) → IsOnBits f g → (a b : ℕ) → a < 2 → b < 2 → (f a b == 1) ≡ g (a == 1) (b == 1)
of_two f g e zero zero _ _ = e.0
of_two f g e zero (suc zero) _ _ = e.1
of_two f g e (suc zero) zero _ _ = e.2
of_two f g e (suc zero) (suc zero) _ _ = e.3
of_two f g e zero (suc (suc b)) h k = absurd (omega arith)
of_two f g e (suc zero) (suc (suc b)) h k = absurd (omega arith)
of_two f g e (suc (suc a)) b h k = absurd (omega arith)

-- a bit that f makes of bit i of two words
made : (f : ℕ → ℕ → ℕ) (g : Bool → Bool → Bool) → IsOnBits f g → (l r i bit : ℕ) → bit ≡ f (bit_at l i) (bit_at r i)
    → (bit == 1) ≡ g (bit_at l i == 1) (bit_at r i == 1)
made f g e l r i bit is = ap (λ x. x == 1) is ∙ of_two f g e (bit_at l i) (bit_at r i) (bit_at-lt l i) (bit_at-lt r i)

-- bit i of two words, which is one operation on the bit i of each
pub eq_of_words : (l r i : ℕ) → l < 2 ^ 64 → r < 2 ^ 64 → i < 64
    → (bit_at (2 ^ 64 - 1 - bit_xor l r) i == 1) ≡ is_eq (bool_cmp (bit_at l i == 1) (bit_at r i == 1))
eq_of_words l r i l_in r_in h =
    made (λ a b. 1 - (a + b) % 2) (λ a b. is_eq (bool_cmp a b)) (refl, refl, refl, refl) l r i _
    (bit_at_not w64 (bit_xor l r) i (xor_lt 64 l r l_in r_in) h ∙ ap (λ x. 1 - x) (bit_at_xor l r i))

pub ne_of_words : (l r i : ℕ) → (bit_at (bit_xor l r) i == 1) ≡ is_ne (bool_cmp (bit_at l i == 1) (bit_at r i == 1))
ne_of_words l r i =
    made (λ a b. (a + b) % 2) (λ a b. is_ne (bool_cmp a b)) (refl, refl, refl, refl) l r i _ (bit_at_xor l r i)

pub lt_of_words : (l r i : ℕ) → l < 2 ^ 64 → i < 64
    → (bit_at (bit_and (2 ^ 64 - 1 - l) r) i == 1) ≡ is_lt (bool_cmp (bit_at l i == 1) (bit_at r i == 1))
lt_of_words l r i l_in h =
    made (λ a b. min (1 - a) b) (λ a b. is_lt (bool_cmp a b)) (refl, refl, refl, refl) l r i _
    (bit_at_and (2 ^ 64 - 1 - l) r i ∙ ap (λ x. min x (bit_at r i)) (bit_at_not w64 l i l_in h))

pub le_of_words : (l r i : ℕ) → l < 2 ^ 64 → i < 64
    → (bit_at (bit_or (2 ^ 64 - 1 - l) r) i == 1) ≡ is_le (bool_cmp (bit_at l i == 1) (bit_at r i == 1))
le_of_words l r i l_in h =
    made (λ a b. max (1 - a) b) (λ a b. is_le (bool_cmp a b)) (refl, refl, refl, refl) l r i _
    (bit_at_or (2 ^ 64 - 1 - l) r i ∙ ap (λ x. max x (bit_at r i)) (bit_at_not w64 l i l_in h))

pub gt_of_words : (l r i : ℕ) → r < 2 ^ 64 → i < 64
    → (bit_at (bit_and l (2 ^ 64 - 1 - r)) i == 1) ≡ is_gt (bool_cmp (bit_at l i == 1) (bit_at r i == 1))
gt_of_words l r i r_in h =
    made (λ a b. min a (1 - b)) (λ a b. is_gt (bool_cmp a b)) (refl, refl, refl, refl) l r i _
    (bit_at_and l (2 ^ 64 - 1 - r) i ∙ ap (min (bit_at l i)) (bit_at_not w64 r i r_in h))

pub and_of_words : (l r i : ℕ) → (bit_at (bit_and l r) i == 1) ≡ (bit_at l i == 1) && (bit_at r i == 1)
and_of_words l r i = made min (λ a b. a && b) (refl, refl, refl, refl) l r i _ (bit_at_and l r i)

pub or_of_words : (l r i : ℕ) → (bit_at (bit_or l r) i == 1) ≡ (bit_at l i == 1) || (bit_at r i == 1)
or_of_words l r i = made max (λ a b. a || b) (refl, refl, refl, refl) l r i _ (bit_at_or l r i)

pub ge_of_words : (l r i : ℕ) → r < 2 ^ 64 → i < 64
    → (bit_at (bit_or l (2 ^ 64 - 1 - r)) i == 1) ≡ is_ge (bool_cmp (bit_at l i == 1) (bit_at r i == 1))
ge_of_words l r i r_in h =
    made (λ a b. max a (1 - b)) (λ a b. is_ge (bool_cmp a b)) (refl, refl, refl, refl) l r i _
    (bit_at_or l (2 ^ 64 - 1 - r) i ∙ ap (max (bit_at l i)) (bit_at_not w64 r i r_in h))

-- a bit that differs from true is its negation
pub differs_from_true : (b : Bool) → is_ne (bool_cmp b true) ≡ not b
differs_from_true true = refl
differs_from_true false = refl
