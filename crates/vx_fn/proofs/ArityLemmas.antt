-- Lists of exactly one, two or three arguments, by their elements.
use Rattle.std.proofs.Common.{◌≡◌, ◌≤◌, ◌<◌, List, [], ◌∷◌, length, get_or, sym, arith}

module _ {A : Type 0} where
  pub one_read : (xs : List A) (x : A) → 1 ≤ length xs → length xs < 2 → x ≡ get_or xs 0 x → xs ≡ x ∷ []
  one_read (a ∷ []) x least most first = λ i. sym first i ∷ []
  one_read [] x least most first = absurd (omega arith)
  one_read (a ∷ b ∷ xs) x least most first = absurd (omega arith)

  pub two_read : (xs : List A) (x y : A) → 2 ≤ length xs → length xs < 3 → x ≡ get_or xs 0 x → y ≡ get_or xs 1 y → xs ≡ x ∷ y ∷ []
  two_read (a ∷ b ∷ []) x y least most first second = λ i. sym first i ∷ sym second i ∷ []
  two_read [] x y least most first second = absurd (omega arith)
  two_read (a ∷ []) x y least most first second = absurd (omega arith)
  two_read (a ∷ b ∷ c ∷ xs) x y least most first second = absurd (omega arith)

  pub three_read : (xs : List A) (x y z : A) → 3 ≤ length xs → length xs < 4 → x ≡ get_or xs 0 x → y ≡ get_or xs 1 y → z ≡ get_or xs 2 z
      → xs ≡ x ∷ y ∷ z ∷ []
  three_read (a ∷ xs) x y z least most first second third =
      let rest = two_read xs y z (omega arith) (omega arith) second third in λ i. sym first i ∷ rest i
  three_read [] x y z least most first second third = absurd (omega arith)
