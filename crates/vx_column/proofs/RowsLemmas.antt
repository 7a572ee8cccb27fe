-- The rows of an operand: shared, or one value repeated.
use Rattle.std.proofs.Common.{◌≡◌, ℕ, ℤ, FitsSigned, to_z, of_z, List, length, map, replicate, get_or, sym, ap, ◌∙◌}
use Rattle.std.proofs.Math.Facts.{to_z-of_z}
use Rattle.std.specs.Int.{w128}
use Rattle.std.specs.List.{range_with_len}
use Rattle.vx_mask.proofs.Lists.{same_below, all_below}
use Rattle.vx_column.proofs.ValidRowsLemmas.{by_rows}

module _ {R X : Type 0} (at : R → ℕ → X) (operand : R) (n : ℕ) where
  pub rows_shared : (d : X) (r : R) (xs ys : List X) → operand ≡ r → ys ≡ xs → length xs ≡ n → ((i : ℕ) → at r i ≡ get_or xs i d)
      → ys ≡ map (at operand) (range_with_len 0 n)
  rows_shared d r xs ys is same long rows =
      same ∙ by_rows xs d n long ∙ same_below n (λ i. get_or xs i d) (at operand) (λ i lt. sym (ap (λ q. at q i) is ∙ rows i))

  pub value_repeated : (r : R) (x y : X) (ys : List X) → operand ≡ r → ys ≡ replicate n y → y ≡ x → ((i : ℕ) → at r i ≡ x)
      → ys ≡ map (at operand) (range_with_len 0 n)
  value_repeated r x y ys is made same rows =
      made ∙ ap (replicate n) same ∙ sym (all_below n (at operand) x (λ i lt. ap (λ q. at q i) is ∙ rows i))

-- so with a number of 128 bits
pub number_repeated : {R : Type 0} (at : R → ℕ → ℤ) (operand r : R) (n : ℕ) (z : ℤ) (zs : List ℤ) → FitsSigned w128 z → operand ≡ r
    → zs ≡ replicate n (to_z w128 (of_z w128 z)) → ((i : ℕ) → at r i ≡ z) → zs ≡ map (at operand) (range_with_len 0 n)
number_repeated at operand r n z zs fits is made = value_repeated at operand n r z _ zs is made (to_z-of_z fits)
