-- A test that every item of a list passes.
use Rattle.std.proofs.Common.{◌≡◌, ◌<◌, ◌≤◌, ◌+◌, ℕ, zero, suc, Bool, true, List, [], ◌∷◌, length, map, get_or, refl, ap, ◌∙◌, arith}
use Rattle.std.specs.Cmp.{first_so, second_so}
use Rattle.std.specs.List.{list_all, range_with_len}
use Rattle.std.proofs.lemmas.Bool.{and_from}

module _ {X : Type 0} (test : X → Bool) where
  all_made : (f : ℕ → X) (s m : ℕ) → ((i : ℕ) → s ≤ i → i < s + m → test (f i) ≡ true) → list_all test (map f (range_with_len s m)) ≡ true
  all_made f s zero each = refl
  all_made f s (suc m) each =
      and_from (test (f s)) _ (each s (omega arith) (omega arith)) (all_made f (s + 1) m (λ i from lt. each i (omega arith) (omega arith)))

  -- items that are made one by one
  pub all_passed : (f : ℕ → X) (xs : List X) (n : ℕ) → xs ≡ map f (range_with_len 0 n) → ((i : ℕ) → i < n → test (f i) ≡ true) → list_all test xs ≡ true
  all_passed f xs n made each = ap (list_all test) made ∙ all_made f 0 n (λ i from lt. each i (omega arith))

  -- one of them
  pub passed_at : (d : X) (xs : List X) (i : ℕ) → list_all test xs ≡ true → i < length xs → test (get_or xs i d) ≡ true
  passed_at d [] i h lt = absurd (omega arith)
  passed_at d (x ∷ xs) zero h lt = first_so (test x) _ h
  passed_at d (x ∷ xs) (suc i) h lt = passed_at d xs i (second_so (test x) _ h) (omega arith)
