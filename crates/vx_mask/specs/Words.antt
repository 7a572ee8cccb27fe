use Rattle.std.specs.Prelude.{ℕ, zero, suc, ◌/◌, ◌%◌, ◌==◌, Bool, List, [], ◌∷◌}

-- the n lowest bits of a word, from the lowest one on
unfoldable pub low_bits : ℕ → ℕ → List Bool
low_bits zero word = []
low_bits (suc n) word = (word % 2 == 1) ∷ low_bits n (word / 2)
