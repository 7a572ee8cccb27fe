-- Checks of rows.
use Rattle.std.specs.Prelude.{ℕ, Bool, ◌&&◌, List, map}
use Rattle.std.specs.List.{range_with_len}

-- the bits that a column of the answers stores for n rows: false if the row is null
abbrev pub checked_rows : (valid check : ℕ → Bool) → ℕ → List Bool
checked_rows valid check n = map (λ i. valid i && check i) (range_with_len 0 n)
