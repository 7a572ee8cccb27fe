use Rattle.std.specs.Prelude.{ℕ, Bool, false, List, slice_index_or}

-- the bit at row i, and false past the last row
abbrev pub bit_row : List Bool → ℕ → Bool
bit_row bits i = slice_index_or bits i false
