use Rattle.std.specs.Prelude.{ℕ, ◌-◌, ◌*◌, ◌/◌, ◌%◌, ◌==◌, Bool, List, map, length, slice_index, nat_lt, if◌then◌else◌}
use Rattle.std.specs.Int.{bit_at}
use Rattle.std.specs.List.{range_with_len}

-- whether bit i of the words is set, counted from the lowest one of the first word
abbrev pub bit_of : List ℕ → ℕ → Bool
bit_of words i = bit_at (slice_index words (i / 64)) (i % 64) == 1

-- the bits of the words, 64 of each
abbrev pub bits_of : List ℕ → List Bool
bits_of words = map (bit_of words) (range_with_len 0 (64 * length words))

-- bit i of two words, counted from the lowest one of the word low
abbrev pub bit_of_both : ℕ → ℕ → ℕ → ℕ
bit_of_both low high i = if nat_lt i 64 then bit_at low i else bit_at high (i - 64)
