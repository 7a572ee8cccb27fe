-- The limits of a run.
use Rattle.std.specs.Prelude.{ℕ}

-- the largest input, in bytes
abbrev pub input_limit : ℕ
input_limit = 67108864
