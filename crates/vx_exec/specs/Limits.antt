-- The default limit of turns.
use Rattle.std.specs.Prelude.{ℕ}

abbrev pub default_turns : ℕ
default_turns = 4194304
