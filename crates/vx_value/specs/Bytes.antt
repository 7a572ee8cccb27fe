-- Lists of bytes: which comes first, and what `hash` writes for them.
use Rattle.std.specs.Prelude.{ℕ, List, [], Option, Some, None}
use Rattle.std.specs.declared.cmp.Ordering.{Ordering}
use Rattle.std.specs.Cmp.Lexicographic.{slice_cmp}
use Rattle.std.specs.Ordering.{nat_cmp}
use Rattle.std.specs.Hash as hash
use Rattle.std.specs.Hash.{HashWrites}

-- by the first byte that differs; a prefix comes before the longer list
abbrev pub bytes_cmp : List ℕ → List ℕ → Ordering
bytes_cmp = slice_cmp nat_cmp

-- the length, and then each byte
abbrev pub bytes_writes : List ℕ → HashWrites
bytes_writes = hash.slice hash.u8

-- the bytes, none if there is no storage
abbrev pub or_none : Option (List ℕ) → List ℕ
or_none None = []
or_none (Some bs) = bs
