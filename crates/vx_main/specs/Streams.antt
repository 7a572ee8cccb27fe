-- What a contract sees of a stream, and the bytes that were moved, if they are known.
use Rattle.std.specs.Prelude.{◌≡◌, ℕ, ◌≤◌, List, [], length, take, ⊤, Option, Some, None}
use Rattle.std.specs.Io.KnownBytes.{Appends, Consumes}

-- the bytes that a stream in memory has left or holds, and its count of faults
pub record Told : Type 0 where
  pub bytes : List ℕ
  pub faults : ℕ

-- all bytes left were taken, and they are bs
abbrev pub TakesAll : Option (List ℕ) → Option (List ℕ) → List ℕ → Type 0
TakesAll None new bs = ⊤
TakesAll (Some xs) None bs = ⊥
TakesAll (Some xs) (Some ys) bs = (xs ≡ bs) × (ys ≡ [])

-- n bytes were taken
abbrev pub TakesSome : Option (List ℕ) → Option (List ℕ) → ℕ → Type 0
TakesSome old new n = (bs : List ℕ) × Consumes old new bs × (length bs ≡ n)

-- a prefix of bs was appended
abbrev pub AppendsPrefix : Option (List ℕ) → Option (List ℕ) → List ℕ → Type 0
AppendsPrefix old new bs = (n : ℕ) × (n ≤ length bs) × Appends old new (take n bs)
