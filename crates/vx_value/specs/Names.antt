-- Lists of names: when two are the same, and what `hash` writes for them.
use Rattle.std.specs.Prelude.{◌≡◌, ℕ, List, Bool, refl}
use Rattle.std.specs.Bool.{Decides}
use Rattle.std.specs.Str.{bytes_eq}
use Rattle.std.specs.Cmp.Lexicographic.{pointwise}
use Rattle.std.proofs.lemmas.Slice.Eq.{slice_eq-Decides, bytes_eq-Decides}
use Rattle.std.specs.Hash as hash
use Rattle.std.specs.Hash.{HashWrites}

abbrev pub same_names : List (List ℕ) → List (List ℕ) → Bool
same_names = pointwise bytes_eq

pub same_names_Decides : (ms ns : List (List ℕ)) → Decides (same_names ms ns) (ms ≡ ns)
same_names_Decides ms ns = slice_eq-Decides bytes_eq-Decides ms ns (same_names ms ns) refl

-- the number of names, and then each
abbrev pub names_writes : List (List ℕ) → HashWrites
names_writes = hash.slice hash.str
