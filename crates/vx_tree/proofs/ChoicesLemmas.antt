-- Slices of slices, and filters of filters.
use Rattle.std.proofs.Common.{◌≡◌, ℕ, ◌+◌, ◌-◌, ◌≤◌, List, take, drop, Bool, refl, sym, arith}
use Rattle.std.proofs.lemmas.List.{drop-take, take-take, drop-drop}
use Rattle.vx_mask.specs.Places.{combined}
use Rattle.vx_mask.proofs.PlacesLemmas.{chosen-combined}
use Rattle.vx_tree.specs.Tree.{Tree, len, slice_of, filter_of}
use Rattle.vx_tree.specs.Cells.{rows}

part_twice : {X : Type 0} (xs : List X) (a n c d : ℕ) → c ≤ d → d ≤ n → take (d - c) (drop c (take n (drop a xs))) ≡ take (a + d - (a + c)) (drop (a + c) xs)
part_twice xs a n c d order within =
    let long : n ≡ c + (n - c) = omega arith in
    let count : a + d - (a + c) ≡ d - c = omega arith in
    let less : d - c ≤ n - c = omega arith in
    rw (count, long, drop-take c (n - c) (drop a xs), take-take (d - c) (n - c) (drop c (drop a xs)) less, drop-drop c a xs) refl

pub slice_twice : (t : Tree) (a b c d : ℕ) → a ≤ b → b ≤ len t → c ≤ d → d ≤ b - a → rows (slice_of c d (slice_of a b t)) ≡ rows (slice_of (a + c) (a + d) t)
slice_twice t a b c d first bounds second within = part_twice (rows t) a (b - a) c d second within

pub filter_twice : (t : Tree) (outer inner : List Bool) → rows (filter_of inner (filter_of outer t)) ≡ rows (filter_of (combined outer inner) t)
filter_twice t outer inner = sym (chosen-combined outer inner (rows t))
