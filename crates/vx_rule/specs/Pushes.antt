-- Slices that are pushed down.
use Rattle.std.specs.Prelude.{◌≡◌, ◌≤◌, ℕ, ◌+◌, ◌-◌, ◌*◌, ◌==◌, ◌&&◌, if◌then◌else◌, true}
use Rattle.vx_value.specs.Typed.{Typed}
use Rattle.vx_tree.specs.Tree as enc
use Rattle.vx_tree.specs.Tree.{Tree, Slots, node, no_slots, absent, slot, dtype, len, datum, constant_of, slice_of, is_canonical, lets_below}
use Rattle.vx_tree.specs.Slots.{map_slots}
use Rattle.vx_tree.specs.Parts.{part_of, column_range}
use Rattle.vx_tree.specs.Columns.{empty_of}
use Rattle.vx_tree.specs.Cost.{cost, reach}
use Rattle.vx_tree.specs.Keeps.{KeepsExactly}

-- the rows of t from a to b: all of them are t, none is the empty column, and others are the tree u
abbrev pub ranged : ℕ → ℕ → Tree → Tree → Tree
ranged a b t u = if (a == 0) && (b == len t) then t else (if a == b then empty_of (dtype t) else u)

-- the rows of t from a, inclusive, to b, exclusive, with the slice pushed down as far as it passes: a line for each encoding that lets it
abbrev mutual
  pub pushed : ℕ → ℕ → Tree → Tree
  pushed a b (node ty n (enc.constant v) no_slots) = ranged a b (node ty n (enc.constant v) no_slots) (constant_of v (b - a))
  pushed a b (node ty n (enc.slice s e) (slot c no_slots)) = ranged a b (node ty n (enc.slice s e) (slot c no_slots)) (pushed (s + a) (s + b) c)
  pushed a b (node ty n (enc.function f) ss) =
      ranged a b (node ty n (enc.function f) ss)
      (if lets_below f then node ty (b - a) (enc.function f) (pushed_slots a b ss) else slice_of a b (node ty n (enc.function f) ss))
  pushed a b (node ty n enc.masked (slot c vs)) =
      ranged a b (node ty n enc.masked (slot c vs)) (node ty (b - a) enc.masked (slot (pushed a b c) (map_slots (part_of a b) vs)))
  pushed a b (node ty n enc.dict (slot c vs)) = ranged a b (node ty n enc.dict (slot c vs)) (node ty (b - a) enc.dict (slot (pushed a b c) vs))
  -- a canonical column is cut, and whatever else is left under a lazy slice
  pushed a b (node ty n d ss) =
      ranged a b (node ty n d ss) (if is_canonical d then column_range a b (node ty n d ss) else slice_of a b (node ty n d ss))

  pub pushed_slots : ℕ → ℕ → Slots → Slots
  pushed_slots a b no_slots = no_slots
  pushed_slots a b (absent ss) = absent (pushed_slots a b ss)
  pushed_slots a b (slot t ss) = slot (pushed a b t) (pushed_slots a b ss)

-- u is the rows of t from a to b, pushed down; it stands exactly for them, takes no more turns than the slice of t, and is canonical if t is
pub record IsPushed (a b : ℕ) (t u : Tree) : Type 0 where
  pub pushed_down : u ≡ pushed a b t
  pub exactly : KeepsExactly (slice_of a b t) u
  pub bounded : cost u ≤ cost t + 3 * reach t
  pub canonical : is_canonical (datum t) ≡ true → is_canonical (datum u) ≡ true

-- u is the canonical column of the rows of t from a to b
pub record IsColumnSlice (a b : ℕ) (t u : Tree) : Type 0 where
  pub range : u ≡ column_range a b t
  pub exactly : KeepsExactly (slice_of a b t) u
  pub column : is_canonical (datum u) ≡ true

-- t is a constant, and u is n rows of its value
abbrev pub IsConstantLike : Tree → ℕ → Tree → Type 0
IsConstantLike t n u = (v : Typed) × (t ≡ constant_of v (len t)) × (u ≡ constant_of v n)
