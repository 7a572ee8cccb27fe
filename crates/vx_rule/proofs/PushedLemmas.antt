-- What the slice that is pushed down is, by range and by encoding.
use Rattle.std.proofs.Common.{◌≡◌, ℕ, ◌+◌, ◌-◌, Bool, true, false, refl, ◌∙◌, inl, inr, arith}
use Rattle.std.specs.Prelude.{◌==◌, ◌&&◌, if◌then◌else◌}
use Rattle.std.proofs.lemmas.Bool.{eq-eqb, ne_eqb, cases_Bool}
use Rattle.std.proofs.lemmas.Bool.Decides.{eqb_tells}
use Rattle.vx_value.specs.Types.{DataType}
use Rattle.vx_value.specs.Typed.{Typed}
use Rattle.vx_fn.specs.declared.function.ScalarFnRef.{ScalarFnRef}
use Rattle.vx_tree.specs.Tree as enc
use Rattle.vx_tree.specs.Tree.{Tree, Data, Slots, node, no_slots, absent, slot, dtype, len, datum, constant_of, slice_of, is_canonical, lets_below}
use Rattle.vx_tree.specs.Slots.{map_slots}
use Rattle.vx_tree.specs.Parts.{part_of, column_range}
use Rattle.vx_tree.specs.Columns.{empty_of}
use Rattle.vx_rule.specs.Rules.{lets_slice, IsPart}
use Rattle.vx_rule.specs.SliceLaws.{column_lets}
use Rattle.vx_rule.specs.Pushes.{ranged, pushed, pushed_slots}

pub chosen_if : {A : Type 0} (test : Bool) (t u : A) → test ≡ true → (if test then t else u) ≡ t
chosen_if test t u h = λ i. if h i then t else u

pub chosen_else : {A : Type 0} (test : Bool) (t u : A) → test ≡ false → (if test then t else u) ≡ u
chosen_else test t u h = λ i. if h i then t else u

-- the tests for all rows
pub all_rows : (a b n : ℕ) → a ≡ 0 → b ≡ n → (a == 0) && (b == n) ≡ true
all_rows a b n z w = λ i. eq-eqb a 0 z i && eq-eqb b n w i

pub not_all_rows : (a b n : ℕ) → (a ≡ 0 → b ≡ n → ⊥) → (a == 0) && (b == n) ≡ false
not_all_rows a b n h = elim (eqb_tells a 0) [
  | inl p ↦ λ i. p.0 i && ne_eqb b n (h p.1) i
  | inr p ↦ λ i. p.0 i && (b == n)
]

module _ (a b : ℕ) (t u : Tree) where
  ranged_whole : a ≡ 0 → b ≡ len t → ranged a b t u ≡ t
  ranged_whole z w = chosen_if _ t _ (all_rows a b (len t) z w)

  ranged_empty : a ≡ b → (a ≡ 0 → b ≡ len t → ⊥) → ranged a b t u ≡ empty_of (dtype t)
  ranged_empty e some = chosen_else _ t _ (not_all_rows a b (len t) some) ∙ chosen_if _ (empty_of (dtype t)) u (eq-eqb a b e)

  pub ranged_part : IsPart a b (len t) → ranged a b t u ≡ u
  ranged_part part =
      chosen_else _ t _ (not_all_rows a b (len t) (λ z w. omega (arith, part.not_all)))
      ∙ chosen_else _ (empty_of (dtype t)) u (ne_eqb a b (λ e. omega (arith, part.some_rows)))

-- whatever the encoding, the range comes first
by_range : (a b : ℕ) (t : Tree) → (u : Tree) × (pushed a b t ≡ ranged a b t u)
by_range a b (node ty n (enc.constant v) no_slots) = (constant_of v (b - a), refl)
by_range a b (node ty n (enc.slice s e) (slot c no_slots)) = (pushed (s + a) (s + b) c, refl)
by_range a b (node ty n (enc.function f) ss) =
    ((if lets_below f then node ty (b - a) (enc.function f) (pushed_slots a b ss) else slice_of a b (node ty n (enc.function f) ss)), refl)
by_range a b (node ty n enc.masked (slot c vs)) = (node ty (b - a) enc.masked (slot (pushed a b c) (map_slots (part_of a b) vs)), refl)
by_range a b (node ty n enc.dict (slot c vs)) = (node ty (b - a) enc.dict (slot (pushed a b c) vs), refl)
by_range a b (node ty n d ss) = ((if is_canonical d then column_range a b (node ty n d ss) else slice_of a b (node ty n d ss)), refl)

pub whole_is : (a b : ℕ) (t : Tree) → a ≡ 0 → b ≡ len t → pushed a b t ≡ t
whole_is a b t z w = (by_range a b t).1 ∙ ranged_whole a b t (by_range a b t).0 z w

pub empty_is : (a b : ℕ) (t : Tree) → a ≡ b → (a ≡ 0 → b ≡ len t → ⊥) → pushed a b t ≡ empty_of (dtype t)
empty_is a b t e some = (by_range a b t).1 ∙ ranged_empty a b t (by_range a b t).0 e some

-- a canonical column lets a slice through
pub uncut : (d : Data) → lets_slice d ≡ false → is_canonical d ≡ false
uncut d h = elim (cases_Bool (is_canonical d)) [
  | inl i ↦ absurd (cc (column_lets d i, h))
  | inr i ↦ i
]

-- ---- a range of some rows, but not all: a line for each encoding that lets a slice through

pub constant_is : (a b n : ℕ) (v : Typed) → IsPart a b n → pushed a b (constant_of v n) ≡ constant_of v (b - a)
constant_is a b n v part = ranged_part a b (constant_of v n) (constant_of v (b - a)) part

pub slice_is : (a b s e : ℕ) (c : Tree) → IsPart a b (e - s) → pushed a b (slice_of s e c) ≡ pushed (s + a) (s + b) c
slice_is a b s e c part = ranged_part a b (slice_of s e c) (pushed (s + a) (s + b) c) part

pub function_is : (a b : ℕ) (ty : DataType) (n : ℕ) (f : ScalarFnRef) (ss : Slots) → lets_below f ≡ true → IsPart a b n
    → pushed a b (node ty n (enc.function f) ss) ≡ node ty (b - a) (enc.function f) (pushed_slots a b ss)
function_is a b ty n f ss l part =
    let t = node ty n (enc.function f) ss in
    let u = node ty (b - a) (enc.function f) (pushed_slots a b ss) in
    ranged_part a b t (if lets_below f then u else slice_of a b t) part ∙ chosen_if (lets_below f) u (slice_of a b t) l

pub masked_is : (a b : ℕ) (ty : DataType) (n : ℕ) (c : Tree) (vs : Slots) → IsPart a b n
    → pushed a b (node ty n enc.masked (slot c vs)) ≡ node ty (b - a) enc.masked (slot (pushed a b c) (map_slots (part_of a b) vs))
masked_is a b ty n c vs part =
    ranged_part a b (node ty n enc.masked (slot c vs)) (node ty (b - a) enc.masked (slot (pushed a b c) (map_slots (part_of a b) vs))) part

pub dict_is : (a b : ℕ) (ty : DataType) (n : ℕ) (c : Tree) (vs : Slots) → IsPart a b n
    → pushed a b (node ty n enc.dict (slot c vs)) ≡ node ty (b - a) enc.dict (slot (pushed a b c) vs)
dict_is a b ty n c vs part = ranged_part a b (node ty n enc.dict (slot c vs)) (node ty (b - a) enc.dict (slot (pushed a b c) vs)) part

pub column_is : (a b : ℕ) (t : Tree) → is_canonical (datum t) ≡ true → IsPart a b (len t) → pushed a b t ≡ column_range a b t
column_is a b (node ty n (enc.constant v) ss) h part = absurd (cc (h))
column_is a b (node ty n (enc.slice s e) ss) h part = absurd (cc (h))
column_is a b (node ty n (enc.function f) ss) h part = absurd (cc (h))
column_is a b (node ty n enc.masked ss) h part = absurd (cc (h))
column_is a b (node ty n enc.dict ss) h part = absurd (cc (h))
column_is a b (node ty n d ss) h part =
    let t = node ty n d ss in
    ranged_part a b t (if is_canonical d then column_range a b t else slice_of a b t) part ∙ chosen_if (is_canonical d) (column_range a b t) (slice_of a b t) h

-- and of any other
pub lazily_is : (a b : ℕ) (t : Tree) → lets_slice (datum t) ≡ false → IsPart a b (len t) → pushed a b t ≡ slice_of a b t
lazily_is a b (node ty n (enc.constant v) ss) h part = absurd (cc (h))
lazily_is a b (node ty n (enc.slice s e) ss) h part = absurd (cc (h))
lazily_is a b (node ty n (enc.function f) ss) h part =
    let t = node ty n (enc.function f) ss in
    let u = node ty (b - a) (enc.function f) (pushed_slots a b ss) in
    ranged_part a b t (if lets_below f then u else slice_of a b t) part ∙ chosen_else (lets_below f) u (slice_of a b t) h
lazily_is a b (node ty n enc.masked ss) h part = absurd (cc (h))
lazily_is a b (node ty n enc.dict ss) h part = absurd (cc (h))
lazily_is a b (node ty n d ss) h part =
    let t = node ty n d ss in
    ranged_part a b t (if is_canonical d then column_range a b t else slice_of a b t) part
    ∙ chosen_else (is_canonical d) (column_range a b t) (slice_of a b t) (uncut d h)
