-- Rows of a chunked array.
use Rattle.std.proofs.Common.{◌≡◌, ℕ, zero, suc, ◌+◌, ◌<◌, ◌≤◌, List, [], ◌∷◌, ◌++◌, length, get_or, drop, Option, Some, None, refl, sym, ap, subst, ◌∙◌, arith}
use Rattle.std.specs.Prelude.{slice_get, sum}
use Rattle.std.proofs.lemmas.List.{drop_more, drop_all}
use Rattle.std.proofs.lemmas.List.Sums.{sum_by-cons}
use Rattle.vx_value.specs.Cell.{Cell}
use Rattle.vx_tree.specs.Tree as enc
use Rattle.vx_tree.specs.Tree.{Tree, node, slots_of, dtype, len, height, slots_height}
use Rattle.vx_tree.specs.Cells.{rows, slots_rows, chained}
use Rattle.vx_tree.specs.SlotTypes.{of_lengths}
use Rattle.vx_tree.specs.Well.{shape_of, shapes, IsNode}

-- row i of t is row k of these slots, whose trees are of its type and at most h high
pub record IsLeft (t : Tree) (i h : ℕ) (xs : List (Option Tree)) (k : ℕ) : Type 0 where
  pub same : slice_get (rows t) i ≡ slice_get (chained (slots_rows (slots_of xs))) k
  pub lengths : List ℕ
  pub typed : shapes (slots_of xs) ≡ of_lengths (dtype t) lengths
  pub within : k < sum lengths
  pub low : slots_height (slots_of xs) ≤ h

get_first : (xs ys : List Cell) (k : ℕ) → k < length xs → slice_get (xs ++ ys) k ≡ slice_get xs k
get_first [] ys k h = absurd (omega arith)
get_first (x ∷ xs) ys zero h = refl
get_first (x ∷ xs) ys (suc k) h = get_first xs ys k (omega arith)

get_later : (xs ys : List Cell) (k j : ℕ) → k ≡ length xs + j → slice_get (xs ++ ys) k ≡ slice_get ys j
get_later [] ys k j h = let same : k ≡ j = omega arith in ap (slice_get ys) same
get_later (x ∷ xs) ys zero j h = absurd (omega arith)
get_later (x ∷ xs) ys (suc k) j h = get_later xs ys k j (omega arith)

pub left_first : (t : Tree) (i : ℕ) (xs : List (Option Tree)) → t ≡ node (dtype t) (len t) enc.chunked (slots_of xs)
    → IsNode (dtype t) (len t) enc.chunked (shapes (slots_of xs)) → i < len t → IsLeft t i (slots_height (slots_of xs)) xs i
left_first t i xs shown well lt = record {
  same = ap (λ u. slice_get (rows u) i) shown;
  lengths = well.0;
  typed = well.1;
  within = omega (arith, well.2);
  low = omega arith;
}

-- of slots that are left, the first holds a tree
module _ (t : Tree) (i h : ℕ) (ys : List (Option Tree)) (k : ℕ) where
  pub left_present : IsLeft t i h (None ∷ ys) k → ⊥
  left_present left = by_lengths left.lengths left.typed
    where
      by_lengths : (ms : List ℕ) → None ∷ shapes (slots_of ys) ≡ of_lengths (dtype t) ms → ⊥
      by_lengths [] e = cc
      by_lengths (m ∷ ms) e = cc

  module _ (c : Tree) (left : IsLeft t i h (Some c ∷ ys) k) where
    first_length : (m : ℕ) × (ms : List ℕ) × (left.lengths ≡ m ∷ ms) × (dtype c ≡ dtype t) × (len c ≡ m) × (shapes (slots_of ys) ≡ of_lengths (dtype t) ms)
    first_length = by_lengths left.lengths refl left.typed
      where
        by_lengths : (ls : List ℕ) → left.lengths ≡ ls → Some (shape_of c) ∷ shapes (slots_of ys) ≡ of_lengths (dtype t) ls
            → (m : ℕ) × (ms : List ℕ) × (left.lengths ≡ m ∷ ms) × (dtype c ≡ dtype t) × (len c ≡ m) × (shapes (slots_of ys) ≡ of_lengths (dtype t) ms)
        by_lengths [] is e = absurd (cc)
        by_lengths (m ∷ ms) is e = (m, ms, is, cc, cc, cc)

    pub chunk_typed : dtype t ≡ dtype c
    chunk_typed = sym first_length.3

    pub chunk_low : height c ≤ h
    chunk_low = omega (arith, left.low)

    pub chunk_row : length (rows c) ≡ len c → k < len c → slice_get (rows t) i ≡ slice_get (rows c) k
    chunk_row counted lt = left.same ∙ get_first (rows c) (chained (slots_rows (slots_of ys))) k (omega (arith, counted, lt))

    pub left_later : (j : ℕ) → length (rows c) ≡ len c → k ≡ len c + j → IsLeft t i h ys j
    left_later j counted e =
        let f = first_length in
        record {
          same = left.same ∙ get_later (rows c) (chained (slots_rows (slots_of ys))) k j (omega (arith, counted, e));
          lengths = f.1;
          typed = f.5;
          within = omega (arith, left.within, ap sum f.2, sum_by-cons (λ x. x) f.0 f.1, f.4, e);
          low = omega (arith, left.low);
        }

-- no slot is left, but a row
pub left_none : (t : Tree) (i h k : ℕ) → IsLeft t i h [] k → ⊥
left_none t i h k left = by_lengths left.lengths left.typed left.within
  where
    by_lengths : (ms : List ℕ) → [] ≡ of_lengths (dtype t) ms → k < sum ms → ⊥
    by_lengths [] e lt = omega (arith, lt)
    by_lengths (m ∷ ms) e lt = cc

-- of slots that are left, one after the other
pub left_at : (t : Tree) (i h : ℕ) (xs : List (Option Tree)) (j k : ℕ) (x y : Option Tree) → j < length xs → x ≡ get_or xs j x → x ≡ y
    → IsLeft t i h (drop j xs) k → IsLeft t i h (y ∷ drop (j + 1) xs) k
left_at t i h xs j k x y lt e is left =
    subst (λ zs. IsLeft t i h zs k) (drop_more xs j x lt ∙ ap (λ z. z ∷ drop (j + 1) xs) (sym e ∙ is)) left

pub left_all : (t : Tree) (i h : ℕ) (xs : List (Option Tree)) (j k : ℕ) → length xs ≤ j → IsLeft t i h (drop j xs) k → ⊥
left_all t i h xs j k past left = left_none t i h k (subst (λ zs. IsLeft t i h zs k) (drop_all j xs past) left)
