-- A root, and then each of its slots so, in order. A root isn't visited again after its slots.
use Rattle.std.specs.Prelude.{ℕ, suc, ◌+◌}
use Rattle.vx_tree.specs.Tree.{Tree, slots}
use Rattle.vx_tree.specs.Slots.{HasSlot, IsPresent, put, count_slots}
use Rattle.vx_opt.specs.Pass.{Optimizes, ComesTo}

mutual
  -- t is optimized to a root of which each slot descends, by n rewrites in all that spent s
  pub data Descends : Tree → Tree → ℕ → ℕ → Type 0 where
    descends : (t r u : Tree) (n s m q : ℕ) → Optimizes t r n s → DescendsIn (count_slots (slots r)) r u m q → Descends t u (n + m) (s + q)

  -- the slots of t below i have descended, in order, and an absent one is passed over
  pub data DescendsIn : ℕ → Tree → Tree → ℕ → ℕ → Type 0 where
    first : (t : Tree) → DescendsIn 0 t t 0 0
    over : (i : ℕ) (t u : Tree) (m q : ℕ) → DescendsIn i t u m q → (IsPresent i u → ⊥) → DescendsIn (suc i) t u m q
    into : (i : ℕ) (t u c d : Tree) (m q n s : ℕ) → DescendsIn i t u m q → HasSlot i c u → Descends c d n s
        → DescendsIn (suc i) t (put i d u) (m + n) (q + s)

mutual
  -- so descending, t comes to a rewrite that is number k at its root and number n in all, when s was spent
  pub data DescendsTo : Tree → ℕ → ℕ → ℕ → Type 0 where
    at_root : (t u : Tree) (k n s : ℕ) → ComesTo t u k n s → DescendsTo t k n s
    below : (t r : Tree) (k n s m q : ℕ) → Optimizes t r n s → DescendsToIn r k m q → DescendsTo t k (n + m) (s + q)

  -- in one of the slots of t, those before which have descended
  pub data DescendsToIn : Tree → ℕ → ℕ → ℕ → Type 0 where
    in_slot : (i : ℕ) (t u c : Tree) (k m q n s : ℕ) → DescendsIn i t u m q → HasSlot i c u → DescendsTo c k n s
        → DescendsToIn t k (m + n) (q + s)
