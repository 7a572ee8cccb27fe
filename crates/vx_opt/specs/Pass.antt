-- Which answer a pass gives, and what the passes over a root make of it.
use Rattle.std.specs.Prelude.{◌≡◌, ℕ, zero, suc, ◌+◌, ◌<◌, ◌≤◌, List, [], ◌∷◌, ◌++◌, Option, Some, None}
use Rattle.vx_tree.specs.Tree.{Tree}
use Rattle.vx_tree.specs.Slots.{HasSlot, IsPresent, put}
use Rattle.vx_tree.specs.Keeps.{Keeps}
use Rattle.vx_tree.specs.Well.{IsWell}
use Rattle.vx_tree.specs.Weight.{weight}
use Rattle.vx_rule.specs.Rules.{Row, IsQuiet, IsSettled}
use Rattle.vx_opt.specs.Limits.{root_limit}

-- no row fits any that is asked before w: the node itself is asked first, then its slots in order
abbrev pub AreQuietBefore : Option ℕ → Tree → Type 0
AreQuietBefore None t = Unit {0}
AreQuietBefore (Some i) t = IsQuiet None t × ((j : ℕ) → j < i → IsQuiet (Some j) t)

-- u is the answer of the first that has a row
abbrev pub IsFirst : Tree → Tree → List ℕ → Type 0
IsFirst t u os = (w : Option ℕ) × Row w t u os × AreQuietBefore w t

-- the answer of an entry that was handed in, for some slot: it is asked before the child's own rows, and its answer may stand for the tree
abbrev pub IsHandedIn : Tree → Tree → Type 0
IsHandedIn t u = (i : ℕ) × IsPresent i t × AreQuietBefore (Some i) t × Keeps t u

-- The answer of a pass, by what it spent: a row of the table spends nothing, and an entry that was handed in 1 and the weight of its answer.
abbrev pub Answered : Tree → Tree → List ℕ → ℕ → Type 0
Answered t u os zero = IsFirst t u os
Answered t u os (suc n) = IsHandedIn t u × (n ≡ weight u)

mutual
  -- k passes over the root t make u of it, by n rewrites in all that spent s. The named slots of each answer are optimized before the next pass.
  -- Each tree on the way is well-formed.
  pub data Runs : Tree → Tree → ℕ → ℕ → ℕ → Type 0 where
    start : (t : Tree) → Runs t t 0 0 0
    pass : (t u v w : Tree) (os : List ℕ) (k n s r m q : ℕ) → Runs t u k n s → IsWell u → Answered u v os r → RunsIn os v w m q
        → Runs t w (suc k) (suc (n + m)) (s + r + q)

  -- these slots of t are optimized in order, each as a root of its own
  pub data RunsIn : List ℕ → Tree → Tree → ℕ → ℕ → Type 0 where
    none : (t : Tree) → RunsIn [] t t 0 0
    one_more : (os : List ℕ) (i : ℕ) (t u c d : Tree) (m q n s : ℕ) → RunsIn os t u m q → HasSlot i c u → Optimizes c d n s
        → RunsIn (os ++ (i ∷ [])) t (put i d u) (m + n) (q + s)

  -- passes over the root t, no more than it may take, until no row fits
  pub data Optimizes : Tree → Tree → ℕ → ℕ → Type 0 where
    ends : (t u : Tree) (k n s : ℕ) → Runs t u k n s → k ≤ root_limit → IsSettled u → Optimizes t u n s

mutual
  -- optimizing t comes to a rewrite that is number k at its root and number n in all, when s was spent, and makes u of t; each root before took no more
  -- than it may. The named slots of the last answer aren't optimized.
  pub data ComesTo : Tree → Tree → ℕ → ℕ → ℕ → Type 0 where
    here : (t u v : Tree) (os : List ℕ) (k n s r : ℕ) → Runs t u k n s → IsWell u → Answered u v os r → ComesTo t v (suc k) (suc n) (s + r)
    within : (t u v w : Tree) (os : List ℕ) (j n s r k m q : ℕ) → Runs t u j n s → suc j ≤ root_limit → IsWell u → Answered u v os r
        → ComesToIn os v w k m q → ComesTo t w k (suc (n + m)) (s + r + q)

  -- so does optimizing these slots of t, in one of them
  pub data ComesToIn : List ℕ → Tree → Tree → ℕ → ℕ → ℕ → Type 0 where
    in_slot : (os ps : List ℕ) (i : ℕ) (t u c d : Tree) (m q k n s : ℕ) → RunsIn os t u m q → HasSlot i c u → ComesTo c d k n s
        → ComesToIn (os ++ (i ∷ ps)) t (put i d u) k (m + n) (q + s)
