-- Sequences of rewrites, each with its place.
use Rattle.std.specs.Prelude.{◌≡◌, ℕ, zero, suc, ◌+◌, ◌≤◌, List, [], ◌∷◌, length, Bool, true, false, cond, ◌==◌, ◌&&◌}
use Rattle.vx_tree.specs.Tree.{Tree}
use Rattle.vx_tree.specs.Slots.{HasSlot, put}
use Rattle.vx_tree.specs.Keeps.{Keeps}
use Rattle.vx_tree.specs.Weight.{weight}
use Rattle.vx_rule.specs.Rules.{Rewrites}

-- A rewrite: its place, as the slot numbers from the root, and what it spent.
-- A row of the table spends nothing; the answer of an entry that was handed in spends 1 plus its weight.
pub record Step : Type 0 where
  pub place : List ℕ
  pub spent : ℕ

-- u is t with the child in slot i replaced by one for which the relation holds
abbrev pub InSlot : ℕ → (Tree → Tree → Type 0) → Tree → Tree → Type 0
InSlot i relates t u = (c : Tree) × (d : Tree) × HasSlot i c t × relates c d × (u ≡ put i d t)

-- u is t with the subtree at a place rewritten
abbrev pub Replaces : List ℕ → ℕ → Tree → Tree → Type 0
Replaces [] zero t u = (os : List ℕ) × Rewrites t u os
Replaces [] (suc n) t u = Keeps t u × (n ≡ weight u)
Replaces (i ∷ place) n t u = InSlot i (Replaces place n) t u

-- u comes from t by these rewrites, in order
abbrev pub Derives : Tree → Tree → List Step → Type 0
Derives t u [] = t ≡ u
Derives t u (step ∷ steps) = (v : Tree) × Replaces step.place step.spent t v × Derives v u steps

-- the step of a row of the table at the root
abbrev pub at_here : Step
at_here = record { place = []; spent = 0 }

-- the same step, below slot i
abbrev pub below : ℕ → Step → Step
below i s = record { place = i ∷ s.place; spent = s.spent }

abbrev pub below_all : ℕ → List Step → List Step
below_all i [] = []
below_all i (s ∷ ss) = below i s ∷ below_all i ss

-- what the steps spent in total
abbrev pub spent_by : List Step → ℕ
spent_by [] = 0
spent_by (s ∷ ss) = s.spent + spent_by ss

abbrev pub same_place : List ℕ → List ℕ → Bool
same_place [] [] = true
same_place [] (j ∷ q) = false
same_place (i ∷ p) [] = false
same_place (i ∷ p) (j ∷ q) = (i == j) && same_place p q

-- the number of the rewrites at one place
abbrev pub count_at : List ℕ → List Step → ℕ
count_at place [] = 0
count_at place (s ∷ ss) = cond (same_place place s.place) 1 0 + count_at place ss

-- u comes from t and may stand for it; if nothing was spent, it weighs less by at least the number of rewrites
pub record Reaches (t u : Tree) (steps : List Step) : Type 0 where
  pub derives : Derives t u steps
  pub keeps : Keeps t u
  pub lighter : spent_by steps ≡ 0 → length steps + weight u ≤ weight t

-- u comes from t by this many steps, of which this many are at the root, and which spent this much
pub record IsDerived (t u : Tree) (top total spent : ℕ) : Type 0 where
  pub steps : List Step
  pub reaches : Reaches t u steps
  pub at_top : count_at [] steps ≡ top
  pub counted : length steps ≡ total
  pub by_answers : spent_by steps ≡ spent

-- u comes from t by this many steps, at least this many of them at one place, and which spent this much
pub record ReachesAt (t u : Tree) (at_root total spent : ℕ) : Type 0 where
  pub steps : List Step
  pub reaches : Reaches t u steps
  pub counted : length steps ≡ total
  pub by_answers : spent_by steps ≡ spent
  pub place : List ℕ
  pub at_one : at_root ≤ count_at place steps

-- t derives a tree so
abbrev pub IsAtPlace : Tree → ℕ → ℕ → ℕ → Type 0
IsAtPlace t at_root total spent = (u : Tree) × ReachesAt t u at_root total spent
