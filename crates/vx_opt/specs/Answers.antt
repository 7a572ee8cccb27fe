-- What the public calls give, and why they give nothing.
use Rattle.std.specs.Prelude.{◌≡◌, ℕ, ◌+◌, ◌≤◌, ◌<◌, List, ◌⊎◌}
use Rattle.vx_value.specs.declared.error.VortexError.{VortexError}
use Rattle.vx_value.specs.declared.error.VortexError.TheVariants.{OutOfMemory, RewriteLimit}
use Rattle.vx_tree.specs.Tree.{Tree}
use Rattle.vx_tree.specs.Keeps.{Keeps}
use Rattle.vx_tree.specs.Weight.{weight}
use Rattle.vx_rule.specs.Rules.{IsSettled}
use Rattle.vx_opt.specs.Derives.{IsDerived, ReachesAt, IsAtPlace}
use Rattle.vx_opt.specs.Entries.{Entry, IsSpent, IsFailure}
use Rattle.vx_opt.specs.Limits.{root_limit, call_limit, IsLast}
use Rattle.vx_opt.specs.Pass.{Optimizes, ComesTo}
use Rattle.vx_opt.specs.Descends.{Descends, DescendsTo}

-- u comes from t by so many rewrites, no more at the root than it may take; where nothing was spent, each lowers the weight
pub record IsRewritten (t u : Tree) (total spent : ℕ) : Type 0 where
  pub top : ℕ
  pub derived : IsDerived t u top total spent
  pub few : top ≤ root_limit
  pub keeps : Keeps t u
  pub lighter : spent ≡ 0 → total + weight u ≤ weight t

-- what optimizing the root gives: by these passes, each root within its limit, and the call within its own
pub record IsOptimized (t u : Tree) (spent : ℕ) : Type 0 where
  pub total : ℕ
  pub passes : Optimizes t u total spent
  pub room : total < call_limit
  pub settled : IsSettled u
  pub rewritten : IsRewritten t u total spent

-- what optimizing the root and then each slot so gives
pub record IsDescended (t u : Tree) (spent : ℕ) : Type 0 where
  pub total : ℕ
  pub descends : Descends t u total spent
  pub room : total < call_limit
  pub rewritten : IsRewritten t u total spent

-- optimizing the root comes to the rewrite at which a call gives up, with these numbers, and u is the tree as it then stands; where nothing was
-- spent, each rewrite lowers the weight
pub record IsHalted (t u : Tree) (spent at_root total : ℕ) : Type 0 where
  pub comes : ComesTo t u at_root total spent
  pub last : IsLast at_root total
  pub derives : ReachesAt t u at_root total spent
  pub keeps : Keeps t u
  pub lighter : spent ≡ 0 → total + weight u ≤ weight t

-- optimizing the root comes to the rewrite at which a call gives up: t derives a tree by that many rewrites, so many of them at one place
pub record MeetsLimit (t : Tree) (spent at_root total : ℕ) : Type 0 where
  pub tree : Tree
  pub halted : IsHalted t tree spent at_root total

-- so does optimizing the root and then each slot so
pub record MeetsLimitBelow (t : Tree) (spent at_root total : ℕ) : Type 0 where
  pub comes : DescendsTo t at_root total spent
  pub last : IsLast at_root total
  pub derives : IsAtPlace t at_root total spent

-- why no tree is given: memory, or a limit
abbrev pub IsLimited : Tree → ℕ → VortexError → Type 0
IsLimited t spent OutOfMemory = Unit {0}
IsLimited t spent (RewriteLimit at_root total) = MeetsLimit t spent at_root total
IsLimited t spent _ = ⊥

-- ---- with the entries of a registry, which are `old` before the call and `new` after it

-- some number was spent, for which this holds
abbrev pub Spending : (ℕ → Type 0) → List Entry → List Entry → Type 0
Spending holds old new = (spent : ℕ) × IsSpent spent old new × holds spent

-- what optimizing the root gives if a call doesn't give up: it is optimized, or the tree as it stands at a limit
abbrev pub IsSoFar : Tree → Tree → ℕ → Type 0
IsSoFar t u spent = IsOptimized t u spent ⊎ ((at_root : ℕ) × (total : ℕ) × IsHalted t u spent at_root total)

-- why no tree is given: memory, a limit, or the refusal of an entry
abbrev pub IsStopped : Tree → List Entry → List Entry → VortexError → Type 0
IsStopped t old new (RewriteLimit at_root total) = Spending (λ spent. MeetsLimit t spent at_root total) old new
IsStopped t old new e = IsFailure old new e

abbrev pub IsStoppedBelow : Tree → List Entry → List Entry → VortexError → Type 0
IsStoppedBelow t old new (RewriteLimit at_root total) = Spending (λ spent. MeetsLimitBelow t spent at_root total) old new
IsStoppedBelow t old new e = IsFailure old new e

-- it is no limit of rewriting
abbrev pub IsNoLimit : VortexError → Type 0
IsNoLimit (RewriteLimit at_root total) = ⊥
IsNoLimit _ = Unit {0}
