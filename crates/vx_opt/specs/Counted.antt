-- What the counter of a call's rewrites and the counts of a session's entries say.
use Rattle.std.specs.Prelude.{◌≡◌, ℕ, ◌+◌, ◌≤◌, ◌<◌, List, ◌⊎◌, Option, Some, None, Result, Ok, Err, IfOk, MatchResult}
use Rattle.vx_value.specs.declared.error.VortexError.{VortexError}
use Rattle.vx_value.specs.declared.error.VortexError.TheVariants.{RewriteLimit}
use Rattle.vx_tree.specs.Tree.{Tree, datum, slots, id_of}
use Rattle.vx_tree.specs.Slots.{HasSlot, IsPresent, count_slots}
use Rattle.vx_rule.specs.Answers.{Answers}
use Rattle.vx_rule.specs.Counts.{MayStand}
use Rattle.vx_rule.specs.Rules.{ArePresent, IsSettled}
use Rattle.vx_rule.specs.declared.raw_node.RawNode.{RawNode}
use Rattle.vx_opt.specs.Derives.{InSlot}
use Rattle.vx_opt.specs.Entries.{Entry, AreLater, IsSpent, Asks, IsFailure}
use Rattle.vx_opt.specs.Limits.{root_limit, call_limit, IsLast}
use Rattle.vx_opt.specs.Pass.{Answered, Runs, RunsIn, Optimizes, ComesTo, ComesToIn}
use Rattle.vx_opt.specs.Descends.{Descends, DescendsIn, DescendsTo, DescendsToIn}
use Rattle.vx_opt.specs.declared.progress.Progress.{Progress}
use Rattle.vx_opt.specs.declared.progress.Progress.TheVariants.{Settled, Stopped}

-- the counter rose by the rewrites that were made, the entries spent what these spent, and the call may make another rewrite
pub record IsCounted (made : ℕ → ℕ → Type 0) (before after : ℕ) (old new : List Entry) : Type 0 where
  pub count : ℕ
  pub spent : ℕ
  pub done : made count spent
  pub counted : before + count ≡ after
  pub room : after < call_limit
  pub paid : IsSpent spent old new

-- the rewrite to which the call came, with these numbers, is the one at which it gives up
pub record IsCutShort (comes : ℕ → ℕ → ℕ → Type 0) (before : ℕ) (old new : List Entry) (at_root total : ℕ) : Type 0 where
  pub count : ℕ
  pub spent : ℕ
  pub done : comes at_root count spent
  pub counted : before + count ≡ total
  pub last : IsLast at_root total
  pub paid : IsSpent spent old new

-- why nothing was made but for limits
pub record Fails (old new : List Entry) (e : VortexError) : Type 0 where
  pub later : AreLater old new
  pub failure : IsFailure old new e

-- how far a call came
abbrev pub HasCome : (Tree → ℕ → ℕ → Type 0) → (Tree → ℕ → ℕ → ℕ → Type 0) → ℕ → ℕ → List Entry → List Entry → Progress → Type 0
HasCome made comes before after old new (Settled u) = IsCounted (made u) before after old new
HasCome made comes before after old new (Stopped u at_root total) = IsCutShort (comes u) before old new at_root total

-- the same, or why nothing was made
abbrev pub Goes : (Tree → ℕ → ℕ → Type 0) → (Tree → ℕ → ℕ → ℕ → Type 0) → ℕ → ℕ → List Entry → List Entry → Result Progress VortexError → Type 0
Goes made comes before after old new r = MatchResult r (HasCome made comes before after old new) (Fails old new)

-- why nothing was made: a limit, or as above
abbrev pub GivesUp : (ℕ → ℕ → ℕ → Type 0) → ℕ → List Entry → List Entry → VortexError → Type 0
GivesUp comes before old new (RewriteLimit at_root total) = IsCutShort comes before old new at_root total
GivesUp comes before old new e = Fails old new e

-- what is made, or why nothing is
abbrev pub Gives : (Tree → ℕ → ℕ → Type 0) → (ℕ → ℕ → ℕ → Type 0) → ℕ → ℕ → List Entry → List Entry → Result Tree VortexError → Type 0
Gives made comes before after old new r = MatchResult r (λ u. IsCounted (made u) before after old new) (GivesUp comes before old new)

-- ---- one pass

-- what the result is once the entries for a child have given q: theirs, or that of the child's own rows if all declined
abbrev pub ThenOwn : ℕ → Tree → Result (Option RawNode) VortexError → Result (Option RawNode) VortexError → Type 0
ThenOwn i t (Ok None) r = Answers (Some i) t r
ThenOwn i t q r = q ≡ r

-- the entries for the child c in slot i are asked, and then its own rows
pub record AsksSlot (i : ℕ) (t c : Tree) (old new : List Entry) (r : Result (Option RawNode) VortexError) : Type 0 where
  pub child : HasSlot i c t
  pub result : Result (Option RawNode) VortexError
  pub asked : Asks (id_of (datum t)) (id_of (datum c)) 0 old new result
  pub stands : IfOk result (MayStand t)
  pub own : ThenOwn i t result r

-- the same of slot i, if it holds a child
abbrev pub AsksIn : ℕ → Tree → List Entry → List Entry → Result (Option RawNode) VortexError → Type 0
AsksIn i t old new r = ((IsPresent i t → ⊥) × (new ≡ old) × (r ≡ Ok None)) ⊎ ((c : Tree) × AsksSlot i t c old new r)

-- the first answer, and what it spent; None if no row fits and each entry declined
abbrev pub IsPassed : Tree → List Entry → List Entry → Option RawNode → Type 0
IsPassed t old new None = IsSettled t × IsSpent 0 old new
IsPassed t old new (Some r) = (s : ℕ) × Answered t r.tree r.optimize.items s × ArePresent r.optimize.items r.tree × IsSpent s old new

abbrev pub Passes : Tree → List Entry → List Entry → Result (Option RawNode) VortexError → Type 0
Passes t old new r = MatchResult r (IsPassed t old new) (Fails old new)

-- ---- optimizing

abbrev pub GoesOptimizing : Tree → ℕ → ℕ → List Entry → List Entry → Result Progress VortexError → Type 0
GoesOptimizing t = Goes (Optimizes t) (ComesTo t)

-- the child in slot i
abbrev pub OptimizesAt : ℕ → Tree → Tree → ℕ → ℕ → Type 0
OptimizesAt i t u n s = InSlot i (λ c d. Optimizes c d n s) t u

abbrev pub ComesToAt : ℕ → Tree → Tree → ℕ → ℕ → ℕ → Type 0
ComesToAt i t u k n s = InSlot i (λ c d. ComesTo c d k n s) t u

-- what the loop at one root keeps
pub record IsUnderWay (t u : Tree) (before after at_root : ℕ) (old new : List Entry) : Type 0 where
  pub runs : IsCounted (Runs t u at_root) before after old new
  pub few : at_root ≤ root_limit

-- what the loop over the named slots keeps, when those in ps are done
pub record IsBetween (os ps : List ℕ) (t u : Tree) (before after : ℕ) (old new : List Entry) : Type 0 where
  pub runs : IsCounted (RunsIn ps t u) before after old new
  pub present : ArePresent os u

-- ---- descending likewise

abbrev pub GivesDescending : Tree → ℕ → ℕ → List Entry → List Entry → Result Tree VortexError → Type 0
GivesDescending t = Gives (Descends t) (DescendsTo t)

-- the child in slot i, if it is there
abbrev pub DescendsAt : ℕ → Tree → Tree → ℕ → ℕ → Type 0
DescendsAt i t u n s = ((IsPresent i t → ⊥) × (u ≡ t) × (n ≡ 0) × (s ≡ 0)) ⊎ InSlot i (λ c d. Descends c d n s) t u

abbrev pub DescendsToAt : ℕ → Tree → ℕ → ℕ → ℕ → Type 0
DescendsToAt i t k n s = (c : Tree) × HasSlot i c t × DescendsTo c k n s
