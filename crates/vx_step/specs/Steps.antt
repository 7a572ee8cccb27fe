-- The result of a step.
use Rattle.std.specs.Prelude.{◌≡◌, ◌⊎◌, ℕ, zero, suc, ◌+◌, ◌*◌, ◌<◌, ◌≤◌, List, Bool, true, false, ◌&&◌, nat_lt}
use Rattle.vx_mask.specs.Masks.{is_all_true}
use Rattle.vx_mask.specs.Places.{true_count, IsRun}
use Rattle.vx_tree.specs.Tree.{Tree, Slots, node, no_slots, absent, slot, filter_of, slice_of, dtype, datum, function, dict, interleave, is_constant, is_canonical, is_columnar}
use Rattle.vx_tree.specs.Cost.{Executed, executed, is_next, after, is_executed, cost, reach}
use Rattle.vx_tree.specs.Columns.{empty_of}
use Rattle.vx_value.specs.declared.error.VortexError.{VortexError}
use Rattle.vx_value.specs.declared.error.VortexError.TheVariants.{OutOfMemory, Fault}
use Rattle.vx_tree.specs.Cells.{IsClean}
use Rattle.vx_tree.specs.Keeps.{KeepsExactly}
use Rattle.vx_tree.specs.Firm.{KeepsFirmly}
use Rattle.vx_step.specs.Turns.{meets, slot_target, target_of, node_potential}
use Rattle.vx_step.specs.declared.steps.SlotTarget.{SlotTarget}
use Rattle.vx_step.specs.declared.steps.ExecutionStep.TheVariants.{ExecuteSlot, AppendChild, Done as Ended}
use Rattle.vx_step.specs.declared.steps.ExecutionResult.{ExecutionResult}
use Rattle.vx_step.specs.declared.whole.Answer.{Answer}
use Rattle.vx_step.specs.declared.whole.Answer.TheVariants.{Wait, Done}
use Rattle.vx_step.specs.declared.steps.ExecutionStep.{ExecutionStep}
use Rattle.vx_step.specs.Contents.{IsUsed, IsAppend, IsUsedUp}
use Rattle.vx_tree.specs.Well.{IsNodeOf}

-- slot i is the first whose tree hasn't reached the target g
abbrev pub AwaitsAt : SlotTarget → ℕ → Slots → Type 0
AwaitsAt g i no_slots = ⊥
AwaitsAt g zero (absent ss) = ⊥
AwaitsAt g zero (slot t ss) = meets g t ≡ false
AwaitsAt g (suc i) (absent ss) = AwaitsAt g i ss
AwaitsAt g (suc i) (slot t ss) = (meets g t ≡ true) × AwaitsAt g i ss

-- slot i is executed, and is the first that isn't ready
abbrev pub Awaits : ℕ → Tree → Type 0
Awaits i (node ty n d ss) = (is_executed (executed d) i ≡ true) × AwaitsAt (slot_target d) i ss

-- the tree of each slot that is executed has reached the target g
abbrev pub AreReady : SlotTarget → Executed → Slots → Type 0
AreReady g e no_slots = Unit {0}
AreReady g e (absent ss) = AreReady g (after e) ss
AreReady g e (slot t ss) = (is_next e ≡ true → meets g t ≡ true) × AreReady g (after e) ss

abbrev pub IsReady : Tree → Type 0
IsReady (node ty n d ss) = AreReady (slot_target d) (executed d) ss

-- whether each slot holds a constant
abbrev pub are_constant : Slots → Bool
are_constant no_slots = true
are_constant (absent ss) = false
are_constant (slot t ss) = is_constant (datum t) && are_constant ss

-- whether the first slot holds a constant
abbrev pub is_first_constant : Slots → Bool
is_first_constant no_slots = false
is_first_constant (absent ss) = false
is_first_constant (slot t ss) = is_constant (datum t)

-- whether each of the first two slots does
abbrev pub are_two_constant : Slots → Bool
are_two_constant (slot s (slot t ss)) = is_constant (datum s) && is_constant (datum t)
are_two_constant _ = false

-- whether a node steps to a constant: a function of constants does, and so do a dictionary and interleaved rows whose indices are constants, if there is a row
abbrev pub gives_constant : Tree → Bool
gives_constant (node ty n (function f) ss) = nat_lt 0 n && are_constant ss
gives_constant (node ty n dict ss) = nat_lt 0 n && is_first_constant ss
gives_constant (node ty n interleave ss) = nat_lt 0 n && are_two_constant ss
gives_constant (node ty n _ ss) = false

-- why a turn or an execution of the tree fails: out of memory, or a fault in one of its nodes
abbrev pub IsStopped : Tree → VortexError → Type 0
IsStopped t e = (e ≡ OutOfMemory) ⊎ ((e ≡ Fault) × (¬ (IsClean t)))

-- what the filter of c at the true bits steps to by its mask alone: the empty column if it chooses no row; c itself if it chooses all; and, if the chosen rows
-- are consecutive and c isn't canonical, the slice of c, pushed down, with just its rows and in no more turns
abbrev pub IsShort : List Bool → Tree → Tree → Type 0
IsShort bits c u =
    ((true_count bits ≡ 0) × (u ≡ empty_of (dtype c)))
    ⊎ ((0 < true_count bits) × (is_all_true bits ≡ true) × (u ≡ c))
    ⊎ ((is_all_true bits ≡ false) × (is_canonical (datum c) ≡ false) × (a : ℕ) × (b : ℕ) × IsRun bits a b × KeepsExactly (slice_of a b c) u
    × (cost u ≤ cost c + 3 * reach c))

-- t is a filter, and u is what it steps to by its mask alone
abbrev pub IsShortcut : Tree → Tree → Type 0
IsShortcut t u = (bits : List Bool) × (c : Tree) × (t ≡ filter_of bits c) × IsShort bits c u

abbrev pub HasNoShortcut : Tree → Type 0
HasNoShortcut t = (u : Tree) → ¬ (IsShortcut t u)

-- the step of t needs no slot to be executed first
abbrev pub IsDue : Tree → Type 0
IsDue t = HasNoShortcut t × IsReady t

-- why a step of t fails: out of memory, or, once it is due, a fault in one of its nodes
abbrev pub IsFailed : Tree → VortexError → Type 0
IsFailed t e = (e ≡ OutOfMemory) ⊎ ((e ≡ Fault) × (¬ (IsClean t)) × IsDue t)

-- the slots of t are ready, and u is the column of t
pub record IsColumnOf (t u : Tree) : Type 0 where
  pub direct : HasNoShortcut t
  pub ready : IsReady t
  pub column : is_columnar (datum u) ≡ true
  pub constant_kept : is_constant (datum u) ≡ gives_constant t

-- u stands for t, exactly if t is firm, and has fewer turns left
pub record IsDone (t u : Tree) : Type 0 where
  pub by : IsShortcut t u ⊎ IsColumnOf t u
  pub kept : KeepsFirmly t u
  pub falls : node_potential u < node_potential t

-- the step of a node with all of its slots
abbrev pub IsAnswer : Tree → Answer → Type 0
IsAnswer t (Wait i g) = HasNoShortcut t × Awaits i t × (g ≡ target_of t)
IsAnswer t (Done u) = IsDone t u

-- nodes that can be stepped: those with all of their slots, and chunks of which some are used up
abbrev pub IsOpen : Tree → Type 0
IsOpen t = IsNodeOf t ⊎ IsUsed t

-- what a step makes of t: u, and what comes next
abbrev pub IsStepTo : Tree → Tree → ExecutionStep → Type 0
IsStepTo t u (ExecuteSlot i g) = (u ≡ t) × HasNoShortcut t × Awaits i t × (g ≡ target_of t)
IsStepTo t u (AppendChild i) = (u ≡ t) × IsAppend i t
IsStepTo t u Ended = (IsNodeOf t × IsNodeOf u × IsDone t u) ⊎ ((u ≡ t) × IsUsedUp t)

abbrev pub IsStep : Tree → ExecutionResult → Type 0
IsStep t r = IsStepTo t r.array r.step
