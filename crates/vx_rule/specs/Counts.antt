-- The counts of an entry that is handed in: its refusals, and what it spent. Neither falls, and each stays at its last value.
use Rattle.std.specs.Prelude.{◌≡◌, ℕ, ◌+◌, ◌-◌, ◌^◌, ◌<◌, ◌⊎◌, Option, Some, None, Result, Ok, Err, min}
use Rattle.vx_value.specs.declared.error.VortexError.{VortexError}
use Rattle.vx_value.specs.declared.error.VortexError.TheVariants.{OutOfMemory, Refused}
use Rattle.vx_tree.specs.Tree.{Tree}
use Rattle.vx_tree.specs.Weight.{weight}
use Rattle.vx_tree.specs.Keeps.{Keeps}
use Rattle.vx_rule.specs.Rules.{ArePresent}
use Rattle.vx_rule.specs.declared.raw_node.RawNode.{RawNode}

-- the last value of a count
abbrev pub last : ℕ
last = 2 ^ 64 - 1

-- a number as a count
abbrev pub capped : ℕ → ℕ
capped n = min n last

-- a count rose, or stands at its last value
abbrev pub Rose : ℕ → ℕ → Type 0
Rose old new = (old < new) ⊎ (new ≡ last)

-- what an answer costs
abbrev pub price : Tree → ℕ
price t = 1 + weight t

-- what was spent, after this result
abbrev pub spent_after : ℕ → Result (Option RawNode) VortexError → ℕ
spent_after spent (Ok (Some r)) = capped (spent + price r.tree)
spent_after spent (Ok None) = spent
spent_after spent (Err e) = spent

-- an answer may stand for t, and the slots that are to be optimized hold trees
abbrev pub MayStand : Tree → Option RawNode → Type 0
MayStand t None = Unit {0}
MayStand t (Some r) = Keeps t r.tree × ArePresent r.optimize.items r.tree

-- why there is no answer: memory, or a refusal, which was counted
abbrev pub IsUnanswered : ℕ → ℕ → VortexError → Type 0
IsUnanswered old new OutOfMemory = Unit {0}
IsUnanswered old new (Refused kind parent child place) = Rose old new
IsUnanswered old new _ = ⊥
