-- Asking one entry of a list.
use Rattle.std.specs.Prelude.{◌≡◌, ℕ, ◌<◌, List, length, slice_index_or, slice_set, Option, Result}
use Rattle.vx_value.specs.declared.error.SessionKind.TheVariants.{Rule}
use Rattle.vx_value.specs.declared.error.VortexError.{VortexError}
use Rattle.vx_value.specs.declared.error.VortexError.TheVariants.{Refused}
use Rattle.vx_value.specs.declared.id.Id.{Id}
use Rattle.vx_rule.specs.declared.raw_node.RawNode.{RawNode}
use Rattle.vx_opt.specs.Entries.{Entry, IsAsked}

-- the entry at i was asked, and the others are as they were
pub record IsAskedAt (i : ℕ) (old new : List Entry) (result : Result (Option RawNode) VortexError) : Type 0 where
  pub in_range : i < length old
  pub entry : Entry
  pub others : new ≡ slice_set old i entry
  pub asked : (d : Entry) → IsAsked (slice_index_or old i d) entry result

-- an error, as a refusal by the entry at place k of a pair's list if it is one
abbrev pub told : VortexError → Id → Id → ℕ → VortexError
told (Refused kind q d j) p c k = Refused Rule p c k
told e p c k = e
