-- What contracts see of a registry: a list of entries, each with its counts.
use Rattle.std.specs.Prelude.{◌≡◌, ℕ, zero, suc, ◌+◌, ◌≤◌, ◌<◌, ◌⊎◌, List, [], ◌∷◌, map, filter, length, slice_index, Bool, true, false, ◌&&◌, Option, Some, None, Result, Ok, Err, IfErr}
use Rattle.vx_value.specs.Ids.{same_id}
use Rattle.vx_value.specs.declared.id.Id.{Id}
use Rattle.vx_value.specs.declared.error.SessionKind.{SessionKind}
use Rattle.vx_value.specs.declared.error.SessionKind.TheVariants.{Rule}
use Rattle.vx_value.specs.declared.error.VortexError.{VortexError}
use Rattle.vx_value.specs.declared.error.VortexError.TheVariants.{OutOfMemory, Refused}
use Rattle.vx_rule.specs.Counts.{last, Rose, price, spent_after, IsUnanswered}
use Rattle.vx_rule.specs.Entries.{entry_refusals, entry_spent}
use Rattle.vx_rule.specs.declared.builtins.builtin.RegisteredBuiltin.{RegisteredBuiltin}
use Rattle.vx_rule.specs.declared.entry.RuleEntry.{RuleEntry}
use Rattle.vx_rule.specs.declared.entry.RuleEntry.TheVariants.{Builtin}
use Rattle.vx_rule.specs.declared.handed_in.DynReduceParentRule as rule
use Rattle.vx_rule.specs.declared.raw_node.RawNode.{RawNode}
use Rattle.vx_opt.specs.declared.registry.RegisteredRule.{RegisteredRule}
use Rattle.vx_opt.specs.declared.registry.RuleRegistry.{RuleRegistry}

-- an entry: the ids of the parents and of the children for which it is asked, its refusals, and what it spent
pub record Entry : Type 0 where
  pub parent : Id
  pub child : Id
  pub refusals : ℕ
  pub spent : ℕ

-- The counts of a box are those of its trait.
module _ {X : Type 0} {F : X → Type 0} (counts : (v : X) → rule.Ghosts (F v)) where
  -- an entry under these ids
  abbrev pub registered : Id → Id → RuleEntry X F → Entry
  registered p c e = record {
    parent = p;
    child = c;
    refusals = entry_refusals (λ b. (counts b.vtable).refusals b.value) (λ b. (counts b.vtable).spent_so_far b.value) e;
    spent = entry_spent (λ b. (counts b.vtable).refusals b.value) (λ b. (counts b.vtable).spent_so_far b.value) e;
  }

  abbrev pub entry_of : RegisteredRule X F → Entry
  entry_of r = registered r.parent r.child r.entry

  abbrev pub entries_of : RuleRegistry X F → List Entry
  entries_of r = map entry_of r.entries.items

-- an entry that is built in and wasn't asked yet
abbrev pub unasked : {X : Type 0} {F : X → Type 0} → RegisteredBuiltin → RegisteredRule X F
unasked b = record { parent = b.parent; child = b.child; entry = Builtin (record { kind = b.kind; spent = record { total = 0 } }) }

-- ---- the entries of a pair of ids

abbrev pub is_for : Id → Id → Entry → Bool
is_for p c e = same_id e.parent p && same_id e.child c

-- in the order of registration
abbrev pub of_pair : Id → Id → List Entry → List Entry
of_pair p c es = filter (is_for p c) es

-- the refusals of the entry at place k among them, from 0
abbrev pub refusals_at : Id → Id → ℕ → List Entry → ℕ
refusals_at p c k es = slice_index (map (λ e. e.refusals) (of_pair p c es)) k

-- ---- counts, before and after

-- the same entry, of which no count fell
pub record IsLater (old new : Entry) : Type 0 where
  pub same_parent : new.parent ≡ old.parent
  pub same_child : new.child ≡ old.child
  pub refusals : old.refusals ≤ new.refusals
  pub spent : old.spent ≤ new.spent

-- the same entries, of which no count fell
abbrev pub AreLater : List Entry → List Entry → Type 0
AreLater [] [] = Unit {0}
AreLater (e ∷ es) (f ∷ fs) = IsLater e f × AreLater es fs
AreLater es fs = ⊥

-- what the entries have spent
abbrev pub spent_in : List Entry → ℕ
spent_in [] = 0
spent_in (e ∷ es) = e.spent + spent_in es

-- what one of them has spent stands at its last value
abbrev pub HasLast : List Entry → Type 0
HasLast [] = ⊥
HasLast (e ∷ es) = (last ≤ e.spent) ⊎ HasLast es

-- The entries spent n: what they have spent rose by n in all. Where a count stands at its last value, n may be more: the rise has no bound.
pub record IsSpent (n : ℕ) (old new : List Entry) : Type 0 where
  pub later : AreLater old new
  pub at_most : spent_in new ≤ spent_in old + n
  pub exactly : (spent_in new ≡ spent_in old + n) ⊎ HasLast new

-- what they have spent didn't rise, and no count stands at its last value
pub record SpentNothing (old new : List Entry) : Type 0 where
  pub same : spent_in new ≡ spent_in old
  pub none_last : HasLast new → ⊥

-- ---- asking

-- an entry before and after it was asked, with its result
pub record IsAsked (old new : Entry) (result : Result (Option RawNode) VortexError) : Type 0 where
  pub later : IsLater old new
  pub refused : IfErr result (IsUnanswered old.refusals new.refusals)
  pub spent : new.spent ≡ spent_after old.spent result

-- The entries of the pair p, c are asked in order, until one answers or fails, and no other entry is. Before this list there are k of the pair.
-- The result is that entry's, with the pair and its place in a refusal.
pub data Asks (p c : Id) : ℕ → List Entry → List Entry → Result (Option RawNode) VortexError → Type 0 where
  all_declined : (k : ℕ) → Asks p c k [] [] (Ok None)
  other : (k : ℕ) (e : Entry) (es fs : List Entry) (r : Result (Option RawNode) VortexError) → is_for p c e ≡ false → Asks p c k es fs r
      → Asks p c k (e ∷ es) (e ∷ fs) r
  declined : (k : ℕ) (e f : Entry) (es fs : List Entry) (r : Result (Option RawNode) VortexError) → is_for p c e ≡ true → IsAsked e f (Ok None)
      → Asks p c (suc k) es fs r → Asks p c k (e ∷ es) (f ∷ fs) r
  answered : (k : ℕ) (e f : Entry) (es : List Entry) (raw : RawNode) → is_for p c e ≡ true → IsAsked e f (Ok (Some raw))
      → Asks p c k (e ∷ es) (f ∷ es) (Ok (Some raw))
  out_of_memory : (k : ℕ) (e f : Entry) (es : List Entry) → is_for p c e ≡ true → IsAsked e f (Err OutOfMemory)
      → Asks p c k (e ∷ es) (f ∷ es) (Err OutOfMemory)
  refused : (k : ℕ) (e f : Entry) (es : List Entry) (kind : SessionKind) (q d : Id) (j : ℕ) → is_for p c e ≡ true
      → IsAsked e f (Err (Refused kind q d j)) → Asks p c k (e ∷ es) (f ∷ es) (Err (Refused Rule p c k))

-- what a result adds to what was spent
abbrev pub cost_of : Result (Option RawNode) VortexError → ℕ
cost_of (Ok (Some r)) = price r.tree
cost_of (Ok None) = 0
cost_of (Err e) = 0

-- a refusal: by the entry at that place of the pair's list, whose refusals rose
pub record IsRefusal (kind : SessionKind) (p c : Id) (k : ℕ) (old new : List Entry) : Type 0 where
  pub of_rule : kind ≡ Rule
  pub in_list : k < length (of_pair p c old)
  pub rose : Rose (refusals_at p c k old) (refusals_at p c k new)

-- why nothing is given, limits of rewriting apart: memory, or the refusal of an entry
abbrev pub IsFailure : List Entry → List Entry → VortexError → Type 0
IsFailure old new OutOfMemory = Unit {0}
IsFailure old new (Refused kind p c k) = IsRefusal kind p c k old new
IsFailure old new _ = ⊥
