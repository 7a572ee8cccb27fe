-- The answers of rules.
use Rattle.std.specs.Prelude.{◌≡◌, ℕ, [], ◌∷◌, Bool, true, Option, Some, None, Result, Ok, Err}
use Rattle.vx_value.specs.declared.error.VortexError.{VortexError}
use Rattle.vx_value.specs.declared.error.VortexError.TheVariants.{OutOfMemory}
use Rattle.vx_tree.specs.Tree.{Tree, slots, datum, is_dict}
use Rattle.vx_tree.specs.Slots.{present_from}
use Rattle.vx_rule.specs.Rules.{Row, IsQuiet}
use Rattle.vx_rule.specs.declared.raw_node.RawNode.{RawNode}
use Rattle.vx_rule.specs.declared.rule_set.Parents.{Parents}
use Rattle.vx_rule.specs.declared.rule_set.Parents.TheVariants as parents

-- the answer is that of a row of the table, or None if no row fits
abbrev pub IsAnswer : Option ℕ → Tree → Option RawNode → Type 0
IsAnswer w t None = IsQuiet w t
IsAnswer w t (Some r) = Row w t r.tree r.optimize.items

-- the same, and the only error is out of memory
abbrev pub Answers : Option ℕ → Tree → Result (Option RawNode) VortexError → Type 0
Answers w t (Ok o) = IsAnswer w t o
Answers w t (Err e) = e ≡ OutOfMemory

-- the answer is the tree u, with all its slots to be optimized, and the only error is out of memory
abbrev pub IsRaw : Tree → Result (Option RawNode) VortexError → Type 0
IsRaw u (Ok None) = ⊥
IsRaw u (Ok (Some r)) = (r.tree ≡ u) × (r.optimize.items ≡ present_from 0 (slots u))
IsRaw u (Err e) = e ≡ OutOfMemory

-- the answer is the tree u, with its first slot to be optimized, and the only error is out of memory
abbrev pub IsRawFirst : Tree → Result (Option RawNode) VortexError → Type 0
IsRawFirst u (Ok None) = ⊥
IsRawFirst u (Ok (Some r)) = (r.tree ≡ u) × (r.optimize.items ≡ 0 ∷ [])
IsRawFirst u (Err e) = e ≡ OutOfMemory

-- a set for these parents has rules for t
abbrev pub has_rules : Parents → Tree → Bool
has_rules parents.All t = true
has_rules parents.Dictionaries t = is_dict (datum t)
