-- Choosing rows: what is given, and why nothing is.
use Rattle.std.specs.Prelude.{◌≡◌, ℕ, ◌≤◌, List, length, Bool, true, ◌⊎◌, Result, MatchResult}
use Rattle.vx_value.specs.declared.error.VortexError.{VortexError}
use Rattle.vx_value.specs.declared.error.VortexError.TheVariants.{OutOfMemory, OutOfBounds, InvalidArgument}
use Rattle.vx_value.specs.declared.error.ArgKind.TheVariants.{MaskLen, SlotType}
use Rattle.vx_tree.specs.Tree.{Tree, dtype, len, slice_of, filter_of, dict_of}
use Rattle.vx_tree.specs.SlotTypes.{is_integer}
use Rattle.vx_rule.specs.Rules.{IsPartOf}
use Rattle.vx_opt.specs.Answers.{IsLimited}

-- the range is in order and in bounds
abbrev pub IsRange : ℕ → ℕ → Tree → Type 0
IsRange a b t = (a ≤ b) × (b ≤ len t)

-- the mask has a bit for each row
abbrev pub IsMaskOf : List Bool → Tree → Type 0
IsMaskOf bits t = length bits ≡ len t

-- the indices are integers
abbrev pub AreIndices : Tree → Type 0
AreIndices indices = is_integer (dtype indices) ≡ true

-- this tree or want of memory, and nothing else
abbrev pub GivesJust : Tree → Result Tree VortexError → Type 0
GivesJust t r = MatchResult r (λ u. u ≡ t) (λ e. e ≡ OutOfMemory)

-- why nothing is given: memory, the condition that is broken, or a limit in optimizing the node, if one is made
abbrev pub IsRefused : Type 0 → VortexError → Type 0 → Tree → VortexError → Type 0
IsRefused holds refusal is_made made e = (e ≡ OutOfMemory) ⊎ ((holds → ⊥) × (e ≡ refusal)) ⊎ (is_made × IsLimited made 0 e)

-- a node is made of a range in bounds that has a row, but not all
abbrev pub IsNoSlice : ℕ → ℕ → Tree → VortexError → Type 0
IsNoSlice a b t = IsRefused (IsRange a b t) (OutOfBounds a b (len t)) (IsPartOf a b t) (slice_of a b t)

abbrev pub IsNoFilter : List Bool → Tree → VortexError → Type 0
IsNoFilter bits t = IsRefused (IsMaskOf bits t) (InvalidArgument (MaskLen (len t) (length bits))) (IsMaskOf bits t) (filter_of bits t)

abbrev pub IsNoTake : Tree → Tree → VortexError → Type 0
IsNoTake indices t = IsRefused (AreIndices indices) (InvalidArgument (SlotType 0)) (AreIndices indices) (dict_of indices t)
