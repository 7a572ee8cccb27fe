-- Which slots of a node are columns.
use Rattle.std.specs.Prelude.{◌≡◌, ℕ, zero, suc, Bool, true, false, List, [], ◌∷◌, Option, Some, None}
use Rattle.std.proofs.Math.Bool.{not}
use Rattle.vx_value.specs.declared.error.VortexError.{VortexError}
use Rattle.vx_column.specs.Interleaved.{AreInterleaved, IsInterleaving, IsNotInterleaving}
use Rattle.vx_tree.specs.Tree.{Tree, Slots, no_slots, absent, slot, datum, is_columnar}

-- each slot holds a column
abbrev pub AreColumns : Slots → Type 0
AreColumns no_slots = Unit {0}
AreColumns (absent ss) = ⊥
AreColumns (slot t ss) = (is_columnar (datum t) ≡ true) × AreColumns ss

-- the slot holds a column
abbrev pub HoldsColumn : Option Tree → Type 0
HoldsColumn None = ⊥
HoldsColumn (Some t) = is_columnar (datum t) ≡ true

-- whether the slot holds a tree that isn't a column yet
abbrev pub waits : Option Tree → Bool
waits None = false
waits (Some t) = not (is_columnar (datum t))

-- slot i is the first that holds a tree, and that is a column
abbrev pub IsReadyAt : ℕ → Slots → Type 0
IsReadyAt i no_slots = ⊥
IsReadyAt zero (absent ss) = ⊥
IsReadyAt zero (slot t ss) = is_columnar (datum t) ≡ true
IsReadyAt (suc i) (absent ss) = IsReadyAt i ss
IsReadyAt (suc i) (slot t ss) = ⊥

-- the tree in the slot, if it holds one
abbrev pub trees_of : Option Tree → List Tree
trees_of None = []
trees_of (Some t) = t ∷ []

-- two columns of indices, and the columns whose rows they name
abbrev pub ArePairs : List Tree → Type 0
ArePairs (a ∷ r ∷ vs) = AreInterleaved a r vs
ArePairs _ = ⊥

-- u has the rows that they name
abbrev pub IsPaired : List Tree → Tree → Type 0
IsPaired (a ∷ r ∷ vs) u = IsInterleaving a r vs u
IsPaired _ u = ⊥

-- why there is no such column
abbrev pub IsNotPaired : List Tree → VortexError → Type 0
IsNotPaired (a ∷ r ∷ vs) e = IsNotInterleaving a r vs e
IsNotPaired _ e = ⊥
