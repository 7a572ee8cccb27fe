-- What bounds the turns of an execution.
use Rattle.std.specs.Prelude.{ℕ, zero, suc, ◌+◌, Bool, true, false, List, [], ◌∷◌}
use Rattle.vx_tree.specs.Tree.{Tree, Data, Slots, node, no_slots, absent, slot, meaning}
pub use Rattle.vx_tree.specs.Charges.{Executed, none, first, all, all_reached, Charge}

abbrev pub charge : Data → Charge
charge d = (meaning d).charge

-- which slots of a node are executed
abbrev pub executed : Data → Executed
executed d = (charge d).executed

-- whether the first slot is executed, and which of those after it are
abbrev pub is_next : Executed → Bool
is_next none = false
is_next _ = true

abbrev pub after : Executed → Executed
after all = all
after _ = none

-- whether slot i is executed
abbrev pub is_executed : Executed → ℕ → Bool
is_executed e zero = is_next e
is_executed e (suc i) = is_executed (after e) i

-- n if it counts, else 0
abbrev pub counted : Bool → ℕ → ℕ
counted true n = n
counted false n = 0

abbrev pub listed : Bool → ℕ → List ℕ → List ℕ
listed true n ns = n ∷ ns
listed false n ns = ns

-- how far a slice may have to be pushed down, less one
abbrev mutual
  pub extra : Tree → ℕ
  extra (node ty n d ss) = (charge d).extra (slots_extra (executed d) ss)

  pub slots_extra : Executed → Slots → List ℕ
  slots_extra e no_slots = []
  slots_extra e (absent ss) = slots_extra (after e) ss
  slots_extra e (slot t ss) = listed (is_next e) (extra t) (slots_extra (after e) ss)

abbrev pub reach : Tree → ℕ
reach t = 1 + extra t

-- the turns that a node takes itself, and those for a slot of cost c and reach 1 + e
abbrev pub base_cost : Data → ℕ
base_cost d = (charge d).own

abbrev pub slot_cost : Data → ℕ → ℕ → ℕ
slot_cost d c e = (charge d).for_slot c e

-- a bound on the turns that an execution of the tree takes
abbrev mutual
  pub cost : Tree → ℕ
  cost (node ty n d ss) = base_cost d + slots_cost (slot_cost d) (executed d) ss

  -- of the executed slots, each by its cost and extra
  pub slots_cost : (ℕ → ℕ → ℕ) → Executed → Slots → ℕ
  slots_cost turns e no_slots = 0
  slots_cost turns e (absent ss) = slots_cost turns (after e) ss
  slots_cost turns e (slot t ss) = counted (is_next e) (turns (cost t) (extra t)) + slots_cost turns (after e) ss

-- a number for each tree in the slots, added up
abbrev pub slots_sum : (Tree → ℕ) → Slots → ℕ
slots_sum number no_slots = 0
slots_sum number (absent ss) = slots_sum number ss
slots_sum number (slot t ss) = number t + slots_sum number ss
