-- The targets of slots, and the turns left at a node.
use Rattle.std.specs.Prelude.{ℕ, ◌+◌, Bool, true, false}
use Rattle.vx_tree.specs.Tree.{Tree, Data, Slots, node, function, is_valid, dict, chunked, interleave, no_slots, absent, slot, datum, is_canonical, is_columnar, is_primitive, is_bool}
use Rattle.vx_tree.specs.Cost.{Executed, executed, is_next, after, counted, extra, cost, charge, base_cost, slot_cost}
use Rattle.vx_step.specs.declared.steps.SlotTarget.{SlotTarget}
use Rattle.vx_step.specs.declared.steps.SlotTarget.TheVariants.{Canonical, Columnar, Primitive, Bool as Booleans, Any}

-- whether a tree has reached a target
abbrev pub data_meets : SlotTarget → Data → Bool
data_meets Canonical d = is_canonical d
data_meets Columnar d = is_columnar d
data_meets Primitive d = is_primitive d
data_meets Booleans d = is_bool d
data_meets Any d = true

abbrev pub meets : SlotTarget → Tree → Bool
meets g t = data_meets g (datum t)

-- the target of a node's slots: a line for each encoding
abbrev pub slot_target : Data → SlotTarget
slot_target (function f) = Columnar
slot_target is_valid = Columnar
slot_target dict = Columnar
slot_target chunked = Columnar
slot_target interleave = Columnar
slot_target _ = Canonical

abbrev pub target_of : Tree → SlotTarget
target_of t = slot_target (datum t)

-- the turns that a node takes itself, once its slots are done: a line for each encoding
abbrev pub base_potential : Data → ℕ
base_potential d = base_cost d

-- those left for a slot that has reached its target
abbrev pub left_for : Data → ℕ
left_for d = (charge d).left

-- the turns left for a slot: those that the bound has for it, k once it has reached its target
abbrev pub slot_potential : ℕ → Bool → ℕ → ℕ
slot_potential k true c = k
slot_potential k false c = c

abbrev pub slots_potential : Data → Executed → Slots → ℕ
slots_potential d e no_slots = 0
slots_potential d e (absent ss) = slots_potential d (after e) ss
slots_potential d e (slot t ss) = counted (is_next e) (slot_potential (left_for d) (meets (slot_target d) t) (slot_cost d (cost t) (extra t))) + slots_potential d (after e) ss

-- the turns left at a node, current or suspended
abbrev pub node_potential : Tree → ℕ
node_potential (node ty n d ss) = base_potential d + slots_potential d (executed d) ss

-- those of a suspended parent, and of its open slot once that is filled
abbrev pub parent_potential : Tree → ℕ
parent_potential p = node_potential p + left_for (datum p)
