-- A tree with one slot replaced, a node with a slot taken out, and all slots mapped.
use Rattle.std.specs.Prelude.{◌≡◌, ℕ, zero, suc, ◌+◌, List, [], ◌∷◌, nat_lt, if◌then◌else◌, Option, None}
use Rattle.vx_tree.specs.Tree.{Tree, Slots, node, no_slots, absent, slot, meaning}

-- slot i replaced
abbrev pub set_slot : ℕ → Tree → Slots → Slots
set_slot i t no_slots = no_slots
set_slot zero t (absent ss) = slot t ss
set_slot zero t (slot s ss) = slot t ss
set_slot (suc i) t (absent ss) = absent (set_slot i t ss)
set_slot (suc i) t (slot s ss) = slot s (set_slot i t ss)

-- the tree with t in slot i of its root
abbrev pub put : ℕ → Tree → Tree → Tree
put i t (node ty n d ss) = node ty n d (set_slot i t ss)

-- slot i exists and is absent
abbrev pub IsAbsentAt : ℕ → Slots → Type 0
IsAbsentAt i no_slots = ⊥
IsAbsentAt zero (absent ss) = Unit {0}
IsAbsentAt zero (slot s ss) = ⊥
IsAbsentAt (suc i) (absent ss) = IsAbsentAt i ss
IsAbsentAt (suc i) (slot s ss) = IsAbsentAt i ss

abbrev pub IsHole : ℕ → Tree → Type 0
IsHole i (node ty n d ss) = IsAbsentAt i ss

-- slot i holds a tree
abbrev pub IsPresentAt : ℕ → Slots → Type 0
IsPresentAt i no_slots = ⊥
IsPresentAt zero (absent ss) = ⊥
IsPresentAt zero (slot s ss) = Unit {0}
IsPresentAt (suc i) (absent ss) = IsPresentAt i ss
IsPresentAt (suc i) (slot s ss) = IsPresentAt i ss

abbrev pub IsPresent : ℕ → Tree → Type 0
IsPresent i (node ty n d ss) = IsPresentAt i ss

-- slot i holds t
abbrev pub HoldsAt : ℕ → Tree → Slots → Type 0
HoldsAt i t no_slots = ⊥
HoldsAt zero t (absent ss) = ⊥
HoldsAt zero t (slot s ss) = s ≡ t
HoldsAt (suc i) t (absent ss) = HoldsAt i t ss
HoldsAt (suc i) t (slot s ss) = HoldsAt i t ss

abbrev pub HasSlot : ℕ → Tree → Tree → Type 0
HasSlot i t (node ty n d ss) = HoldsAt i t ss

-- no slot holds a tree
abbrev pub AllAbsent : Slots → Type 0
AllAbsent no_slots = Unit {0}
AllAbsent (absent ss) = AllAbsent ss
AllAbsent (slot s ss) = ⊥

-- none of the first k slots holds a tree
abbrev pub NoneBefore : ℕ → Slots → Type 0
NoneBefore zero ss = Unit {0}
NoneBefore (suc k) no_slots = Unit {0}
NoneBefore (suc k) (absent ss) = NoneBefore k ss
NoneBefore (suc k) (slot s ss) = ⊥

-- slot i is the first that holds a tree
abbrev pub IsFirstAt : ℕ → Slots → Type 0
IsFirstAt i no_slots = ⊥
IsFirstAt zero (absent ss) = ⊥
IsFirstAt zero (slot s ss) = Unit {0}
IsFirstAt (suc i) (absent ss) = IsFirstAt i ss
IsFirstAt (suc i) (slot s ss) = ⊥

-- the slots that hold a tree, in order
abbrev pub present_slots : Slots → Slots
present_slots no_slots = no_slots
present_slots (absent ss) = present_slots ss
present_slots (slot s ss) = slot s (present_slots ss)

-- each tree replaced
abbrev pub map_slots : (Tree → Tree) → Slots → Slots
map_slots f no_slots = no_slots
map_slots f (absent ss) = absent (map_slots f ss)
map_slots f (slot t ss) = slot (f t) (map_slots f ss)

-- the numbers of the slots that hold a tree, counting from k
abbrev pub present_from : ℕ → Slots → List ℕ
present_from k no_slots = []
present_from k (absent ss) = present_from (k + 1) ss
present_from k (slot t ss) = k ∷ present_from (k + 1) ss

-- the numbers of the slots that hold a tree in the root
abbrev pub present_in : Tree → List ℕ
present_in (node ty n d ss) = present_from 0 ss

abbrev pub count_slots : Slots → ℕ
count_slots no_slots = 0
count_slots (absent ss) = count_slots ss + 1
count_slots (slot t ss) = count_slots ss + 1

-- what slot i of a tree's root is called, None if there is no such slot
abbrev pub name_at : ℕ → Tree → Option (List ℕ)
name_at i (node ty n d ss) = if nat_lt i (count_slots ss) then (meaning d).name ty i else None
