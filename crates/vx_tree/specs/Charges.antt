-- What an encoding adds to the bounds on turns and on rewrites.
use Rattle.std.specs.Prelude.{ℕ, zero, suc, ◌+◌, ◌-◌, ◌*◌, List, [], ◌∷◌}

-- which slots of a node are executed: those of a column aren't, and of a masked node the child alone is
pub data Executed : Type 0 where
  none : Executed
  first : Executed
  all : Executed

-- what a node adds
pub record Charge : Type 0 where
  -- the turns that it takes itself
  pub own : ℕ
  -- the turns for a slot of cost c and reach 1 + e
  pub for_slot : ℕ → ℕ → ℕ
  -- those of them that are left once the slot has reached its target
  pub left : ℕ
  pub executed : Executed
  -- how far a slice may have to be pushed down, less one, from the same numbers of the executed slots
  pub extra : List ℕ → ℕ
  -- the weight of a node of n rows, from those of its slots
  pub weight : ℕ → List ℕ → ℕ

-- ---- the turns for a slot

-- its cost, and one that puts it back
abbrev pub put_back : ℕ → ℕ → ℕ
put_back c e = c + 1

-- and three for each further node that a slice may have to be pushed below
abbrev pub pushed_below : ℕ → ℕ → ℕ
pushed_below c e = c + 1 + 3 * e

-- its cost, one that puts it back, and one that appends it
abbrev pub appended : ℕ → ℕ → ℕ
appended c e = c + 2

-- ---- how far a slice may have to be pushed below a node

-- no further than to it
abbrev pub none_reached : List ℕ → ℕ
none_reached es = 0

-- the reach of the first slot
abbrev pub first_reached : List ℕ → ℕ
first_reached [] = 0
first_reached (e ∷ es) = 1 + e

-- the reach of each slot, added up
abbrev pub all_reached : List ℕ → ℕ
all_reached [] = 0
all_reached (e ∷ es) = 1 + e + all_reached es

-- ---- weights

-- the weights of slots, added up
abbrev pub total : List ℕ → ℕ
total [] = 0
total (w ∷ ws) = w + total ws

-- the same, with 3, the least weight, taken off each
abbrev pub excess : List ℕ → ℕ
excess [] = 0
excess (w ∷ ws) = w - 3 + excess ws

-- the same, with 2 added to each
abbrev pub enlarged : List ℕ → ℕ
enlarged [] = 0
enlarged (w ∷ ws) = 2 + w + enlarged ws

-- the weights of slots, multiplied
abbrev pub product : List ℕ → ℕ
product [] = 1
product (w ∷ ws) = w * product ws

-- the weight of a column of n rows; one without rows weighs no more than its slots, or 3 if it has none
abbrev pub column_weight : ℕ → List ℕ → ℕ
column_weight zero ws = 3 + excess ws
column_weight (suc n) ws = 3 + total ws

-- k times the weight of the slots; 4 if the node has none
abbrev pub times : ℕ → List ℕ → ℕ
times k [] = 4
times k (w ∷ ws) = k * w + k * total ws

-- the weight of a node that weighs k more than its slots, or k times as much, whatever its rows
abbrev pub added : ℕ → ℕ → List ℕ → ℕ
added k n ws = k + total ws

abbrev pub scaled : ℕ → ℕ → List ℕ → ℕ
scaled k n ws = times k ws

-- or k more than the square of its slots
abbrev pub squared : ℕ → ℕ → List ℕ → ℕ
squared k n ws = k + total ws * total ws

-- ---- charges

-- what a column adds
abbrev pub column_charge : Charge
column_charge = record { own = 1; for_slot = put_back; left = 0; executed = none; extra = none_reached; weight = column_weight }

-- what a node adds whose rows are looked up in its other slots by those of the first
abbrev pub product_charge : Charge
product_charge = record { own = 3; for_slot = put_back; left = 0; executed = all; extra = first_reached; weight = λ n ws. product ws + 10 }

-- what a node adds whose rows are those of its slots, one slot after the other
abbrev pub chunk_charge : Charge
chunk_charge = record { own = 2; for_slot = appended; left = 1; executed = all; extra = none_reached; weight = λ n ws. 3 + enlarged ws }

-- what a node adds that picks each row from one of its slots
abbrev pub interleaved_charge : Charge
interleaved_charge = record { own = 3; for_slot = put_back; left = 0; executed = all; extra = none_reached; weight = added 4 }
