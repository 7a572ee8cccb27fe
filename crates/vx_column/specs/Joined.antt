-- Columns of a nested type joined to one: each slot is that of the one column, or has those of all as its chunks.
use Rattle.std.specs.Prelude.{ℕ, zero, suc, ◌+◌, List, [], ◌∷◌, ◌++◌, map, replicate, sum, Bool, true, false, Option, Some, None}
use Rattle.vx_value.specs.Types as type
use Rattle.vx_value.specs.Types.{DataType, Fields}
use Rattle.vx_value.specs.Values as of
use Rattle.vx_value.specs.Cell.{Cell, value}
use Rattle.vx_tree.specs.Tree.{Tree, Slots, absent, slot, len, slots, chunked_of, nulls_of, last_tree}
use Rattle.vx_tree.specs.Cells.{rows}
use Rattle.vx_column.specs.ValueColumns.{struct_column, extension_column}

-- the tree in slot i; one without rows if there is none
abbrev pub tree_in : Slots → ℕ → Tree
tree_in (slot t ss) zero = t
tree_in (slot t ss) (suc i) = tree_in ss i
tree_in (absent ss) (suc i) = tree_in ss i
tree_in _ i = nulls_of 0

-- slot i of each column
abbrev pub slot_of_each : ℕ → List Tree → List Tree
slot_of_each i ts = map (λ t. tree_in (slots t) i) ts

-- one piece stands as itself, others are chunks
abbrev pub joined_slot : DataType → List Tree → Tree
joined_slot t (p ∷ []) = p
joined_slot t ps = chunked_of t ps

-- the fields from slot i on
abbrev pub joined_fields : ℕ → Fields → List Tree → List Tree
joined_fields i type.no_fields ts = []
joined_fields i (type.field name t fs) ts = joined_slot t (slot_of_each i ts) ∷ joined_fields (suc i) fs ts

-- whether a cell of a validity says that the row isn't null
abbrev pub says_valid : Cell → Bool
says_valid (value (of.boolean b)) = b
says_valid _ = false

-- which of n rows aren't null, by the validity
abbrev pub told_valid : ℕ → Option Tree → List Bool
told_valid n None = replicate n true
told_valid n (Some t) = map says_valid (rows t)

-- which rows of columns of structs aren't null
abbrev pub all_valid : List Tree → List Bool
all_valid [] = []
all_valid (t ∷ ts) = told_valid (len t) (last_tree (slots t)) ++ all_valid ts

-- the column of the rows of all
abbrev pub joined : DataType → List Tree → Tree
joined (type.struct fs m) ts = struct_column (type.struct fs m) (joined_fields 0 fs ts) (all_valid ts)
joined (type.extension id t) ts = extension_column (type.extension id t) (sum (map len ts)) (joined_slot t (slot_of_each 0 ts))
joined ty ts = nulls_of 0
