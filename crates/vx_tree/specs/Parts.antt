-- Rows of a slot's tree, chosen with its parent's: a constant stays a constant, and anything else becomes a lazy slice or filter.
use Rattle.std.specs.Prelude.{◌≡◌, ℕ, ◌-◌, List, Bool, Option, Some, None}
use Rattle.vx_mask.specs.Places.{true_count}
use Rattle.vx_tree.specs.Tree.{Tree, Data, node, constant, datum, len, constant_of, slice_of, filter_of}
use Rattle.vx_tree.specs.Slots.{map_slots}
use Rattle.vx_tree.specs.Columns.{data_range}

abbrev pub part_by : Data → ℕ → ℕ → Tree → Tree
part_by (constant v) a b t = constant_of v (b - a)
part_by _ a b t = slice_of a b t

-- the rows of t from a, inclusive, to b, exclusive
abbrev pub part_of : ℕ → ℕ → Tree → Tree
part_of a b t = part_by (datum t) a b t

abbrev pub choice_by : Data → List Bool → Tree → Tree
choice_by (constant v) bits t = constant_of v (true_count bits)
choice_by _ bits t = filter_of bits t

-- the rows of t at the true bits
abbrev pub choice_of : List Bool → Tree → Tree
choice_of bits t = choice_by (datum t) bits t

-- the tree, if there is one, has n rows
abbrev pub HasLen : ℕ → Option Tree → Type 0
HasLen n None = Unit {0}
HasLen n (Some t) = n ≡ len t

-- the rows of a canonical column from a, inclusive, to b, exclusive
abbrev pub column_range : ℕ → ℕ → Tree → Tree
column_range a b (node ty n d ss) = node ty (b - a) (data_range a b d) (map_slots (part_of a b) ss)
