-- The first condition of a node that fails: slots, types, lengths, ranges, in this order.
use Rattle.std.specs.Prelude.{ℕ, List, [], ◌∷◌, Bool, true, ◌==◌, Option, Some, None, is_some}
use Rattle.vx_value.specs.Types.{DataType}
use Rattle.vx_value.specs.declared.error.VortexError.{VortexError}
use Rattle.vx_value.specs.declared.id.Id.{Id}
use Rattle.vx_tree.specs.Tree.{Tree, Data, dtype, len, meaning}
use Rattle.vx_tree.specs.Shapes.{Shape}
pub use Rattle.vx_tree.specs.SlotRefusals.{validity_type_refusal, validity_len_refusal, column_refusal, tested_refusal, without_slots, of_child}

-- of one slot: its type, whether it holds a tree, and whether that has n rows
abbrev pub type_in : Option Tree → List DataType
type_in None = []
type_in (Some t) = dtype t ∷ []

abbrev pub is_present : Option Tree → Bool
is_present = is_some

abbrev pub is_long : ℕ → Option Tree → Bool
is_long n None = true
is_long n (Some t) = len t == n

-- why no node of these parts is made under the id, None if one is
abbrev pub refusal : Id → DataType → ℕ → Data → List (Option Shape) → Option VortexError
refusal i ty n d ss = (meaning d).refusal i ty n ss
