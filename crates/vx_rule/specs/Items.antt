-- Fields of trees.
use Rattle.std.specs.Prelude.{◌≡◌, List, [], ◌∷◌, ℕ, Some, true}
use Rattle.vx_value.specs.Types.{DataType, Fields, struct, nullability_of}
use Rattle.vx_value.specs.Supported.{has_columns}
use Rattle.vx_fn.specs.ReturnTypes.{return_type}
use Rattle.vx_fn.specs.declared.function.ScalarFnRef.TheVariants as fn_of
use Rattle.vx_tree.specs.Tree.{Tree, dtype, len, slots}
use Rattle.vx_rule.specs.Rules.{item_node, field_in}

-- the tree is a struct with a field of this name, whose type has columns
abbrev pub HasItem : List ℕ → Tree → Type 0
HasItem name c = (s : DataType) × (return_type (fn_of.GetItem name) (dtype c ∷ []) ≡ Some s) × (has_columns s ≡ true)

-- t is the node of that field
abbrev pub IsItem : List ℕ → Tree → Tree → Type 0
IsItem name c t = (return_type (fn_of.GetItem name) (dtype c ∷ []) ≡ Some (dtype t)) × (t ≡ item_node name (dtype t) (len c) c)

-- c is the column of the field of this name of t, a column of structs
abbrev pub IsFieldColumn : List ℕ → Tree → Tree → Type 0
IsFieldColumn name t c = (fs : Fields) × (dtype t ≡ struct fs (nullability_of (dtype t))) × (field_in name fs (slots t) ≡ Some c)
