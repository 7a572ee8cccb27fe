-- The column of values: one for each part of them, if their type is nested.
use Rattle.std.specs.Prelude.{◌≡◌, ℕ, zero, suc, List, [], ◌∷◌, ◌++◌, length, map, Bool, not, Some}
use Rattle.std.specs.List.{All}
use Rattle.vx_value.specs.Types as type
use Rattle.vx_value.specs.Types.{DataType, Fields}
use Rattle.vx_value.specs.Values.{Value, fields, item}
use Rattle.vx_value.specs.Typed.{Typed}
use Rattle.vx_value.specs.Defaults.{default_of}
use Rattle.vx_value.specs.IsOf.{is_null}
use Rattle.vx_value.specs.Storage.{storage_of}
use Rattle.vx_tree.specs.Tree.{Tree, node, composed, slot, no_slots, slots_of}
use Rattle.vx_tree.specs.Validities.{child_by}
use Rattle.vx_tree.specs.declared.array.layout.Layout.TheVariants.{Struct, Extension}
use Rattle.vx_column.specs.Built.{built_stored}

-- the first field of a struct; the default value of its type if the struct is null
abbrev pub first_part : DataType → Value → Value
first_part t (fields (item v vs)) = v
first_part t _ = default_of t

-- the struct of the other fields; a null stays null
abbrev pub other_parts : Value → Value
other_parts (fields (item v vs)) = fields vs
other_parts v = v

-- which of the values aren't null
abbrev pub present : List Value → List Bool
present vs = map (λ v. not (is_null v)) vs

-- the values of field i of structs
abbrev pub field_values : ℕ → Fields → List Value → List Value
field_values i type.no_fields vs = []
field_values zero (type.field name t fs) vs = map (first_part t) vs
field_values (suc i) (type.field name t fs) vs = field_values i fs (map other_parts vs)

-- all scalars are of the type, and their values
abbrev pub AreOf : DataType → List Typed → Type 0
AreOf ty ss = All (λ s. s.of_type ≡ ty) ss

abbrev pub values_of : List Typed → List Value
values_of ss = map (λ s. s.value) ss

-- the column of structs of the type with these columns of fields, valid where a bit is true
abbrev pub struct_column : DataType → List Tree → List Bool → Tree
struct_column ty ts bits = node ty (length bits) (composed Struct) (slots_of (map Some ts ++ child_by bits ∷ []))

-- n values of an extension type, which are stored as those of t
abbrev pub extension_column : DataType → ℕ → Tree → Tree
extension_column ty n t = node ty n (composed Extension) (slot t no_slots)

abbrev mutual
  pub column_of : DataType → List Value → Tree
  column_of (type.struct fs m) vs = struct_column (type.struct fs m) (field_columns fs vs) (present vs)
  column_of (type.extension id t) vs = extension_column (type.extension id t) (length vs) (column_of t vs)
  column_of ty vs = built_stored (storage_of ty) ty vs

  pub field_columns : Fields → List Value → List Tree
  field_columns type.no_fields vs = []
  field_columns (type.field name t fs) vs = column_of t (map (first_part t) vs) ∷ field_columns fs (map other_parts vs)
