-- Columns of structs: a column for each field, and a validity.
use Rattle.std.specs.Prelude.{◌≡◌, ℕ, ◌+◌, List, [], ◌∷◌, ◌++◌, take, length, Bool, true, false, ◌==◌, Option, Some, None, codes, slice_get, if◌then◌else◌}
use Rattle.std.specs.Str.{bytes_eq}
use Rattle.vx_value.specs.Types as type
use Rattle.vx_value.specs.Types.{DataType, Fields}
use Rattle.vx_value.specs.Nested.{fields_count}
use Rattle.vx_value.specs.Values.{fields, null, no_values, item}
use Rattle.vx_value.specs.Cell.{Cell, value, fault}
use Rattle.vx_value.specs.declared.dtype.Nullability.{Nullability}
use Rattle.vx_value.specs.declared.dtype.Nullability.TheVariants.{Nullable}
use Rattle.vx_value.specs.declared.error.VortexError.{VortexError}
use Rattle.vx_value.specs.declared.error.VortexError.TheVariants.{InvalidArgument}
use Rattle.vx_value.specs.declared.error.ArgKind.TheVariants.{SlotCount, BadType}
use Rattle.vx_value.specs.declared.id.Id.TheVariants as id
use Rattle.vx_tree.specs.Tree.Nodes.{Tree, Data, Slots, no_slots, absent, slot, node, composed}
use Rattle.vx_tree.specs.Conditions.{first_of_both, unless}
use Rattle.vx_tree.specs.Shapes.{Shape, shape, IsValidity}
use Rattle.vx_tree.specs.SlotCells.{valid_cell}
use Rattle.vx_tree.specs.SlotRefusals.{validity_type_refusal, validity_len_refusal}
use Rattle.vx_tree.specs.SlotShapes.{first_refusal}
use Rattle.vx_tree.specs.SlotValidities.{validity_of}
use Rattle.vx_tree.specs.Layouts.{LayoutMeaning}
use Rattle.vx_tree.specs.declared.array.layout.Layout.TheVariants as layout
use Rattle.vx_tree.specs.declared.replace.Kept.TheVariants.{Presence, Dtype, Len}

abbrev pub is_struct : Data → Bool
is_struct (composed layout.Struct) = true
is_struct _ = false

-- the slots of the fields, of n rows each
abbrev pub fields_shapes : ℕ → Fields → List (Option Shape)
fields_shapes n type.no_fields = []
fields_shapes n (type.field name t fs) = Some (shape t n) ∷ fields_shapes n fs

-- the slots of n rows: one for each field, and the validity
abbrev pub IsStruct : DataType → ℕ → List (Option Shape) → Type 0
IsStruct ty n ss = (fs : Fields) × (m : Nullability) × (v : Option Shape) × (ty ≡ type.struct fs m) × (ss ≡ fields_shapes n fs ++ v ∷ []) × IsValidity m n v

-- the shape of the slot behind the first k
abbrev pub after_fields : Fields → List (Option Shape) → Option Shape
after_fields type.no_fields (s ∷ ss) = s
after_fields (type.field name t fs) (s ∷ ss) = after_fields fs ss
after_fields fs [] = None

-- of the slots of the fields: presence, types and lengths, and those of the validity v behind them
abbrev pub fields_refusal : Fields → Nullability → ℕ → List (Option Shape) → Option Shape → Option VortexError
fields_refusal fs m n ss v =
    first_of_both (first_refusal Presence 0 (fields_shapes n fs) ss)
    (first_of_both (first_refusal Dtype 0 (fields_shapes n fs) ss)
    (first_of_both (validity_type_refusal (fields_count fs) m v)
    (first_of_both (first_refusal Len 0 (fields_shapes n fs) ss) (validity_len_refusal (fields_count fs) n v))))

-- of all slots: one for each field, and one behind them
abbrev pub struct_slots_refusal : Fields → Nullability → ℕ → List (Option Shape) → Option VortexError
struct_slots_refusal fs m n ss =
    first_of_both (unless (length ss == fields_count fs + 1) (InvalidArgument SlotCount)) (fields_refusal fs m n ss (after_fields fs ss))

-- BadType first, since the number of slots depends on the type
abbrev pub struct_refusal : DataType → ℕ → List (Option Shape) → Option VortexError
struct_refusal (type.struct fs m) n ss = struct_slots_refusal fs m n ss
struct_refusal _ n ss = Some (InvalidArgument BadType)

-- a row with a field before those that it has; a null row stays null
abbrev pub with_field : List Cell → Cell → Cell
with_field (value v ∷ []) (value (fields vs)) = value (fields (item v vs))
with_field (value v ∷ []) (value null) = value null
with_field _ _ = fault

-- a row without fields, null if the validity says so
abbrev pub without_fields : List Cell → Cell
without_fields [] = value (fields no_values)
without_fields (v ∷ vs) = valid_cell v (value (fields no_values))

-- a row, from its fields and its validity
abbrev pub struct_row : List (List Cell) → Cell
struct_row [] = fault
struct_row (v ∷ []) = without_fields v
struct_row (c ∷ d ∷ cs) = with_field c (struct_row (d ∷ cs))

-- the names of the slots: a field named `validity` has another, so that it isn't the validity's
abbrev pub field_slot_name : List ℕ → List ℕ
field_slot_name name = if bytes_eq name (codes "validity") then codes "field:validity" else name

abbrev pub struct_names : Fields → List (List ℕ)
struct_names type.no_fields = codes "validity" ∷ []
struct_names (type.field name t fs) = field_slot_name name ∷ struct_names fs

abbrev pub struct_name : DataType → ℕ → Option (List ℕ)
struct_name (type.struct fs m) i = slice_get (struct_names fs) i
struct_name _ i = None

-- the tree in the last slot, if it has one
abbrev pub last_tree : Slots → Option Tree
last_tree no_slots = None
last_tree (absent no_slots) = None
last_tree (slot t no_slots) = Some t
last_tree (absent ss) = last_tree ss
last_tree (slot t ss) = last_tree ss

abbrev pub struct_layout : LayoutMeaning
struct_layout = record {
  id = id.Struct;
  name = struct_name;
  IsNode = IsStruct;
  refusal = struct_refusal;
  row = struct_row;
  validity = λ ss child. validity_of Nullable (last_tree ss);
}
