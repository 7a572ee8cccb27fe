-- A field of a struct, by its name.
use Rattle.std.specs.Prelude.{ℕ, zero, suc, List, [], ◌∷◌, Option, Some, None, codes}
use Rattle.vx_value.specs.Types.{DataType, struct}
use Rattle.vx_value.specs.Nested.{field_type, field_place}
use Rattle.vx_value.specs.Values.{Value, Values, no_values, item, fields}
use Rattle.vx_value.specs.Cell.{Cell, value, fault}
use Rattle.vx_value.specs.declared.id.Id.TheVariants as id
use Rattle.vx_fn.specs.Arity.{of_one}
use Rattle.vx_fn.specs.ArityLaws.{on_one}
use Rattle.vx_fn.specs.Meanings.{Meaning, widened, null_through}

-- the type of the field of this name; None if there is none
abbrev pub item_type : List ℕ → DataType → Option DataType
item_type name (struct fs n) = field_type name fs
item_type name _ = None

-- the value at a place, from 0
abbrev pub value_at : ℕ → Values → Cell
value_at place no_values = fault
value_at zero (item v vs) = value v
value_at (suc place) (item v vs) = value_at place vs

abbrev pub value_at_place : Option ℕ → Values → Cell
value_at_place (Some place) vs = value_at place vs
value_at_place None vs = fault

-- the field of this name of a struct of this type
abbrev pub item_of : List ℕ → DataType → Value → Cell
item_of name (struct fs n) (fields vs) = value_at_place (field_place name fs) vs
item_of name _ _ = fault

-- the same, by the types of all arguments
abbrev pub item_by : List ℕ → List DataType → Value → Cell
item_by name (t ∷ []) v = item_of name t v
item_by name _ v = fault

abbrev pub get_item : List ℕ → Meaning
get_item name = record {
  id = id.GetItem;
  names = codes "input" ∷ [];
  types = of_one widened None (item_type name);
  value = λ tys ty. of_one null_through fault (item_by name tys);
  taken = on_one widened (item_type name);
}
