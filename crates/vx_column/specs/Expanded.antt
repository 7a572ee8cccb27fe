-- The canonical column of a constant.
use Rattle.std.specs.Prelude.{ℕ, zero, suc, pos, [], map, replicate, false, unwrap_or, if◌then◌else◌}
use Rattle.vx_value.specs.Types as type
use Rattle.vx_value.specs.Types.{DataType, nullability_of}
use Rattle.vx_value.specs.Values.{Value}
use Rattle.vx_value.specs.Typed.{Typed}
use Rattle.vx_value.specs.IsOf.{is_null}
use Rattle.vx_value.specs.Parts.{boolean_in, integer_in, bytes_in}
use Rattle.vx_value.specs.ScalarParts.{fields_in}
use Rattle.vx_value.specs.Storage.{storage_of}
use Rattle.vx_value.specs.Decimals.{smallest_width}
use Rattle.vx_value.specs.declared.dtype.Storage.{Storage}
use Rattle.vx_value.specs.declared.dtype.Storage.TheVariants.{Nulls, Integers, Decimals, Text, Bytes}
use Rattle.vx_tree.specs.Tree.{Tree, node, no_slots, slot, constant, composed, constant_of, nulls_of}
use Rattle.vx_tree.specs.Columns.{empty_of}
use Rattle.vx_tree.specs.Structs.{struct_of}
use Rattle.vx_tree.specs.declared.array.layout.Layout.TheVariants.{Extension}
use Rattle.vx_tree.specs.Validities.{without_nulls}
use Rattle.vx_tree.specs.declared.validity.Validity.{Validity}
use Rattle.vx_tree.specs.declared.validity.Validity.TheVariants.{AllInvalid}
use Rattle.vx_column.specs.Arguments.{unscaled_of}
use Rattle.vx_column.specs.Stored.{boolean_column, integer_column, scaled_column, bytes_column}
use Rattle.vx_tree.specs.Views.{repeated}

-- every row is null if the value is, else none
abbrev pub repeated_validity : Typed → Validity
repeated_validity s = if is_null s.value then AllInvalid else without_nulls (nullability_of s.of_type)

-- n rows of the scalar of a type that isn't nested, by how its values are stored; under null stand false, 0 or no bytes
abbrev pub expanded_stored : Storage → Typed → ℕ → Tree
expanded_stored Nulls s n = nulls_of n
expanded_stored (Integers p) s n = integer_column p (replicate n (unwrap_or (integer_in s.value) (pos 0))) (repeated_validity s)
expanded_stored (Decimals p k) s n = scaled_column p k (smallest_width p) (replicate n (unscaled_of s.value)) (repeated_validity s)
expanded_stored Text s n = bytes_column Text (repeated n (unwrap_or (bytes_in s.value) [])) (repeated_validity s)
expanded_stored Bytes s n = bytes_column Bytes (repeated n (unwrap_or (bytes_in s.value) [])) (repeated_validity s)
expanded_stored _ s n = boolean_column (replicate n (unwrap_or (boolean_in s.value) false)) (repeated_validity s)

-- n rows of a struct: a constant for each field, and the validity
abbrev pub struct_expanded : Typed → ℕ → Tree
struct_expanded s n = struct_of s.of_type n (map (λ f. constant_of f n) (fields_in s)) (repeated_validity s)

-- n rows of a value of the type; those of an extension are stored as those of its storage
abbrev pub expanded_value : DataType → Value → ℕ → Tree
expanded_value (type.struct fs m) v n = struct_expanded (record { of_type = type.struct fs m; value = v }) n
expanded_value (type.extension id t) v n = node (type.extension id t) n (composed Extension) (slot (expanded_value t v n) no_slots)
expanded_value ty v n = expanded_stored (storage_of ty) (record { of_type = ty; value = v }) n

-- n rows of the scalar; without rows, the empty column of its type
abbrev pub expanded : Typed → ℕ → Tree
expanded s zero = empty_of s.of_type
expanded s (suc n) = expanded_value s.of_type s.value (suc n)

-- the canonical column of a constant; any other tree is itself
abbrev pub expansion : Tree → Tree
expansion (node ty n (constant s) ss) = expanded s n
expansion t = t
