-- Columns of structs, made of a column for each field and a validity.
use Rattle.std.specs.Prelude.{ℕ, List, [], ◌∷◌, ◌++◌, map, ◌&&◌, Option, Some}
use Rattle.vx_value.specs.Types.{DataType, nullability_of, same_nullability}
use Rattle.vx_value.specs.Supported.{has_columns}
use Rattle.vx_value.specs.declared.error.VortexError.{VortexError}
use Rattle.vx_value.specs.declared.error.VortexError.TheVariants.{InvalidArgument}
use Rattle.vx_value.specs.declared.error.ArgKind.TheVariants.{BadType}
use Rattle.vx_tree.specs.Tree.{Tree, node, composed, slots_of, struct_refusal}
use Rattle.vx_tree.specs.Conditions.{first_of_both, unless}
use Rattle.vx_tree.specs.Well.{shapes}
use Rattle.vx_tree.specs.Validities.{nullability_by, child_of}
use Rattle.vx_tree.specs.declared.array.layout.Layout.TheVariants as layout
use Rattle.vx_tree.specs.declared.validity.Validity.{Validity}

-- the slots: those of the fields, and that of the validity
abbrev pub struct_slots : ℕ → List Tree → Validity → List (Option Tree)
struct_slots n ts v = map Some ts ++ child_of v n ∷ []

-- n structs of the type, a tree for each field
abbrev pub struct_of : DataType → ℕ → List Tree → Validity → Tree
struct_of ty n ts v = node ty n (composed layout.Struct) (slots_of (struct_slots n ts v))

-- why they aren't a column of the type
abbrev pub parts_refusal : DataType → ℕ → List Tree → Validity → Option VortexError
parts_refusal ty n ts v =
    first_of_both (unless (same_nullability (nullability_of ty) (nullability_by v) && has_columns ty) (InvalidArgument BadType))
    (struct_refusal ty n (shapes (slots_of (struct_slots n ts v))))
