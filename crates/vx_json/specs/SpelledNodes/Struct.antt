-- The column of structs that an object spells.
use Rattle.std.specs.Prelude.{ℕ, ◌+◌, List, Option, option_and_then, codes}
use Rattle.serde_json.specs.Data.{Data}
use Rattle.vx_value.specs.Types.{DataType, nullability_of}
use Rattle.vx_tree.specs.Structs.{struct_of, parts_refusal}
use Rattle.vx_tree.specs.Tree.{Tree}
use Rattle.vx_tree.specs.declared.validity.Validity.{Validity}
use Rattle.vx_json.specs.Fields.{keyed, number_at}
use Rattle.vx_json.specs.Refused.{unless_refused}
use Rattle.vx_json.specs.SpelledNulls.{null_keys, validity_spelled}
use Rattle.vx_json.specs.SpelledTypes.{column_type_at}
use Rattle.vx_json.specs.declared.nulls.Nulls.{Nulls}

-- `{"enc":"struct","type":T,"len":n,"fields":[{..},{..}]}`, or with `"validity"` too: n rows of the structs whose fields are the rows of the trees, if
-- these are of the types of the fields
abbrev pub struct_by : DataType → ℕ → List Tree → Validity → Option Tree
struct_by ty n ts v = unless_refused (parts_refusal ty n ts v) (struct_of ty n ts v)

abbrev pub struct_with : ℕ → List Tree → Nulls → DataType → Option Tree
struct_with n ts nulls ty = option_and_then (struct_by ty n ts) (validity_spelled (nullability_of ty) n nulls)

abbrev pub struct_spelled : Data → List Tree → Nulls → Option Tree
struct_spelled d ts nulls =
    keyed (4 + null_keys nulls) d (option_and_then (λ n. option_and_then (struct_with n ts nulls) (column_type_at d)) (number_at (codes "len") d))
