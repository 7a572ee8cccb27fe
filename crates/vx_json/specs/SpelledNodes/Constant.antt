-- The constant that an object spells.
use Rattle.std.specs.Prelude.{Option, option_map, option_and_then, codes}
use Rattle.serde_json.specs.Data.{Data}
use Rattle.serde_json.specs.Find.{get}
use Rattle.vx_value.specs.Types.{DataType}
use Rattle.vx_value.specs.Typed.{Typed}
use Rattle.vx_tree.specs.Tree.{Tree, constant_of}
use Rattle.vx_json.specs.Fields.{keyed, number_at}
use Rattle.vx_json.specs.SpelledTypes.{column_type_at}
use Rattle.vx_json.specs.SpelledValues.{value_spelled, typed_as}

-- `{"enc":"constant","type":T,"value":v,"len":n}`: n rows of the value v
abbrev pub scalar_of : Data → DataType → Option Typed
scalar_of d ty = typed_as ty (value_spelled ty d)

abbrev pub scalar_spelled : Data → Option Typed
scalar_spelled d = option_and_then (λ v. option_and_then (scalar_of v) (column_type_at d)) (get (codes "value") d)

abbrev pub constant_spelled : Data → Option Tree
constant_spelled d = keyed 4 d (option_and_then (λ n. option_map (λ s. constant_of s n) (scalar_spelled d)) (number_at (codes "len") d))
