-- The dictionary that an object spells.
use Rattle.std.specs.Prelude.{Option}
use Rattle.serde_json.specs.Data.{Data}
use Rattle.vx_tree.specs.Tree.{Tree, dtype, dict_of, codes_refusal}
use Rattle.vx_json.specs.Fields.{keyed}
use Rattle.vx_json.specs.Refused.{unless_refused}

-- `{"enc":"dict","codes":{..},"values":{..}}`: the values that the codes name, if these are integers
abbrev pub dict_spelled : Data → Tree → Tree → Option Tree
dict_spelled d c v = keyed 3 d (unless_refused (codes_refusal (dtype c)) (dict_of c v))
