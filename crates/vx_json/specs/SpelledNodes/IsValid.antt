-- The test of which rows are valid that an object spells.
use Rattle.std.specs.Prelude.{Option, Some}
use Rattle.serde_json.specs.Data.{Data}
use Rattle.vx_tree.specs.Tree.{Tree, validity_in}
use Rattle.vx_json.specs.Fields.{keyed}

-- `{"enc":"is_valid","child":{..}}`: whether each row of the child isn't null
abbrev pub is_valid_spelled : Data → Tree → Option Tree
is_valid_spelled d t = keyed 2 d (Some (validity_in t))
