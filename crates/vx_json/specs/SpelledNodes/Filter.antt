-- The filter that an object spells.
use Rattle.std.specs.Prelude.{◌==◌, List, length, Bool, if◌then◌else◌, Option, Some, None, option_and_then, codes}
use Rattle.serde_json.specs.Data.{Data}
use Rattle.serde_json.specs.Find.{as_bool}
use Rattle.vx_tree.specs.Tree.{Tree, filter_of, len}
use Rattle.vx_json.specs.Fields.{keyed, items_at}
use Rattle.vx_json.specs.SpelledValues.{all_read}

-- `{"enc":"filter","mask":[true,false],"child":{..}}`: the rows of the child at the true bits of the mask
abbrev pub filter_within : Tree → List Bool → Option Tree
filter_within t bits = if length bits == len t then Some (filter_of bits t) else None

abbrev pub filter_spelled : Data → Tree → Option Tree
filter_spelled d t = keyed 3 d (option_and_then (filter_within t) (option_and_then (all_read as_bool) (items_at (codes "mask") d)))
