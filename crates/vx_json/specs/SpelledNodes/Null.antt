-- The column of type null that an object spells.
use Rattle.std.specs.Prelude.{Option, option_map, codes}
use Rattle.serde_json.specs.Data.{Data}
use Rattle.vx_tree.specs.Tree.{Tree, nulls_of}
use Rattle.vx_json.specs.Fields.{keyed, number_at}

-- `{"enc":"null","len":n}`: n rows of type null
abbrev pub null_spelled : Data → Option Tree
null_spelled d = keyed 2 d (option_map nulls_of (number_at (codes "len") d))
