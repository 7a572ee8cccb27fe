-- The chunked array that an object spells.
use Rattle.std.specs.Prelude.{List, Option, option_and_then}
use Rattle.serde_json.specs.Data.{Data}
use Rattle.vx_value.specs.Types.{DataType}
use Rattle.vx_tree.specs.Tree.{Tree, chunked_of, chunks_refusal}
use Rattle.vx_json.specs.Fields.{keyed}
use Rattle.vx_json.specs.SpelledTypes.{column_type_at}
use Rattle.vx_json.specs.Refused.{unless_refused}

-- `{"enc":"chunked","type":T,"chunks":[{..},{..}]}`: the rows of the chunks, one chunk after the other, if each is of the type
abbrev pub chunked_with : List Tree → DataType → Option Tree
chunked_with ts ty = unless_refused (chunks_refusal ty ts) (chunked_of ty ts)

abbrev pub chunked_spelled : Data → List Tree → Option Tree
chunked_spelled d ts = keyed 3 d (option_and_then (chunked_with ts) (column_type_at d))
