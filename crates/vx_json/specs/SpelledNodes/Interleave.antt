-- The interleaved array that an object spells.
use Rattle.std.specs.Prelude.{List, Option}
use Rattle.serde_json.specs.Data.{Data}
use Rattle.vx_tree.specs.Tree.{Tree, interleave_of, interleaved_refusal}
use Rattle.vx_json.specs.Fields.{keyed}
use Rattle.vx_json.specs.Refused.{unless_refused}

-- `{"enc":"interleave","arrays":{..},"rows":{..},"values":[{..},{..}]}`: the rows that the pairs of indices name, if the trees can be interleaved
abbrev pub interleave_spelled : Data → Tree → Tree → List Tree → Option Tree
interleave_spelled d a r ts = keyed 4 d (unless_refused (interleaved_refusal a r ts) (interleave_of a r ts))
