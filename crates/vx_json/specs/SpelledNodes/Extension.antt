-- The column of an extension type that an object spells.
use Rattle.std.specs.Prelude.{ℕ, List, Option, option_and_then, codes}
use Rattle.serde_json.specs.Data.{Data}
use Rattle.vx_tree.specs.Tree.{Tree, extension_of, id_refusal}
use Rattle.vx_json.specs.Fields.{keyed, text_at}
use Rattle.vx_json.specs.Refused.{unless_refused}

-- `{"enc":"ext","id":"..","storage":{..}}`: the rows of the storage, of the extension with this id, which isn't empty
abbrev pub extension_by : Tree → List ℕ → Option Tree
extension_by t id = unless_refused (id_refusal id) (extension_of id t)

abbrev pub extension_spelled : Data → Tree → Option Tree
extension_spelled d t = keyed 3 d (option_and_then (extension_by t) (text_at (codes "id") d))
