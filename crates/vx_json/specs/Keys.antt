-- The keys that hold trees.
use Rattle.std.specs.Prelude.{ℕ, List, codes}
use Rattle.vx_json.specs.declared.key.Key.{Key}
use Rattle.vx_json.specs.declared.key.Key.TheVariants.{Child, Args, Validity, Codes, Values, Chunks, Arrays, Rows, Fields, Storage}

abbrev pub key_text : Key → List ℕ
key_text Child = codes "child"
key_text Args = codes "args"
key_text Validity = codes "validity"
key_text Codes = codes "codes"
key_text Values = codes "values"
key_text Chunks = codes "chunks"
key_text Arrays = codes "arrays"
key_text Rows = codes "rows"
key_text Fields = codes "fields"
key_text Storage = codes "storage"
