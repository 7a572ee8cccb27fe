-- The masked array that an object spells.
use Rattle.std.specs.Prelude.{◌+◌, Option, option_map}
use Rattle.serde_json.specs.Data.{Data}
use Rattle.vx_value.specs.declared.dtype.Nullability.TheVariants.{Nullable}
use Rattle.vx_tree.specs.Tree.{Tree, masked_of, len}
use Rattle.vx_tree.specs.Validities.{child_of}
use Rattle.vx_json.specs.Fields.{keyed}
use Rattle.vx_json.specs.SpelledNulls.{null_keys, validity_spelled}
use Rattle.vx_json.specs.declared.nulls.Nulls.{Nulls}

-- `{"enc":"masked","child":{..}}`, or with `"validity"` too: the rows of the child, null where the validity says so
abbrev pub masked_spelled : Data → Tree → Nulls → Option Tree
masked_spelled d t nulls =
    keyed (2 + null_keys nulls) d (option_map (λ v. masked_of t (child_of v (len t))) (validity_spelled Nullable (len t) nulls))
