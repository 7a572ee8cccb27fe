-- Which rows are null, as `validity` spells it.
use Rattle.std.specs.Prelude.{ℕ, Bool, false, ◌&&◌, ◌==◌, if◌then◌else◌, Option, Some, None, option_map, codes}
use Rattle.serde_json.specs.Data.{Data, boolean}
use Rattle.serde_json.specs.Find.{get}
use Rattle.vx_value.specs.Types as type
use Rattle.vx_value.specs.Types.{same_type}
use Rattle.vx_value.specs.declared.dtype.Nullability.{Nullability}
use Rattle.vx_value.specs.declared.dtype.Nullability.TheVariants.{NonNullable, Nullable}
use Rattle.vx_tree.specs.Tree.{Tree, dtype, len}
use Rattle.vx_tree.specs.Validities.{without_nulls, validity_of}
use Rattle.vx_tree.specs.declared.validity.Validity.{Validity}
use Rattle.vx_tree.specs.declared.validity.Validity.TheVariants as validity
use Rattle.vx_json.specs.declared.nulls.Nulls.{Nulls}
use Rattle.vx_json.specs.declared.nulls.Nulls.TheVariants.{Absent, EveryRow, Told}

-- the null rows, from what is under `validity` and the tree that it spells: none without the key, every row for `false`
abbrev pub nulls_spelled : Option Data → Option Tree → Option Nulls
nulls_spelled None tree = Some Absent
nulls_spelled (Some (boolean false)) tree = Some EveryRow
nulls_spelled (Some d) tree = option_map Told tree

abbrev pub nulls_at : Data → Option Tree → Option Nulls
nulls_at d = nulls_spelled (get (codes "validity") d)

-- the number of keys that spell them
abbrev pub null_keys : Nulls → ℕ
null_keys Absent = 0
null_keys _ = 1

-- the tree can say which of n rows are null: it has n rows, of non-nullable booleans
abbrev pub is_validity_tree : ℕ → Tree → Bool
is_validity_tree n t = same_type (dtype t) (type.bool NonNullable) && (len t == n)

-- the validity of n rows: only a nullable type may have the key, and a constant tree is read back
abbrev pub validity_spelled : Nullability → ℕ → Nulls → Option Validity
validity_spelled m n Absent = Some (without_nulls m)
validity_spelled NonNullable n nulls = None
validity_spelled Nullable n EveryRow = Some validity.AllInvalid
validity_spelled Nullable n (Told t) = if is_validity_tree n t then Some (validity_of Nullable (Some t)) else None
