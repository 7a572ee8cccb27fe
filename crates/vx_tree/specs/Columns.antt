-- What a column is.
use Rattle.std.specs.Prelude.{◌≡◌, ◌⊎◌, ◌≤◌, ℕ, List, [], length, replicate, slice_range, None, true}
use Rattle.vx_value.specs.Types as type
use Rattle.vx_value.specs.Types.{DataType, Fields}
use Rattle.vx_value.specs.Values.{Value}
use Rattle.vx_value.specs.Cell.{Cell, value}
use Rattle.vx_value.specs.Decimals.{smallest_width}
use Rattle.vx_value.specs.Storage.{storage_of}
use Rattle.vx_value.specs.declared.dtype.Storage.{Storage}
use Rattle.vx_value.specs.declared.dtype.Storage.TheVariants.{Nulls, Integers, Decimals, Text, Bytes}
use Rattle.vx_value.specs.declared.id.Id.{Id}
use Rattle.vx_value.specs.declared.id.Id.TheVariants as id
use Rattle.vx_tree.specs.Tree as enc
use Rattle.vx_tree.specs.Tree.{Tree, Data, node, Slots, no_slots, absent, slot, column, nulls_of, dtype, datum, id_of, is_canonical}
use Rattle.vx_tree.specs.declared.array.layout.Layout.TheVariants as layout
use Rattle.vx_tree.specs.Cells.{rows}
use Rattle.vx_tree.specs.Cost.{cost}
use Rattle.vx_tree.specs.Views.{packed, viewed_range}

-- the canonical encoding of a type, by how its values are stored
abbrev pub stored_id : Storage → Id
stored_id Nulls = id.Null
stored_id (Integers p) = id.Primitive
stored_id (Decimals p s) = id.Decimal
stored_id Text = id.VarBinView
stored_id Bytes = id.VarBinView
stored_id _ = id.Bool

abbrev pub canonical_id : DataType → Id
canonical_id (type.struct fs m) = id.Struct
canonical_id (type.extension i t) = id.Extension
canonical_id ty = stored_id (storage_of ty)

-- a column of these cells may have the encoding i: the type's canonical one, or constant if all rows are one value
abbrev pub IsLawful : Id → DataType → List Cell → Type 0
IsLawful i ty cells = (i ≡ canonical_id ty) ⊎ ((i ≡ id.Constant) × (v : Value) × (cells ≡ replicate (length cells) (value v)))

-- what every column is: its encoding is lawful, and at most one turn is left, or two for a constant
pub record IsColumn (t : Tree) : Type 0 where
  pub lawful : IsLawful (id_of (datum t)) (dtype t) (rows t)
  pub settled : cost t ≤ 2
  pub canonical_settled : is_canonical (datum t) ≡ true → cost t ≡ 1

-- the data of a column without rows, by how its values are stored
abbrev pub no_rows : Storage → Data
no_rows (Integers p) = enc.primitive p []
no_rows (Decimals p s) = enc.decimals (smallest_width p) []
no_rows Text = enc.views (packed [])
no_rows Bytes = enc.views (packed [])
no_rows _ = enc.bool []

abbrev pub empty_stored : Storage → DataType → Tree
empty_stored Nulls ty = nulls_of 0
empty_stored s ty = column ty 0 (no_rows s) None

abbrev mutual
  pub empty_of : DataType → Tree
  empty_of (type.struct fs m) = node (type.struct fs m) 0 (enc.composed layout.Struct) (empty_fields fs)
  empty_of (type.extension i t) = node (type.extension i t) 0 (enc.composed layout.Extension) (slot (empty_of t) no_slots)
  empty_of ty = empty_stored (storage_of ty) ty

  -- the slots of a struct without rows, whose validity is absent
  pub empty_fields : Fields → Slots
  empty_fields type.no_fields = absent no_slots
  empty_fields (type.field name t fs) = slot (empty_of t) (empty_fields fs)

-- ---- data that hold their rows themselves: a line for each such encoding

-- how many rows there are
abbrev pub count_in : Data → ℕ
count_in (enc.bool bs) = length bs
count_in (enc.primitive p zs) = length zs
count_in (enc.decimals w zs) = length zs
count_in (enc.views rs) = length rs.views
count_in d = 0

-- the rows from a, inclusive, to b, exclusive
abbrev pub data_range : ℕ → ℕ → Data → Data
data_range a b (enc.bool bs) = enc.bool (slice_range bs a b)
data_range a b (enc.primitive p zs) = enc.primitive p (slice_range zs a b)
data_range a b (enc.decimals w zs) = enc.decimals w (slice_range zs a b)
data_range a b (enc.views rs) = enc.views (viewed_range a b rs)
data_range a b d = d
