-- The texts of the ids of encodings and functions.
use Rattle.std.specs.Prelude.{◌≡◌, ℕ, List, codes}
use Rattle.std.specs.Prelude as prelude
use Rattle.std.specs.Bool.{Decides}
use denote.Enum.Bare.{sameb, same_true, true_same}
use Rattle.vx_value.specs.declared.id.Id.{Id}
use Rattle.vx_value.specs.declared.id.Id.TheVariants as id
use Rattle.vx_value.specs.contracts.id.Id.{the_type as the_id}

abbrev pub id_text : Id → List ℕ
id_text id.Constant = codes "vortex.constant"
id_text id.Slice = codes "vortex.slice"
id_text id.Filter = codes "vortex.filter"
id_text id.Masked = codes "vortex.masked"
id_text id.ScalarFnValidity = codes "vortex.scalar_fn_validity"
id_text id.Dict = codes "vortex.dict"
id_text id.Chunked = codes "vortex.chunked"
id_text id.Interleave = codes "vortex.interleave"
id_text id.Binary = codes "vortex.binary"
id_text id.Between = codes "vortex.between"
id_text id.Not = codes "vortex.not"
id_text id.Mask = codes "vortex.mask"
id_text id.Zip = codes "vortex.zip"
id_text id.FillNull = codes "vortex.fill_null"
id_text id.IsNull = codes "vortex.is_null"
id_text id.IsNotNull = codes "vortex.is_not_null"
id_text id.GetItem = codes "vortex.get_item"
id_text id.Pack = codes "vortex.pack"
id_text id.ListContains = codes "vortex.list.contains"
id_text id.PreparedSet = codes "vortex.prepared_set"
id_text id.Cast = codes "vortex.cast"
id_text id.Null = codes "vortex.null"
id_text id.Bool = codes "vortex.bool"
id_text id.Primitive = codes "vortex.primitive"
id_text id.Decimal = codes "vortex.decimal"
id_text id.VarBinView = codes "vortex.varbinview"
id_text id.ListView = codes "vortex.listview"
id_text id.Map = codes "vortex.map"
id_text id.FixedSizeList = codes "vortex.fixed_size_list"
id_text id.Struct = codes "vortex.struct"
id_text id.Union = codes "vortex.union"
id_text id.Extension = codes "vortex.ext"
id_text id.Variant = codes "vortex.variant"

-- no id has this text
abbrev pub IsNoId : List ℕ → Type 0
IsNoId text = (id : Id) → ¬ (id_text id ≡ text)

-- ---- whether two ids are the same, by the numbers of the variants

abbrev pub same_id : Id → Id → prelude.Bool
same_id = sameb the_id

pub same_id_Decides : (i j : Id) → Decides (same_id i j) (i ≡ j)
same_id_Decides i j = (same_true the_id tt i j, true_same the_id i j)
