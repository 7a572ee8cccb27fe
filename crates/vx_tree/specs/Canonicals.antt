-- The trees that the columns of the program stand for.
use Rattle.std.specs.Prelude.{Option, Some, None, if◌then◌else◌}
use Rattle.vx_value.specs.Ids.{same_id}
use Rattle.vx_value.specs.declared.id.Id.{Id}
use Rattle.vx_value.specs.declared.id.Id.TheVariants as id
use Rattle.vx_tree.specs.Tree.{Tree}
use Rattle.vx_tree.specs.declared.canonical.canonical.Canonical.{Canonical}
use Rattle.vx_tree.specs.declared.canonical.canonical.Canonical.TheVariants.{Null, Bool, Primitive, Decimal, VarBinView, Struct, Extension}
use Rattle.vx_tree.specs.declared.canonical.columnar.Columnar.{Columnar}
use Rattle.vx_tree.specs.declared.canonical.columnar.Columnar.TheVariants as columnar

abbrev pub canonical_tree : Canonical → Tree
canonical_tree (Null t) = t
canonical_tree (Bool t) = t
canonical_tree (Primitive t) = t
canonical_tree (Decimal t) = t
canonical_tree (VarBinView t) = t
canonical_tree (Struct t) = t
canonical_tree (Extension t) = t

-- its encoding
abbrev pub encoding_in : Canonical → Id
encoding_in (Null t) = id.Null
encoding_in (Bool t) = id.Bool
encoding_in (Primitive t) = id.Primitive
encoding_in (Decimal t) = id.Decimal
encoding_in (VarBinView t) = id.VarBinView
encoding_in (Struct t) = id.Struct
encoding_in (Extension t) = id.Extension

-- the column, if it has this encoding; then a line for each encoding
abbrev pub column_of : Id → Canonical → Option Tree
column_of i c = if same_id (encoding_in c) i then Some (canonical_tree c) else None

abbrev pub null_column : Canonical → Option Tree
null_column = column_of id.Null

abbrev pub bool_column : Canonical → Option Tree
bool_column = column_of id.Bool

abbrev pub primitive_column : Canonical → Option Tree
primitive_column = column_of id.Primitive

abbrev pub decimal_column : Canonical → Option Tree
decimal_column = column_of id.Decimal

abbrev pub varbinview_column : Canonical → Option Tree
varbinview_column = column_of id.VarBinView

abbrev pub struct_column : Canonical → Option Tree
struct_column = column_of id.Struct

abbrev pub extension_column : Canonical → Option Tree
extension_column = column_of id.Extension

abbrev pub columnar_tree : Columnar → Tree
columnar_tree (columnar.Canonical c) = canonical_tree c
columnar_tree (columnar.Constant t) = t
