-- The trees that borrowed columns stand for.
use Rattle.vx_tree.specs.Tree.{Tree}
use Rattle.vx_tree.specs.declared.canonical.borrowed.CanonicalView.{CanonicalView}
use Rattle.vx_tree.specs.declared.canonical.borrowed.CanonicalView.TheVariants.{Null, Bool, Primitive, Decimal, VarBinView, Struct, Extension}
use Rattle.vx_tree.specs.declared.canonical.borrowed.ColumnarView.{ColumnarView}
use Rattle.vx_tree.specs.declared.canonical.borrowed.ColumnarView.TheVariants as columnar

abbrev pub canonical_view_tree : CanonicalView → Tree
canonical_view_tree (Null v) = v.array.now
canonical_view_tree (Bool v) = v.array.now
canonical_view_tree (Primitive v) = v.array.now
canonical_view_tree (Decimal v) = v.array.now
canonical_view_tree (VarBinView v) = v.array.now
canonical_view_tree (Struct v) = v.array.now
canonical_view_tree (Extension v) = v.array.now

abbrev pub columnar_view_tree : ColumnarView → Tree
columnar_view_tree (columnar.Canonical v) = canonical_view_tree v
columnar_view_tree (columnar.Constant v) = v.array.now
