-- A node, opened: its children by their roles.
use Rattle.std.specs.Prelude.{◌≡◌, ◌≤◌, length, true}
use Rattle.vx_value.specs.IsOf.{is_of}
use Rattle.vx_mask.specs.Masks.{bits_in}
use Rattle.vx_tree.specs.Natives.{values_of, ptype_of}
use Rattle.vx_tree.specs.DecimalNumbers.{numbers_of, decimal_type_of}
use Rattle.vx_tree.specs.Tree as enc
use Rattle.vx_tree.specs.Tree.{Tree, node, slots_of, dtype, len, column}
use Rattle.vx_tree.specs.Well.{IsNode, IsNodeOf, shapes}
use Rattle.vx_tree.specs.declared.array.kind.ArrayKind.{ArrayKind}
use Rattle.vx_tree.specs.declared.array.kind.ArrayKind.TheVariants as kind

-- the whole shape of the tree: a line for each encoding
abbrev pub IsKindOf : ArrayKind → Tree → Type 0
IsKindOf (kind.Constant v) t = (t ≡ enc.constant_of v.now (len t)) × (is_of v.now.of_type v.now.value ≡ true)
IsKindOf (kind.Slice c a b) t = (t ≡ enc.slice_of a b c.now) × (a ≤ b) × (b ≤ len c.now)
IsKindOf (kind.Filter c m) t = (t ≡ enc.filter_of (bits_in m.now) c.now) × (length (bits_in m.now) ≡ len c.now)
IsKindOf (kind.Masked c v) t = (t ≡ enc.masked_of c.now v.now) × IsNodeOf t
IsKindOf (kind.ScalarFnValidity c) t = t ≡ enc.validity_in c.now
IsKindOf (kind.ScalarFn f ss) t =
    (t ≡ node (dtype t) (len t) (enc.function f.now) (slots_of ss.now)) × IsNode (dtype t) (len t) (enc.function f.now) (shapes (slots_of ss.now))
IsKindOf (kind.Dict k v) t = (t ≡ enc.dict_of k.now v.now) × IsNodeOf t
IsKindOf (kind.Chunked ss) t = (t ≡ node (dtype t) (len t) enc.chunked (slots_of ss.now)) × IsNode (dtype t) (len t) enc.chunked (shapes (slots_of ss.now))
IsKindOf (kind.Interleave ss) t =
    (t ≡ node (dtype t) (len t) enc.interleave (slots_of ss.now)) × IsNode (dtype t) (len t) enc.interleave (shapes (slots_of ss.now))
IsKindOf kind.Null t = t ≡ enc.nulls_of (len t)
IsKindOf (kind.Bool bs v) t = (t ≡ column (dtype t) (len t) (enc.bool bs.now) v.now) × IsNodeOf t
IsKindOf (kind.Primitive vs v) t = (t ≡ column (dtype t) (len t) (enc.primitive (ptype_of vs.now) (values_of vs.now)) v.now) × IsNodeOf t
IsKindOf (kind.Decimal ds v) t = (t ≡ column (dtype t) (len t) (enc.decimals (decimal_type_of ds.now) (numbers_of ds.now)) v.now) × IsNodeOf t
IsKindOf (kind.VarBinView rs v) t = (t ≡ column (dtype t) (len t) (enc.views rs.now) v.now) × IsNodeOf t
IsKindOf (kind.Composed l ss) t =
    (t ≡ node (dtype t) (len t) (enc.composed l) (slots_of ss.now)) × IsNode (dtype t) (len t) (enc.composed l) (shapes (slots_of ss.now))
