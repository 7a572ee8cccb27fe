-- The tree that a node of the program stands for.
use Rattle.vx_value.specs.View.{type_of}
use Rattle.vx_mask.specs.Masks.{bits_in}
use Rattle.vx_tree.specs.Natives.{values_of, ptype_of}
use Rattle.vx_tree.specs.DecimalNumbers.{numbers_of, decimal_type_of}
use Rattle.vx_tree.specs.Tree as enc
use Rattle.vx_tree.specs.Tree.{Tree, node, Data, slots_of}
use Rattle.vx_tree.specs.declared.array.node.Node.{Node}
use Rattle.vx_tree.specs.declared.array.node.Encoding.{Encoding}
use Rattle.vx_tree.specs.declared.array.node.Encoding.TheVariants as encoding
use Rattle.vx_tree.specs.declared.array.layout.Layout.TheVariants as layout

abbrev pub data_of : Encoding → Data
data_of (encoding.Constant c) = enc.constant c.scalar
data_of (encoding.Slice s) = enc.slice s.range.start s.range.end
data_of (encoding.Filter f) = enc.filter (bits_in f.mask)
data_of (encoding.Masked m) = enc.masked
data_of (encoding.ScalarFnValidity v) = enc.is_valid
data_of (encoding.ScalarFn f) = enc.function f.scalar_fn
data_of (encoding.Dict d) = enc.dict
data_of (encoding.Chunked c) = enc.chunked
data_of (encoding.Interleave i) = enc.interleave
data_of (encoding.Null n) = enc.nulls
data_of (encoding.Bool b) = enc.bool b.bits
data_of (encoding.Primitive p) = enc.primitive (ptype_of p.values) (values_of p.values)
data_of (encoding.Decimal d) = enc.decimals (decimal_type_of d.values) (numbers_of d.values)
data_of (encoding.VarBinView v) = enc.views v.rows
data_of (encoding.Struct s) = enc.composed layout.Struct
data_of (encoding.Extension e) = enc.composed layout.Extension

abbrev pub tree_of : Node → Tree
tree_of n = node (type_of n.dtype) n.len (data_of n.encoding) (slots_of n.slots.items)
