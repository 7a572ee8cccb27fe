-- Trees, and the meaning of each encoding: a file for each.
pub mod Nodes
pub mod Constant
pub mod Slice
pub mod Filter
pub mod Masked
pub mod ScalarFnValidity
pub mod ScalarFn
pub mod Dict
pub mod Chunked
pub mod Interleave
pub mod Null
pub mod Bool
pub mod Primitive
pub mod Decimal
pub mod VarBinView
pub mod Struct
pub mod Extension
pub mod Composed
use Rattle.std.specs.Prelude as prelude
use Rattle.std.specs.Prelude.{◌||◌}
use Rattle.vx_value.specs.declared.id.Id.{Id}
use Rattle.vx_tree.specs.Meanings.{Meaning}
pub use Rattle.vx_tree.specs.Tree.Nodes.{Data, Tree, node, Slots, no_slots, absent, slot, slots_of, filled_slots, column, dtype, len, datum, slots}
pub use Rattle.vx_tree.specs.Tree.Nodes.{height, slots_height, coded_data, coded_tree}
pub use Rattle.vx_tree.specs.Tree.Constant.{constant, constant_of, is_constant, constant_refusal, constant_validity, constant_meaning}
pub use Rattle.vx_tree.specs.Tree.Slice.{slice, slice_of, is_slice, slice_refusal, slice_meaning}
pub use Rattle.vx_tree.specs.Tree.Filter.{filter, filter_of, is_filter, filter_refusal, filter_meaning}
pub use Rattle.vx_tree.specs.Tree.Masked.{masked, masked_of, is_masked, IsMasked, mask_refusal, masked_refusal, both_of, joined, masked_meaning}
pub use Rattle.vx_tree.specs.Tree.ScalarFnValidity.{is_valid, validity_in, is_validity, validity_refusal, validity_meaning}
pub use Rattle.vx_tree.specs.Tree.ScalarFn.{function, call_of, is_function, lets_below, all_present, all_long, arity_refusal, result_refusal, slots_refusal}
pub use Rattle.vx_tree.specs.Shapes.{types_in}
pub use Rattle.vx_tree.specs.Tree.ScalarFn.{types_refusal, lengths_refusal, function_refusal, function_meaning}
pub use Rattle.vx_tree.specs.Tree.Dict.{dict, dict_of, is_dict, codes_refusal, named_refusal, pair_refusal, dict_refusal, IsDict, dict_meaning}
pub use Rattle.vx_tree.specs.Tree.Chunked.{chunked, chunked_of, is_chunked, joined_refusal, chunks_refusal, chunked_refusal, IsChunked, chunked_meaning}
pub use Rattle.vx_tree.specs.Tree.Interleave.{interleave, first_type, interleave_of, is_interleave, index_refusal, indices_refusal, present_refusal, interleave_refusal}
pub use Rattle.vx_tree.specs.Tree.Interleave.{interleaved_refusal, IsInterleave, interleave_name, interleave_meaning}
pub use Rattle.vx_tree.specs.Tree.Null.{nulls, nulls_of, is_nulls, nulls_refusal, nulls_meaning}
pub use Rattle.vx_tree.specs.Tree.Bool.{bool, booleans, is_bool, bool_meaning}
pub use Rattle.vx_tree.specs.Tree.Primitive.{primitive, integers, is_primitive, primitive_meaning}
pub use Rattle.vx_tree.specs.Tree.Decimal.{decimals, is_decimals, decimals_meaning}
pub use Rattle.vx_tree.specs.Tree.VarBinView.{views, is_views, views_meaning}
pub use Rattle.vx_tree.specs.Tree.Struct.{is_struct, IsStruct, fields_shapes, after_fields, fields_refusal, struct_slots_refusal, struct_refusal, with_field, without_fields, struct_row}
pub use Rattle.vx_tree.specs.Tree.Struct.{field_slot_name, struct_names, struct_name, last_tree, struct_layout}
pub use Rattle.vx_tree.specs.Tree.Extension.{is_extension, IsExtension, extension_of, id_refusal, stored_refusal, extension_row, extension_layout}
pub use Rattle.vx_tree.specs.Tree.Composed.{composed, is_composed, laid_out, composed_meaning}

-- what node data mean: a line for each encoding
abbrev pub meaning : Data → Meaning
meaning (constant v) = constant_meaning v
meaning (slice a b) = slice_meaning a b
meaning (filter bits) = filter_meaning bits
meaning masked = masked_meaning
meaning is_valid = validity_meaning
meaning (function f) = function_meaning f
meaning dict = dict_meaning
meaning chunked = chunked_meaning
meaning interleave = interleave_meaning
meaning nulls = nulls_meaning
meaning (bool bs) = bool_meaning bs
meaning (primitive p zs) = primitive_meaning p zs
meaning (decimals w zs) = decimals_meaning w zs
meaning (views rs) = views_meaning rs
meaning (composed l) = composed_meaning l

-- the id of a node
abbrev pub id_of : Data → Id
id_of d = (meaning d).id

-- the encodings that hold their rows themselves, beside a validity
abbrev pub is_flat : Data → prelude.Bool
is_flat d = is_bool d || is_primitive d || is_decimals d || is_views d

-- the canonical encodings: those, that of nulls, and those of nested types
abbrev pub is_canonical : Data → prelude.Bool
is_canonical d = is_nulls d || is_flat d || is_composed d

-- the canonical encodings, and those that repeat one value
abbrev pub is_columnar : Data → prelude.Bool
is_columnar d = is_canonical d || is_constant d
