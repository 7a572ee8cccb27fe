use Rattle.std.proofs.Common.{◌+◌, ◌*◌, ◌≡◌, ◌≤◌, length, map, vec_len, vec_capacity}
use Rattle.serde_json.specs.View.{view, items_view}
use Rattle.serde_json.specs.Data.{depth, items_depth}
use Rattle.vx_json.specs.SpelledTypes.{named_in, named_of, tagged_in, tagged_of}
use Rattle.vx_json.proofs.SpelledValuesLemmas.{IsReadTo}
use Rattle.vx_json.proofs.types.+type_in.Given as goal

abbrev pub decreases-type_in : goal.decreases-type_in
decreases-type_in l = 4 * depth (view l.value.now) + 3

abbrev pub decreases-object_type : goal.decreases-object_type
decreases-object_type l = 4 * depth (view l.value.now) + 2

abbrev pub decreases-list_type : goal.decreases-list_type
decreases-list_type l = 4 * depth (view l.value.now) + 1

abbrev pub decreases-fixed_size_list_type : goal.decreases-fixed_size_list_type
decreases-fixed_size_list_type l = 4 * depth (view l.value.now) + 1

abbrev pub decreases-map_type : goal.decreases-map_type
decreases-map_type l = 4 * depth (view l.value.now) + 1

abbrev pub decreases-map_listed : goal.decreases-map_listed
decreases-map_listed l = 4 * items_depth (items_view l.list.now.items) + 4

abbrev pub decreases-struct_type : goal.decreases-struct_type
decreases-struct_type l = 4 * depth (view l.value.now) + 1

abbrev pub decreases-union_type : goal.decreases-union_type
decreases-union_type l = 4 * depth (view l.value.now) + 1

abbrev pub decreases-extension_type : goal.decreases-extension_type
decreases-extension_type l = 4 * depth (view l.value.now) + 1

abbrev pub decreases-name_and_type : goal.decreases-name_and_type
decreases-name_and_type l = 4 * depth (view l.dtype.now) + 4

abbrev pub decreases-named : goal.decreases-named
decreases-named l = 4 * items_depth (items_view l.list.now.items) + 5

abbrev pub decreases-field_in : goal.decreases-field_in
decreases-field_in l = 4 * depth (view l.value.now) + 2

abbrev pub decreases-fields_in : goal.decreases-fields_in
decreases-fields_in l = 4 * items_depth (items_view l.list.now.items) + 3

abbrev pub decreases-variant_in : goal.decreases-variant_in
decreases-variant_in l = 4 * depth (view l.value.now) + 2

abbrev pub decreases-variants_in : goal.decreases-variants_in
decreases-variants_in l = 4 * items_depth (items_view l.list.now.items) + 3

-- the fields so far, and then those of the values that are left, for which there is room
abbrev pub invariant-fields_in-loop-value : goal.invariant-fields_in-loop-value
invariant-fields_in-loop-value l = record {
  counted : vec_len l.fields ≡ l.value-index;
  room : length l.list.items ≤ vec_capacity l.fields;
  read : IsReadTo named_in l.list.items l.value-index (map named_of l.fields.items);
}

-- the same of variants
abbrev pub invariant-variants_in-loop-value : goal.invariant-variants_in-loop-value
invariant-variants_in-loop-value l = record {
  counted : vec_len l.variants ≡ l.value-index;
  room : length l.list.items ≤ vec_capacity l.variants;
  read : IsReadTo tagged_in l.list.items l.value-index (map tagged_of l.variants.items);
}
