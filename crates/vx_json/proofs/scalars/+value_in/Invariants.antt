use Rattle.std.proofs.Common.{◌+◌, ◌*◌, ◌≡◌, ◌≤◌, [], ◌∷◌, length, drop, map, vec_len, vec_capacity, option_map}
use Rattle.serde_json.specs.View.{view, items_view}
use Rattle.serde_json.specs.Data.{depth, items_depth}
use Rattle.vx_value.specs.View.{type_of, fields_of, cell_of}
use Rattle.vx_value.proofs.ValuesLemmas.{prepend}
use Rattle.vx_json.specs.SpelledValues.{value_in, entry_in, value_at, fields_spelled}
use Rattle.vx_json.proofs.SpelledValuesLemmas.{IsReadTo}
use Rattle.vx_json.proofs.scalars.+value_in.Given as goal

abbrev pub decreases-value_in : goal.decreases-value_in
decreases-value_in l = 5 * depth (view l.value.now) + 4

abbrev pub decreases-array_in : goal.decreases-array_in
decreases-array_in l = 5 * items_depth (items_view l.list.now.items) + 7

abbrev pub decreases-items_in : goal.decreases-items_in
decreases-items_in l = 5 * items_depth (items_view l.list.now.items) + 5

abbrev pub decreases-entries_in : goal.decreases-entries_in
decreases-entries_in l = 5 * items_depth (items_view l.list.now.items) + 5

abbrev pub decreases-entry_in : goal.decreases-entry_in
decreases-entry_in l = 5 * depth (view l.value.now) + 4

abbrev pub decreases-chosen_in : goal.decreases-chosen_in
decreases-chosen_in l = 5 * items_depth (items_view l.list.now.items) + 6

abbrev pub decreases-tagged_in : goal.decreases-tagged_in
decreases-tagged_in l = 5 * depth (view l.item.now) + 5

abbrev pub decreases-pair_in : goal.decreases-pair_in
decreases-pair_in l = 5 * items_depth (items_view (l.key.now ∷ l.item.now ∷ [])) + 5

abbrev pub decreases-object_in : goal.decreases-object_in
decreases-object_in l = 5 * depth (view l.value.now) + 3

abbrev pub decreases-struct_in : goal.decreases-struct_in
decreases-struct_in l = 5 * depth (view l.value.now) + 2

abbrev pub decreases-fields_in : goal.decreases-fields_in
decreases-fields_in l = 5 * depth (view l.value.now) + 1

abbrev pub decreases-variant_in : goal.decreases-variant_in
decreases-variant_in l = 5 * depth (view l.value.now) + 2

abbrev pub decreases-field_in : goal.decreases-field_in
decreases-field_in l = 5 * depth (view l.value.now)

-- the values so far, and then those that are left, for which there is room
abbrev pub invariant-items_in-loop-value : goal.invariant-items_in-loop-value
invariant-items_in-loop-value l = record {
  counted : vec_len l.values ≡ l.value-index;
  room : length l.list.items ≤ vec_capacity l.values;
  read : IsReadTo (value_in (type_of l.dtype)) l.list.items l.value-index (map cell_of l.values.items);
}

-- the same of entries
abbrev pub invariant-entries_in-loop-value : goal.invariant-entries_in-loop-value
invariant-entries_in-loop-value l = record {
  counted : vec_len l.entries ≡ l.value-index;
  room : length l.list.items ≤ vec_capacity l.entries;
  read : IsReadTo (entry_in l.map.0 l.map.1) l.list.items l.value-index (map cell_of l.entries.items);
}

-- the same of the values of fields
abbrev pub invariant-fields_in-loop-field : goal.invariant-fields_in-loop-field
invariant-fields_in-loop-field l = record {
  counted : vec_len l.values ≡ l.field-index;
  room : length l.fields ≤ vec_capacity l.values;
  read : fields_spelled (value_at (view l.value)) (fields_of l.fields)
      ≡ option_map (prepend l.values.items) (fields_spelled (value_at (view l.value)) (fields_of (drop l.field-index l.fields)));
}
