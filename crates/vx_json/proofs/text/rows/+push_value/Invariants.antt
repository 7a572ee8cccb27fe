use Rattle.std.proofs.Common.{◌+◌, ◌*◌, ◌≡◌, ◌++◌, [], ◌∷◌, length, drop, nat_lt, false, true, string_bytes}
use Rattle.vx_value.specs.Values.{height, values_height}
use Rattle.vx_value.specs.IsOf.{all_of, are_of}
use Rattle.vx_value.specs.Nested.{entry_type}
use Rattle.vx_value.specs.View.{type_of, fields_of, value_of, cell_seen, values_of}
use Rattle.vx_json.specs.RowText.{items_text, entries_text, fields_text}
use Rattle.vx_json.proofs.text.rows.+push_value.Given as goal

abbrev pub decreases-push_value : goal.decreases-push_value
decreases-push_value l = 4 * height (cell_seen l.value) + 1

abbrev pub decreases-push_present : goal.decreases-push_present
decreases-push_present l = 4 * height (value_of l.value.now)

abbrev pub decreases-push_list : goal.decreases-push_list
decreases-push_list l = 4 * values_height l.values.now + 3

abbrev pub decreases-push_items : goal.decreases-push_items
decreases-push_items l = 4 * values_height (values_of l.values.now) + 2

abbrev pub decreases-push_map : goal.decreases-push_map
decreases-push_map l = 4 * values_height l.entries.now + 3

abbrev pub decreases-push_entries : goal.decreases-push_entries
decreases-push_entries l = 4 * values_height (values_of l.entries.now) + 2

abbrev pub decreases-push_entry : goal.decreases-push_entry
decreases-push_entry l = 4 * height (cell_seen l.entry) + 1

abbrev pub decreases-push_parts : goal.decreases-push_parts
decreases-push_parts l = 4 * values_height (values_of l.parts.now) + 3

abbrev pub decreases-push_pair : goal.decreases-push_pair
decreases-push_pair l = 4 * values_height (values_of (l.key.now ∷ l.value.now ∷ [])) + 2

abbrev pub decreases-push_struct : goal.decreases-push_struct
decreases-push_struct l = 4 * values_height l.values.now + 3

abbrev pub decreases-push_fields : goal.decreases-push_fields
decreases-push_fields l = 4 * values_height (values_of l.values.now) + 2

abbrev pub decreases-push_union : goal.decreases-push_union
decreases-push_union l = 4 * height l.value.now + 2

abbrev pub decreases-push_variant : goal.decreases-push_variant
decreases-push_variant l = 4 * height l.value.now + 2

-- the items so far, and the text of those to come, which are of the type
abbrev pub invariant-push_items-loop-i : goal.invariant-push_items-loop-i
invariant-push_items-loop-i l = record {
  typed : all_of (type_of l.dtype) (values_of (drop l.i l.values)) ≡ true;
  text : string_bytes l.initial.text ++ items_text false (type_of l.dtype) (values_of l.values)
      ≡ string_bytes l.text ++ items_text (nat_lt 0 l.i) (type_of l.dtype) (values_of (drop l.i l.values));
}

-- the same of entries
abbrev pub invariant-push_entries-loop-i : goal.invariant-push_entries-loop-i
invariant-push_entries-loop-i l = record {
  typed : all_of (entry_type l.map.0 l.map.1) (values_of (drop l.i l.entries)) ≡ true;
  text : string_bytes l.initial.text ++ entries_text false l.map.0 l.map.1 (values_of l.entries)
      ≡ string_bytes l.text ++ entries_text (nat_lt 0 l.i) l.map.0 l.map.1 (values_of (drop l.i l.entries));
}

-- the same of fields, of which there are as many as values
abbrev pub invariant-push_fields-loop-i : goal.invariant-push_fields-loop-i
invariant-push_fields-loop-i l = record {
  counts : length l.fields ≡ length l.values;
  typed : are_of (fields_of (drop l.i l.fields)) (values_of (drop l.i l.values)) ≡ true;
  text : string_bytes l.initial.text ++ fields_text false (fields_of l.fields) (values_of l.values)
      ≡ string_bytes l.text ++ fields_text (nat_lt 0 l.i) (fields_of (drop l.i l.fields)) (values_of (drop l.i l.values));
}
