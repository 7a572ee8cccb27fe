use Rattle.std.proofs.Common.{◌≡◌, ◌≢◌, ◌<◌, ◌++◌, ◌∙◌, OnOk, length, nat_lt, true, ap, subst, sym, refl, arith, rules, string_bytes}
use Rattle.std.proofs.Math.ListN.{get_or}
use Rattle.vx_fn.proofs.ArityLemmas.{two_read}
use Rattle.vx_value.specs.Values.{height, values_height, fields}
use Rattle.vx_value.specs.IsOf.{is_of}
use Rattle.vx_value.specs.Nested.{entry_type}
use Rattle.vx_value.specs.View.{type_of, cell_of, cell_seen, values_of}
use Rattle.vx_value.proofs.ScalarPartsLemmas.{same_counts, part_typed}
use Rattle.vx_value.proofs.ValuesLemmas.{item_lower}
use Rattle.vx_json.specs.RowText.{row_text, entry_text}
use Rattle.vx_json.proofs.RowTextLemmas.{texts_more, items_more, entries_more, item_typed, seen_copied, pair_typed, no_pair}
use Rattle.vx_json.proofs.text.rows.+push_value.Goals as goal

pub push_fields-loop-i-init : goal.push_fields-loop-i-init
push_fields-loop-i-init t c = record {
  counts = same_counts c.args.fields.now c.args.values.now c.requires;
  typed = c.requires;
  text = refl;
}

pub push_fields-push_value-requires : goal.push_fields-push_value-requires
push_fields-push_value-requires t c =
    let fs = c.args.fields.now in
    let vs = c.args.values.now in
    let i = c.loop-i.i in
    let f = c.index-fields-i in
    let v = c.index-values-i in
    let below = c.loop-i-test.true in
    let within : i < length vs = omega (arith, below, c.loop-i.invariant.counts) in
    let seen : cell_seen c.as_ref.result ≡ cell_of (get_or vs i v.result) =
    seen_copied c.as_ref.result ∙ ap cell_of (c.as_ref.ensures.value ∙ v.is) in (
      let l = item_lower vs i v.result within in let e = ap height seen in let d = c.decreases in omega arith,
      ap (λ g. is_of (type_of g.dtype) (cell_seen c.as_ref.result)) f.is
          ∙ ap (is_of (type_of (get_or fs i f.result).dtype)) seen
          ∙ (part_typed fs vs i f.result v.result below within c.loop-i.invariant.typed).0,
    )

pub push_fields-loop-i-preserved : goal.push_fields-loop-i-preserved
push_fields-loop-i-preserved t c =
    let fs = c.args.fields.now in
    let vs = c.args.values.now in
    let i = c.loop-i.i in
    let f = c.index-fields-i in
    let v = c.index-values-i in
    let below = c.loop-i-test.true in
    let within : i < length vs = omega (arith, below, c.loop-i.invariant.counts) in
    let seen : cell_seen c.as_ref.result ≡ cell_of v.result = seen_copied c.as_ref.result ∙ ap cell_of c.as_ref.ensures.value in
    let named = string_bytes c.push_name.new.text in
    record {
      counts = c.loop-i.invariant.counts;
      typed = (part_typed fs vs i f.result v.result below within c.loop-i.invariant.typed).1;
      text =
          texts_more (nat_lt 0 i) fs vs i f.result v.result _ (string_bytes c.loop-i.text) named (string_bytes c.push_value.new.text) below within f.is v.is
          c.loop-i.invariant.text c.in_ok-push_name.ensures (c.in_ok-push_value.ensures ∙ ap (λ w. named ++ row_text (type_of f.result.dtype) w) seen);
    }

pub push_items-push_value-requires : goal.push_items-push_value-requires
push_items-push_value-requires t c =
    let vs = c.args.values.now in
    let i = c.loop-i.i in
    let v = c.index-values-i in
    let within = c.loop-i-test.true in
    let seen : cell_seen c.as_ref.result ≡ cell_of (get_or vs i v.result) =
    seen_copied c.as_ref.result ∙ ap cell_of (c.as_ref.ensures.value ∙ v.is) in (
      let l = item_lower vs i v.result within in let e = ap height seen in let d = c.decreases in omega arith,
      ap (is_of (type_of c.args.dtype.now)) seen ∙ (item_typed (type_of c.args.dtype.now) vs i v.result within c.loop-i.invariant.typed).0,
    )

pub push_items-loop-i-preserved : goal.push_items-loop-i-preserved
push_items-loop-i-preserved t c =
    let vs = c.args.values.now in
    let i = c.loop-i.i in
    let v = c.index-values-i in
    let within = c.loop-i-test.true in
    let seen : cell_seen c.as_ref.result ≡ cell_of v.result = seen_copied c.as_ref.result ∙ ap cell_of c.as_ref.ensures.value in
    let named = string_bytes c.push_comma.new.text in
    record {
      typed = (item_typed (type_of c.args.dtype.now) vs i v.result within c.loop-i.invariant.typed).1;
      text =
          items_more (nat_lt 0 i) vs i v.result _ (string_bytes c.loop-i.text) named (string_bytes c.push_value.new.text) within v.is c.in_ok-push_comma.ensures
          (type_of c.args.dtype.now) c.loop-i.invariant.text (c.in_ok-push_value.ensures ∙ ap (λ w. named ++ row_text (type_of c.args.dtype.now) w) seen);
    }

pub push_entries-push_entry-requires : goal.push_entries-push_entry-requires
push_entries-push_entry-requires t c =
    let vs = c.args.entries.now in
    let i = c.loop-i.i in
    let v = c.index-entries-i in
    let within = c.loop-i-test.true in
    let seen : cell_seen c.as_ref.result ≡ cell_of (get_or vs i v.result) =
    seen_copied c.as_ref.result ∙ ap cell_of (c.as_ref.ensures.value ∙ v.is) in (
      let l = item_lower vs i v.result within in let e = ap height seen in let d = c.decreases in omega arith,
      ap (is_of (entry_type c.args.map.now.0 c.args.map.now.1)) seen ∙ (item_typed (entry_type c.args.map.now.0 c.args.map.now.1) vs i v.result within c.loop-i.invariant.typed).0,
    )

pub push_entries-loop-i-preserved : goal.push_entries-loop-i-preserved
push_entries-loop-i-preserved t c =
    let vs = c.args.entries.now in
    let i = c.loop-i.i in
    let v = c.index-entries-i in
    let within = c.loop-i-test.true in
    let seen : cell_seen c.as_ref.result ≡ cell_of v.result = seen_copied c.as_ref.result ∙ ap cell_of c.as_ref.ensures.value in
    let named = string_bytes c.push_comma.new.text in
    record {
      typed = (item_typed (entry_type c.args.map.now.0 c.args.map.now.1) vs i v.result within c.loop-i.invariant.typed).1;
      text =
          entries_more (nat_lt 0 i) vs i v.result _ (string_bytes c.loop-i.text) named (string_bytes c.push_entry.new.text) within v.is c.in_ok-push_comma.ensures
          c.args.map.now.0 c.args.map.now.1 c.loop-i.invariant.text (c.in_ok-push_entry.ensures ∙ ap (λ w. named ++ entry_text c.args.map.now.0 c.args.map.now.1 w) seen);
    }

pub push_parts-push_pair-requires : goal.push_parts-push_pair-requires
push_parts-push_pair-requires t c =
    let m = c.args.map.now in
    let pair = two_read _ _ _ c.in-len2.len_at_least c.in-len2.len_below c.key-item.is c.item-item.is in
    let typed =
    pair_typed m.0 m.1 c.key-item.result c.item-item.result (subst (λ ps. is_of (entry_type m.0 m.1) (fields (values_of ps)) ≡ true) pair c.requires) in
    (let e = ap (λ ps. values_height (values_of ps)) pair in let d = c.decreases in omega arith, typed)

pub push_parts-unreachable-requires : goal.push_parts-unreachable-requires
push_parts-unreachable-requires t c =
    let other : length c.args.parts.now ≢ 2 = search rules in absurd (no_pair c.args.map.now.0 c.args.map.now.1 c.args.parts.now other c.requires)

pub push_parts-returns : goal.push_parts-returns
push_parts-returns t c =
    let m = c.args.map.now in
    let pair = two_read _ _ _ c.in-len2.len_at_least c.in-len2.len_below c.key-item.is c.item-item.is in
    subst (λ ps. OnOk c.push_pair.result (string_bytes c.push_pair.new.text ≡ string_bytes c.args.text.now ++ entry_text m.0 m.1 (fields (values_of ps))))
    (sym pair) c.push_pair.ensures
