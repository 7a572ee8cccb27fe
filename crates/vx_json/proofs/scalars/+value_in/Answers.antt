use Rattle.std.proofs.Common.{◌≡◌, ◌≢◌, ◌+◌, ◌∙◌, Some, None, [], ◌∷◌, inr, length, refl, ap, map, sym, arith, rules, option_map, codes}
use Rattle.std.proofs.lemmas.List.{map-append}
use Rattle.serde_json.specs.Data.{items_depth}
use Rattle.serde_json.specs.View.{view, items_view}
use Rattle.vx_fn.proofs.ArityLemmas.{two_read}
use Rattle.vx_value.specs.View.{type_of, fields_of, cell_of, values_of}
use Rattle.vx_json.specs.SpelledValues.{value_in, items_in, entry_in, entries_in, value_at, fields_spelled}
use Rattle.vx_json.proofs.ScalarsLemmas.{valued, valued_of, items_read, entries_read, field_read, field_unread, fields_read, chosen_none}
use Rattle.vx_json.proofs.SpelledLemmas.{get_less, array_less, item_less}
use Rattle.vx_json.proofs.SpelledValuesLemmas.{read_one, read_none, read_all}
use Rattle.vx_json.proofs.scalars.+value_in.Goals as goal

pub field_in-value_in-requires : goal.field_in-value_in-requires
field_in-value_in-requires t c =
    let name = c.as_str.result.now in
    (let l = get_less name (view c.args.value.now) (view c.in-Some.spelled.now) (sym c.in-Some.ensures) in let d = c.decreases in omega arith, tt)

pub variant_in-value_in-requires : goal.variant_in-value_in-requires
variant_in-value_in-requires t c =
    (let l = get_less (codes "value") (view c.args.value.now) (view c.in-Some.spelled.now) (sym c.in-Some.ensures) in let d = c.decreases in omega arith, tt)

pub entry_in-pair_in-requires : goal.entry_in-pair_in-requires
entry_in-pair_in-requires t c =
    let list = c.in-Some.list.now.items in
    let pair = sym c.as_slice.ensures.value ∙ two_read _ _ _ c.in-len2.len_at_least c.in-len2.len_below c.key-item.is c.item-item.is in (
      let e = ap (λ vs. items_depth (items_view vs)) pair in
          let l = array_less (view c.args.value.now) (items_view list) (sym c.in-Some.ensures) in let d = c.decreases in omega arith,
      tt,
    )

pub chosen_in-returns-in_default : goal.chosen_in-returns-in_default
chosen_in-returns-in_default t c =
    let other : length c.args.list.now.items ≢ 2 = search rules in inr (refl, chosen_none c.args.variants.now c.args.list.now.items other)

pub chosen_in-tagged_in-requires : goal.chosen_in-tagged_in-requires
chosen_in-tagged_in-requires t c =
    let pair = sym c.as_slice.ensures.value ∙ two_read _ _ _ c.in-len2.len_at_least c.in-len2.len_below c.tag-item.is c.item-item.is in
    (let e = ap (λ vs. items_depth (items_view vs)) pair in let d = c.decreases in omega arith, tt)

pub items_in-value_in-requires : goal.items_in-value_in-requires
items_in-value_in-requires t c =
    let e = rw c.deref-value-items.ensures.value at c.value-item.is in
    let h = rw c.deref-value-items.ensures.value at c.loop-value-test.true in
    (let l = item_less c.args.list.now.items c.loop-value.value-index c.value-item.result h e in let d = c.decreases in omega arith, tt)

pub items_in-returns-in_err-value_in : goal.items_in-returns-in_err-value_in
items_in-returns-in_err-value_in t c =
    let list = c.args.list.now.items in
    let value = c.value-item.result in
    let read = value_in (type_of c.args.dtype.now) in
    let within = rw c.deref-value-items.ensures.value at c.loop-value-test.true in
    let item = rw c.deref-value-items.ensures.value at c.value-item.is in
    let none : read (view value) ≡ None → items_in (type_of c.args.dtype.now) (items_view list) ≡ None =
    λ e. items_read (type_of c.args.dtype.now) (items_view list)
    ∙ ap (option_map valued) (read_none read list c.loop-value.value-index _ c.loop-value.invariant.read value within item e) in
    search (rules, none)

pub items_in-loop-value-preserved : goal.items_in-loop-value-preserved
items_in-loop-value-preserved t c =
    let before = c.loop-value.invariant in
    let push = c.push_reserved.ensures in
    let done = c.loop-value.values.items in
    let one = c.in_ok-value_in.field-0 in
    let within = rw c.deref-value-items.ensures.value at c.loop-value-test.true in
    let item = rw c.deref-value-items.ensures.value at c.value-item.is in
    record {
      counted = push.len ∙ ap (λ n. n + 1) before.counted;
      room = omega (arith, push.capacity, before.room);
      read = read_one (value_in (type_of c.args.dtype.now)) c.args.list.now.items c.loop-value.value-index (map cell_of done) before.read c.value-item.result _ _ within item
          c.in_ok-value_in.ensures (ap (map cell_of) push.items ∙ map-append cell_of done (one ∷ []));
    }

pub items_in-returns : goal.items_in-returns
items_in-returns t c =
    let list = c.args.list.now.items in
    let done = c.loop-value.values.items in
    let past = rw c.deref-value-items.ensures.value at c.loop-value-test.false in
    let read : items_in (type_of c.args.dtype.now) (items_view list) ≡ Some (values_of done) =
    items_read (type_of c.args.dtype.now) (items_view list)
    ∙ ap (option_map valued) (read_all (value_in (type_of c.args.dtype.now)) list c.loop-value.value-index (map cell_of done) c.loop-value.invariant.read past)
    ∙ ap Some (sym (valued_of done)) in
    search (rules, read)

pub entries_in-entry_in-requires : goal.entries_in-entry_in-requires
entries_in-entry_in-requires t c =
    let e = rw c.deref-value-items.ensures.value at c.value-item.is in
    let h = rw c.deref-value-items.ensures.value at c.loop-value-test.true in
    (let l = item_less c.args.list.now.items c.loop-value.value-index c.value-item.result h e in let d = c.decreases in omega arith, tt)

pub entries_in-returns-in_err-entry_in : goal.entries_in-returns-in_err-entry_in
entries_in-returns-in_err-entry_in t c =
    let list = c.args.list.now.items in
    let value = c.value-item.result in
    let read = entry_in c.args.map.now.0 c.args.map.now.1 in
    let within = rw c.deref-value-items.ensures.value at c.loop-value-test.true in
    let item = rw c.deref-value-items.ensures.value at c.value-item.is in
    let none : read (view value) ≡ None → entries_in c.args.map.now.0 c.args.map.now.1 (items_view list) ≡ None =
    λ e. entries_read c.args.map.now.0 c.args.map.now.1 (items_view list)
    ∙ ap (option_map valued) (read_none read list c.loop-value.value-index _ c.loop-value.invariant.read value within item e) in
    search (rules, none)

pub entries_in-loop-value-preserved : goal.entries_in-loop-value-preserved
entries_in-loop-value-preserved t c =
    let before = c.loop-value.invariant in
    let push = c.push_reserved.ensures in
    let done = c.loop-value.entries.items in
    let one = c.in_ok-entry_in.field-0 in
    let within = rw c.deref-value-items.ensures.value at c.loop-value-test.true in
    let item = rw c.deref-value-items.ensures.value at c.value-item.is in
    record {
      counted = push.len ∙ ap (λ n. n + 1) before.counted;
      room = omega (arith, push.capacity, before.room);
      read = read_one (entry_in c.args.map.now.0 c.args.map.now.1) c.args.list.now.items c.loop-value.value-index (map cell_of done) before.read c.value-item.result _ _ within item
          c.in_ok-entry_in.ensures (ap (map cell_of) push.items ∙ map-append cell_of done (Some one ∷ []));
    }

pub entries_in-returns : goal.entries_in-returns
entries_in-returns t c =
    let list = c.args.list.now.items in
    let done = c.loop-value.entries.items in
    let past = rw c.deref-value-items.ensures.value at c.loop-value-test.false in
    let read : entries_in c.args.map.now.0 c.args.map.now.1 (items_view list) ≡ Some (values_of done) =
    entries_read c.args.map.now.0 c.args.map.now.1 (items_view list)
    ∙ ap (option_map valued) (read_all (entry_in c.args.map.now.0 c.args.map.now.1) list c.loop-value.value-index (map cell_of done) c.loop-value.invariant.read past)
    ∙ ap Some (sym (valued_of done)) in
    search (rules, read)

pub fields_in-returns-in_err-field_in : goal.fields_in-returns-in_err-field_in
fields_in-returns-in_err-field_in t c =
    let fs = c.args.fields.now in
    let d = view c.args.value.now in
    let f = c.field-item.result in
    let none : value_at d f.name (type_of f.dtype) ≡ None → fields_spelled (value_at d) (fields_of fs) ≡ None =
    field_unread fs c.loop-field.field-index f d c.loop-field.values.items c.loop-field-test.true c.field-item.is c.loop-field.invariant.read in
    search (rules, none)

pub fields_in-loop-field-preserved : goal.fields_in-loop-field-preserved
fields_in-loop-field-preserved t c =
    let so_far = c.loop-field.invariant in
    let push = c.push_reserved.ensures in
    record {
      counted = push.len ∙ ap (λ n. n + 1) so_far.counted;
      room = omega (arith, push.capacity, so_far.room);
      read = field_read c.args.fields.now c.loop-field.field-index c.field-item.result (view c.args.value.now) c.loop-field.values.items c.loop-field-test.true
          c.field-item.is so_far.read c.in_ok-field_in.field-0 _ c.in_ok-field_in.ensures push.items;
    }

pub fields_in-returns : goal.fields_in-returns
fields_in-returns t c =
    let read =
    fields_read c.args.fields.now c.loop-field.field-index (view c.args.value.now) c.loop-field.values.items c.loop-field-test.false c.loop-field.invariant.read in
    search (rules, read)
