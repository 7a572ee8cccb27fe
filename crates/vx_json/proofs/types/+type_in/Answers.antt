use Rattle.std.proofs.Common.{◌≡◌, refl, inr, length, ◌≢◌, ◌+◌, ◌∙◌, subst, None, [], ◌∷◌, ap, map, codes, sym, arith, rules}
use Rattle.std.proofs.lemmas.List.{map-append}
use Rattle.std.specs.Prelude.{option_and_then}
use Rattle.serde_json.specs.View.{view, items_view}
use Rattle.vx_json.specs.SpelledTypes.{named_in, named_of, tagged_in, tagged_of, fields_listed, variants_listed, map_with}
use Rattle.vx_json.proofs.SpelledLemmas.{get_less, list_less, item_less}
use Rattle.vx_json.specs.Refused.{IsReadAs}
use Rattle.vx_value.specs.View.{type_of}
use Rattle.vx_json.proofs.SpelledTypesLemmas.{fields_read, variants_read, map_form, pair_none}
use Rattle.vx_json.proofs.SpelledValuesLemmas.{read_one, read_none, read_all}
use Rattle.vx_json.proofs.types.+type_in.Goals as goal

pub list_type-type_in-requires : goal.list_type-type_in-requires
list_type-type_in-requires t c =
    (let l = get_less (codes "list") (view c.args.value.now) (view c.in-Some.spelled.now) (sym c.in-Some.ensures) in let d = c.decreases in omega arith, tt)

pub fixed_size_list_type-type_in-requires : goal.fixed_size_list_type-type_in-requires
fixed_size_list_type-type_in-requires t c =
    (let l = get_less (codes "fsl") (view c.args.value.now) (view c.in-Some.spelled.now) (sym c.in-Some.ensures) in let d = c.decreases in omega arith, tt)

pub map_type-map_listed-requires : goal.map_type-map_listed-requires
map_type-map_listed-requires t c = (
  let l = list_less (codes "map") (view c.args.value.now) (items_view c.in-Some.list.now.items) c.in-Some.ensures in let d = c.decreases in
      omega arith,
  tt,
)

pub struct_type-fields_in-requires : goal.struct_type-fields_in-requires
struct_type-fields_in-requires t c = (
  let l = list_less (codes "struct") (view c.args.value.now) (items_view c.in-Some.list.now.items) c.in-Some.ensures in let d = c.decreases in
      omega arith,
  tt,
)

pub union_type-variants_in-requires : goal.union_type-variants_in-requires
union_type-variants_in-requires t c = (
  let l = list_less (codes "union") (view c.args.value.now) (items_view c.in-Some.list.now.items) c.in-Some.ensures in let d = c.decreases in
      omega arith,
  tt,
)

pub extension_type-named-requires : goal.extension_type-named-requires
extension_type-named-requires t c = (
  let l = list_less (codes "ext") (view c.args.value.now) (items_view c.in-Some.list.now.items) c.in-Some.ensures in let d = c.decreases in
      omega arith,
  tt,
)

pub fields_in-field_in-requires : goal.fields_in-field_in-requires
fields_in-field_in-requires t c =
    let e = rw c.deref-value-items.ensures.value at c.value-item.is in
    let h = rw c.deref-value-items.ensures.value at c.loop-value-test.true in
    (let l = item_less c.args.list.now.items c.loop-value.value-index c.value-item.result h e in let d = c.decreases in omega arith, tt)

pub fields_in-returns-in_err-field_in : goal.fields_in-returns-in_err-field_in
fields_in-returns-in_err-field_in t c =
    let list = c.args.list.now.items in
    let value = c.value-item.result in
    let within = rw c.deref-value-items.ensures.value at c.loop-value-test.true in
    let item = rw c.deref-value-items.ensures.value at c.value-item.is in
    let none : named_in (view value) ≡ None → fields_listed (items_view list) ≡ None =
    λ e. fields_read (items_view list) ∙ read_none named_in list c.loop-value.value-index _ c.loop-value.invariant.read value within item e in
    search (rules, none)

pub fields_in-loop-value-preserved : goal.fields_in-loop-value-preserved
fields_in-loop-value-preserved t c =
    let before = c.loop-value.invariant in
    let push = c.push_reserved.ensures in
    let done = c.loop-value.fields.items in
    let one = c.in_ok-field_in.field-0 in
    let within = rw c.deref-value-items.ensures.value at c.loop-value-test.true in
    let item = rw c.deref-value-items.ensures.value at c.value-item.is in
    record {
      counted = push.len ∙ ap (λ n. n + 1) before.counted;
      room = omega (arith, push.capacity, before.room);
      read = read_one named_in c.args.list.now.items c.loop-value.value-index (map named_of done) before.read c.value-item.result _ _ within item
          c.in_ok-field_in.ensures (ap (map named_of) push.items ∙ map-append named_of done (one ∷ []));
    }

pub fields_in-returns : goal.fields_in-returns
fields_in-returns t c =
    let list = c.args.list.now.items in
    let past = rw c.deref-value-items.ensures.value at c.loop-value-test.false in
    fields_read (items_view list)
    ∙ read_all named_in list c.loop-value.value-index (map named_of c.loop-value.fields.items) c.loop-value.invariant.read past

pub variants_in-variant_in-requires : goal.variants_in-variant_in-requires
variants_in-variant_in-requires t c =
    let e = rw c.deref-value-items.ensures.value at c.value-item.is in
    let h = rw c.deref-value-items.ensures.value at c.loop-value-test.true in
    (let l = item_less c.args.list.now.items c.loop-value.value-index c.value-item.result h e in let d = c.decreases in omega arith, tt)

pub variants_in-returns-in_err-variant_in : goal.variants_in-returns-in_err-variant_in
variants_in-returns-in_err-variant_in t c =
    let list = c.args.list.now.items in
    let value = c.value-item.result in
    let within = rw c.deref-value-items.ensures.value at c.loop-value-test.true in
    let item = rw c.deref-value-items.ensures.value at c.value-item.is in
    let none : tagged_in (view value) ≡ None → variants_listed (items_view list) ≡ None =
    λ e. variants_read (items_view list) ∙ read_none tagged_in list c.loop-value.value-index _ c.loop-value.invariant.read value within item e in
    search (rules, none)

pub variants_in-loop-value-preserved : goal.variants_in-loop-value-preserved
variants_in-loop-value-preserved t c =
    let before = c.loop-value.invariant in
    let push = c.push_reserved.ensures in
    let done = c.loop-value.variants.items in
    let one = c.in_ok-variant_in.field-0 in
    let within = rw c.deref-value-items.ensures.value at c.loop-value-test.true in
    let item = rw c.deref-value-items.ensures.value at c.value-item.is in
    record {
      counted = push.len ∙ ap (λ n. n + 1) before.counted;
      room = omega (arith, push.capacity, before.room);
      read = read_one tagged_in c.args.list.now.items c.loop-value.value-index (map tagged_of done) before.read c.value-item.result _ _ within item
          c.in_ok-variant_in.ensures (ap (map tagged_of) push.items ∙ map-append tagged_of done (one ∷ []));
    }

pub variants_in-returns : goal.variants_in-returns
variants_in-returns t c =
    let list = c.args.list.now.items in
    let past = rw c.deref-value-items.ensures.value at c.loop-value-test.false in
    variants_read (items_view list)
    ∙ read_all tagged_in list c.loop-value.value-index (map tagged_of c.loop-value.variants.items) c.loop-value.invariant.read past

pub object_type-returns-then-has-4 : goal.object_type-returns-then-has-4
object_type-returns-then-has-4 t c =
    let form =
    map_form (view c.args.value.now) (sym c.if-has.ensures) (sym c.if-has-2.ensures) (sym c.if-has-3.ensures) (sym c.if-has-4.ensures) in
    subst (λ o. IsReadAs type_of o c.map_type.result) (sym form) c.map_type.ensures

pub map_listed-returns-in_default : goal.map_listed-returns-in_default
map_listed-returns-in_default t c =
    let list = c.args.list.now.items in
    let other : length list ≢ 2 = search rules in inr (refl, ap (option_and_then (map_with c.args.nullability)) (pair_none list other))
