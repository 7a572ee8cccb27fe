use Rattle.std.proofs.Common.{rules, arith, ◌≡◌, ◌<◌, length, [], ◌∷◌, Some, None, ap, subst, sym, ◌∙◌}
use Rattle.std.proofs.lemmas.Bool.{false≢true}
use Rattle.std.specs.Prelude.{IsSome}
use Rattle.vx_value.specs.Types.{struct}
use Rattle.vx_value.specs.Values.{fields}
use Rattle.vx_value.specs.Cell.{value}
use Rattle.vx_value.specs.View.{type_of, cell_of}
use Rattle.vx_value.specs.IsOf.{is_of, are_of}
use Rattle.vx_value.specs.Nested.{field_place}
use Rattle.vx_fn.specs.Meanings.{widened, null_through}
use Rattle.vx_fn.specs.GetItem.{get_item, item_of, value_at, value_at_place}
use Rattle.vx_fn.proofs.GetItemLemmas.{place_within, no_place, read_at}
use Rattle.vx_fn.proofs.functions.get_item.field_value.Goals as goal
use Rattle.vx_fn.proofs.functions.get_item.field_value.Goals.{After-as_slice}

-- the argument's type and value, and the place of the field
type_is : (c : After-as_slice) → struct c.in-Struct-Some-Struct.fields c.in-Struct-Some-Struct.field-1-0 ≡ c.args.input.now.of_type
type_is c = sym (ap type_of c.in-Struct-Some-Struct.is-0) ∙ c.dtype.ensures.dtype

value_is : (c : After-as_slice) → fields c.in-Struct-Some-Struct.values ≡ c.args.input.now.value
value_is c = search rules

place_is : (c : After-as_slice) → Some c.in-Some.place ≡ field_place c.args.name.now c.in-Struct-Some-Struct.fields
place_is c = sym c.in-Some.is ∙ c.find.ensures ∙ ap (λ n. field_place n c.in-Struct-Some-Struct.fields) c.as_str.ensures

within : (c : After-as_slice) → c.in-Some.place < length c.as_slice.result.now
within c =
    let arm = c.in-Struct-Some-Struct in
    place_within c.args.name.now arm.fields c.as_slice.result.now c.in-Some.place (place_is c)
    (ap (are_of arm.fields) c.as_slice.ensures ∙ (λ i. is_of (type_is c i) (value_is c i)) ∙ arm.ensures.typed)

pub offset_bounds-as_slice-place : goal.offset_bounds-as_slice-place
offset_bounds-as_slice-place c =
    let here : c.in-Some.place < length c.as_slice.result.now = within (goal.at.offset_bounds-as_slice-place c).After-as_slice in grind arith

pub bounds-as_slice-place : goal.bounds-as_slice-place
bounds-as_slice-place c = within (goal.at.bounds-as_slice-place c).After-as_slice

pub unreachable-requires : goal.unreachable-requires
unreachable-requires c =
    let arm = c.in-Struct-Some-Struct in
    let name = c.args.name.now in
    let s = struct arm.fields arm.field-1-0 in
    let none : field_place name arm.fields ≡ None = ap (λ n. field_place n arm.fields) (sym c.as_str.ensures) ∙ sym c.find.ensures ∙ c.in-None.is in
    let given = subst (λ t. IsSome ((get_item name).types (t ∷ []))) (sym (sym (ap type_of arm.is-0) ∙ c.dtype.ensures.dtype)) c.requires in
    false≢true (subst (λ o. IsSome (widened s o)) (no_place name arm.fields none) given)

pub returns-in_ok-clone-in-Some-clause-ok : goal.returns-in_ok-clone-in-Some-clause-ok
returns-in_ok-clone-in-Some-clause-ok c =
    let arm = c.in-Struct-Some-Struct in
    let there = (goal.at.returns-in_ok-clone-in-Some-clause-ok c).After-as_slice in
    let name = c.args.name.now in
    let x = c.index-as_slice-place.result in
    let same : cell_of x ≡ cell_of c.in_ok-clone-in-Some.field-0 = search rules in
    (λ i. null_through (sym (value_is there) i) (item_of name (sym (type_is there) i) (sym (value_is there) i)))
    ∙ ap (λ o. value_at_place o arm.values) (sym (place_is there))
    ∙ ap (value_at c.in-Some.place) (sym c.as_slice.ensures)
    ∙ read_at c.as_slice.result.now c.in-Some.place x (within there) c.index-as_slice-place.is
    ∙ ap value same
