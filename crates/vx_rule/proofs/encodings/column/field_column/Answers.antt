use Rattle.std.proofs.Common.{arith, ◌≡◌, ◌<◌, length, Some, sym, ap, ◌∙◌}
use Rattle.vx_value.specs.Types.{struct, nullability_of}
use Rattle.vx_value.specs.Nested.{field_place}
use Rattle.vx_value.specs.View.{type_of}
use Rattle.vx_value.specs.declared.dtype.Nullability.{Nullability}
use Rattle.vx_tree.specs.Tree.{dtype}
use Rattle.vx_rule.specs.Rules.{field_in}
use Rattle.vx_rule.proofs.StructsLemmas.{has_place, place_held, field_held}
use Rattle.vx_rule.proofs.encodings.column.field_column.Goals as goal
use Rattle.vx_rule.proofs.encodings.column.field_column.Goals.{In_default-find, After-slots, In_default-slots, In-Some-slots}

-- the column's type, and the place of the field
type_is : (c : After-slots) → (m : Nullability) × (dtype c.args.array.now ≡ struct c.in-Struct.fields m)
type_is c = (_, sym c.dtype.ensures.dtype ∙ ap type_of c.in-Struct.is)

place_is : (c : After-slots) → Some c.in-Some.place ≡ field_place c.args.name.now c.in-Struct.fields
place_is c = sym c.in-Some.is ∙ c.find.ensures ∙ ap (λ n. field_place n c.in-Struct.fields) c.as_str.ensures

within : (c : After-slots) → c.in-Some.place < length c.slots.result.now
within c =
    place_held c.args.name.now c.args.array.now c.slots.result.now c.in-Struct.fields (type_is c).0 (type_is c).1 c.requires.structs c.slots.ensures
    c.well_formed_tree.ensures.formed c.in-Some.place (place_is c)

pub unreachable-requires-in_default-find : goal.unreachable-requires-in_default-find
unreachable-requires-in_default-find c =
    has_place c.args.name.now c.args.array.now c.in-Struct.fields _ (sym c.dtype.ensures.dtype ∙ ap type_of c.in-Struct.is) c.requires.has
    (ap (λ n. field_place n c.in-Struct.fields) (sym c.as_str.ensures) ∙ sym c.find.ensures ∙ c.in_default-find.is)

pub offset_bounds-slots-place : goal.offset_bounds-slots-place
offset_bounds-slots-place c = let here : c.in-Some.place < length c.slots.result.now = within c in grind arith

pub bounds-slots-place : goal.bounds-slots-place
bounds-slots-place c = within c

pub unreachable-requires-in_default-slots : goal.unreachable-requires-in_default-slots
unreachable-requires-in_default-slots c =
    let there = (goal.at.unreachable-requires-in_default-slots c).After-slots in
    let held = field_held c.args.name.now c.args.array.now c.slots.result.now c.in-Struct.fields (type_is there).0 (type_is there).1 c.requires.structs
    c.slots.ensures c.well_formed_tree.ensures.formed c.in-Some.place c.index-slots-place.result (place_is there) c.index-slots-place.is in
    absurd (cc (held.1, c.in_default-slots.is))

pub returns : goal.returns
returns c =
    let there = (goal.at.returns c).After-slots in
    let held = field_held c.args.name.now c.args.array.now c.slots.result.now c.in-Struct.fields (type_is there).0 (type_is there).1 c.requires.structs
    c.slots.ensures c.well_formed_tree.ensures.formed c.in-Some.place c.index-slots-place.result (place_is there) c.index-slots-place.is in
    let same : held.0 ≡ c.in-Some-slots.field = cc (held.1, c.in-Some-slots.is) in
    let typed = (type_is there).1 in (
      c.in-Struct.fields,
      typed ∙ ap (struct c.in-Struct.fields) (sym (ap nullability_of typed)),
      ap (field_in c.args.name.now c.in-Struct.fields) (sym c.slots.ensures) ∙ held.2 ∙ ap Some same,
    )
