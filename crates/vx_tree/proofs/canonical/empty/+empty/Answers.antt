use Rattle.std.proofs.Common.{rules, ◌≡◌, true, ◌≤◌, ap, sym, ◌∙◌, subst, arith}
use Rattle.vx_value.specs.Types.{height, fields_height}
use Rattle.vx_value.specs.View.{type_of, fields_of}
use Rattle.vx_value.specs.Supported.{has_columns, have_columns}
use Rattle.vx_tree.proofs.EmptyLemmas.{empty_struct_node, next_columns, next_slot, last_slot, field_height}
use Rattle.vx_tree.proofs.canonical.empty.+empty.Goals as goal

pub empty_slots-empty_column-requires : goal.empty_slots-empty_column-requires
empty_slots-empty_column-requires t c =
    let here = next_columns c.args.fields.now c.loop-field.field-index c.field-item.result c.loop-field-test.true c.field-item.is c.loop-field.invariant.1 in
    let below = field_height c.args.fields.now c.loop-field.field-index c.field-item.result c.loop-field-test.true c.field-item.is in
    (omega (arith, below, c.decreases), here.0)

pub empty_slots-loop-field-preserved : goal.empty_slots-loop-field-preserved
empty_slots-loop-field-preserved t c =
    let here = next_columns c.args.fields.now c.loop-field.field-index c.field-item.result c.loop-field-test.true c.field-item.is c.loop-field.invariant.1 in (
      next_slot c.args.fields.now c.loop-field.field-index c.field-item.result c.loop-field-test.true c.field-item.is c.loop-field.slots.items c.push.new.self.items c.into_array.result
          c.loop-field.invariant.0 (c.into_array.ensures ∙ c.in_ok-empty_column.ensures.ok) c.in_ok-push.ensures.items,
      here.1,
    )

pub empty_slots-returns-clause-ok : goal.empty_slots-returns-clause-ok
empty_slots-returns-clause-ok t c =
    last_slot c.args.fields.now c.loop-field.field-index c.loop-field.slots.items c.push-2.new.self.items c.loop-field-test.false c.loop-field.invariant.0
    c.in_ok-push-2.ensures.items

pub empty_struct-of-requires-clause-node : goal.empty_struct-of-requires-clause-node
empty_struct-of-requires-clause-node t c =
    empty_struct_node _ (fields_of c.args.fields.now) c.requires.typed.0 c.in_ok-slots.slots.items (ap type_of c.in_ok-clone.ensures.cases ∙ c.requires.typed.1)
    c.in_ok-slots.ensures.ok
