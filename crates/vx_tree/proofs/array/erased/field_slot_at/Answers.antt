use Rattle.std.proofs.Common.{◌≡◌, ◌∙◌, sym, ap, Some, ltb-true}
use Rattle.std.proofs.lemmas.Bool.{ltb-false}
use Rattle.std.specs.Prelude.{slice_get}
use Rattle.vx_value.specs.View.{fields_of}
use Rattle.vx_tree.specs.Tree.{struct_names, field_slot_name}
use Rattle.vx_tree.proofs.FieldNamesLemmas.{last_name, field_name, no_name}
use Rattle.vx_tree.proofs.array.erased.field_slot_at.Goals as goal

pub returns-then-index-fields : goal.returns-then-index-fields
returns-then-index-fields c =
    sym (ap (slice_get (struct_names (fields_of c.args.fields.now))) c.if-index-fields.true ∙ last_name c.args.fields.now)

pub returns-in-Some : goal.returns-in-Some
returns-in-Some c =
    let found = c.in-Some.ensures.lookup in
    let named = field_name c.args.fields.now c.args.index c.in-Some.field.now (ltb-true _ _ (sym found.0)) found.1 in
    ap Some (c.field_slot.ensures ∙ ap field_slot_name c.as_str.ensures) ∙ sym named

pub returns-in-None : goal.returns-in-None
returns-in-None c =
    let past = c.in-None.ensures.lookup in
    sym (no_name c.args.fields.now c.args.index (ltb-false _ _ (sym past.0)) c.if-index-fields.false)
