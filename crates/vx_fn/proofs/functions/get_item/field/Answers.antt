use Rattle.std.proofs.Common.{◌≡◌, true, [], ◌∷◌, ap, sym, ◌∙◌}
use Rattle.std.specs.Prelude.{option_map}
use Rattle.vx_value.specs.View.{type_of, cell_of}
use Rattle.vx_value.specs.IsOf.{is_of}
use Rattle.vx_value.specs.Fits.{ListsFit}
use Rattle.vx_fn.specs.GetItem.{get_item}
use Rattle.vx_fn.proofs.GetItemLemmas.{item_held}
use Rattle.vx_fn.proofs.functions.get_item.field.Goals as goal
use Rattle.vx_fn.proofs.functions.get_item.field.Goals.{In_ok-field_value}

-- the value is of the type, and lists in it fit
held : (c : In_ok-field_value) → let ty = type_of c.in-Some.dtype in
    let v = cell_of c.in_ok-field_value.field-0 in (is_of ty v ≡ true) × ListsFit ty v
held c =
    let i = c.args.input.now in
    let name = c.args.name.now in
    item_held name i.of_type (type_of c.in-Some.dtype) i.value (cell_of c.in_ok-field_value.field-0)
    (ap (λ t. (get_item name).types (t ∷ [])) (sym c.dtype.ensures.dtype) ∙ sym c.in_ok-dtype.ensures.ok ∙ ap (option_map type_of) c.in-Some.is)
    c.dtype.ensures.typed c.dtype.ensures.fits c.in_ok-field_value.ensures.ok

pub new_unchecked-requires-clause-typed : goal.new_unchecked-requires-clause-typed
new_unchecked-requires-clause-typed c = (held (goal.at.new_unchecked-requires-clause-typed c).In_ok-field_value).0

pub new_unchecked-requires-clause-fits : goal.new_unchecked-requires-clause-fits
new_unchecked-requires-clause-fits c = (held (goal.at.new_unchecked-requires-clause-fits c).In_ok-field_value).1
