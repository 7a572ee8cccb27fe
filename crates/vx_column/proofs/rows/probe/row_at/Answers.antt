use Rattle.std.proofs.Common.{false, pos, refl, sym, ap, subst, ◌∙◌}
use Rattle.std.proofs.lemmas.Result.{IfOk-weaker}
use Rattle.vx_value.specs.Types.{bool, primitive, nullability_of}
use Rattle.vx_value.specs.Values.{boolean, integer, decimal}
use Rattle.vx_value.specs.Storage.{storage_of}
use Rattle.vx_tree.specs.Natives.{values_of, ptype_of}
use Rattle.vx_tree.specs.DecimalNumbers.{numbers_of, decimal_type_of}
use Rattle.vx_tree.specs.ColumnTypes.{scale_of}
use Rattle.vx_tree.specs.Tree as enc
use Rattle.vx_tree.specs.Tree.{dtype}
use Rattle.vx_tree.specs.Well.{IsNodeOf}
use Rattle.vx_column.proofs.CellsLemmas.{null_row, null_typed, valid_row}
use Rattle.vx_column.proofs.rows.probe.row_at.Goals as goal

pub returns-in-Some-false-clause-ok : goal.returns-in-Some-false-clause-ok
returns-in-Some-false-clause-ok c =
    let t = c.args.array.now in
    let flat = subst IsNodeOf c.in-Bool.ensures.0 c.in-Bool.ensures.1 in
    IfOk-weaker c.null_of.result _ _
    (λ s made. null_row boolean enc.bool false t (λ n xs tys css. refl) c.in-Bool.validity.now c.in-Bool.bits.now c.args.index c.in-Some-false.field-0 s
    c.in-Bool.ensures.0 (sym flat.2) c.requires c.in-Some-false.ensures.row c.in-Some-false.field-0-test (made ∙ ap null_typed c.dtype-dtype.ensures.dtype))
    c.null_of.ensures.ok

pub returns-in-Some-false-stored_validity-clause-ok : goal.returns-in-Some-false-stored_validity-clause-ok
returns-in-Some-false-stored_validity-clause-ok c =
    let t = c.args.array.now in
    let values = c.in-Primitive.values.now in
    let flat = subst IsNodeOf c.in-Primitive.ensures.0 c.in-Primitive.ensures.1 in
    let null_here = c.in-Some-false-stored_validity in
    let call = c.null_of-in-Some-false-stored_validity in
    IfOk-weaker call.result _ _
    (λ s made. null_row integer (enc.primitive (ptype_of values)) (pos 0) t (λ n xs tys css. refl) c.in-Primitive.validity.now (values_of values) c.args.index
    null_here.field-0 s c.in-Primitive.ensures.0 (sym flat.2) c.requires null_here.ensures.row null_here.field-0-test
    (made ∙ ap null_typed c.dtype-dtype.ensures.dtype))
    call.ensures.ok

pub returns-in-Some-false-stored_validity-2-clause-ok : goal.returns-in-Some-false-stored_validity-2-clause-ok
returns-in-Some-false-stored_validity-2-clause-ok c =
    let t = c.args.array.now in
    let values = c.in-Decimal.values.now in
    let flat = subst IsNodeOf c.in-Decimal.ensures.0 c.in-Decimal.ensures.1 in
    let null_here = c.in-Some-false-stored_validity-2 in
    let call = c.null_of-in-Some-false-stored_validity-2 in
    IfOk-weaker call.result _ _
    (λ s made. null_row (λ z. decimal z (scale_of (storage_of (dtype t)))) (enc.decimals (decimal_type_of values)) (pos 0) t (λ n xs tys css. refl)
    c.in-Decimal.validity.now (numbers_of values) c.args.index null_here.field-0 s c.in-Decimal.ensures.0 (sym flat.0.2) c.requires null_here.ensures.row
    null_here.field-0-test (made ∙ ap null_typed c.dtype-dtype.ensures.dtype)) call.ensures.ok

pub returns-in-Some-true-clause-ok : goal.returns-in-Some-true-clause-ok
returns-in-Some-true-clause-ok c =
    let t = c.args.array.now in
    let k = c.in-Bool in
    let flat = subst IsNodeOf k.ensures.0 k.ensures.1 in
    let valid = c.in-Some-true in (
      valid_row boolean enc.bool t (λ n xs tys css. refl) k.validity.now k.bits.now c.args.index valid.field-0 c.bool_at.result k.ensures.0
          c.bool_at.ensures.row valid.ensures.row valid.field-0-test,
      c.bool_at.ensures.typed ∙ ap (λ ty. bool (nullability_of ty)) c.dtype-dtype.ensures.dtype ∙ sym flat.1,
    )

pub returns-in-Some-true-stored_validity-clause-ok : goal.returns-in-Some-true-stored_validity-clause-ok
returns-in-Some-true-stored_validity-clause-ok c =
    let t = c.args.array.now in
    let k = c.in-Primitive in
    let p = ptype_of k.values.now in
    let flat = subst IsNodeOf k.ensures.0 k.ensures.1 in
    let valid = c.in-Some-true-stored_validity in (
      valid_row integer (enc.primitive p) t (λ n xs tys css. refl) k.validity.now (values_of k.values.now) c.args.index valid.field-0 c.integer_at.result
          k.ensures.0 c.integer_at.ensures.row valid.ensures.row valid.field-0-test,
      c.integer_at.ensures.typed ∙ ap (λ ty. primitive p (nullability_of ty)) c.dtype-dtype.ensures.dtype ∙ sym flat.1,
    )

pub returns-in-Some-true-stored_validity-2-clause-ok : goal.returns-in-Some-true-stored_validity-2-clause-ok
returns-in-Some-true-stored_validity-2-clause-ok c =
    let t = c.args.array.now in
    let k = c.in-Decimal in
    let valid = c.in-Some-true-stored_validity-2 in (
      valid_row (λ z. decimal z (scale_of (storage_of (dtype t)))) (enc.decimals (decimal_type_of k.values.now)) t (λ n xs tys css. refl) k.validity.now
          (numbers_of k.values.now) c.args.index valid.field-0 c.decimal_at.result k.ensures.0 c.decimal_at.ensures.row valid.ensures.row valid.field-0-test,
      c.decimal_at.ensures.typed,
    )
