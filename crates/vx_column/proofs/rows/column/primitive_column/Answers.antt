use Rattle.std.proofs.Common.{inl, inr, length}
use Rattle.std.proofs.lemmas.Result.{err_from_is_err_and}
use Rattle.vx_value.specs.Types.{primitive}
use Rattle.vx_value.specs.declared.dtype.Nullability.TheVariants.{NonNullable}
use Rattle.vx_tree.specs.Natives.{values_of, ptype_of}
use Rattle.vx_column.proofs.NullRowsLemmas.{flat_taken}
use Rattle.vx_column.proofs.rows.column.primitive_column.Goals as goal

pub returns-in_err-column-clause-err : goal.returns-in_err-column-clause-err
returns-in_err-column-clause-err c =
    let zs = c.args.values in
    let p = err_from_is_err_and c.from_residual.result c.from_residual.ensures.1 in
    let taken =
    flat_taken (primitive (ptype_of zs) NonNullable) (primitive c.ptype.result c.nullability.result) (length (values_of zs)) c.args.validity.now c.requires
    (λ i. primitive (c.ptype.ensures i) (c.nullability.ensures i)) in
    rw (p.1, p.2)
    (elim c.in_err-column.ensures.refused [
      | inl memory ↦ memory
      | inr refused ↦ absurd (cc (taken, refused))
    ])
