use Rattle.std.proofs.Common.{if◌then◌else◌, sym, ap, ◌∙◌}
use Rattle.vx_value.specs.Types.{nullability_of}
use Rattle.vx_tree.specs.Validities.{without_nulls}
use Rattle.vx_tree.specs.declared.validity.Validity.TheVariants.{AllInvalid}
use Rattle.vx_column.proofs.canonicalize.repeated_validity.Goals as goal

pub returns-then-is_null : goal.returns-then-is_null
returns-then-is_null c =
    let m = nullability_of c.args.scalar.now.of_type in
    sym (ap (λ b. if b then AllInvalid else without_nulls m) (sym c.is_null.ensures ∙ c.if-is_null.true))

pub returns-else-is_null : goal.returns-else-is_null
returns-else-is_null c =
    let m = nullability_of c.args.scalar.now.of_type in
    c.from.ensures ∙ ap without_nulls (c.nullability.ensures ∙ ap nullability_of c.dtype.ensures.dtype)
    ∙ sym (ap (λ b. if b then AllInvalid else without_nulls m) (sym c.is_null.ensures ∙ c.if-is_null.false))
