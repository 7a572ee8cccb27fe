use Rattle.std.proofs.Common.{◌∷◌, [], true, Some, refl, ap}
use Rattle.std.specs.Ordering.{bool_cmp, is_ne}
use Rattle.vx_value.specs.Types.{bool}
use Rattle.vx_value.specs.Values.{boolean}
use Rattle.vx_value.specs.Cell.{value}
use Rattle.vx_value.specs.declared.dtype.Nullability.TheVariants.{NonNullable}
use Rattle.vx_mask.specs.Operands.{bit_in}
use Rattle.vx_mask.proofs.Operations.{differs_from_true}
use Rattle.vx_fn.specs.declared.function.ScalarFnRef.TheVariants.{Not}
use Rattle.vx_column.specs.Arguments.{value_at}
use Rattle.vx_column.specs.declared.rows.argument.ArgumentRows.TheVariants.{Bits}
use Rattle.vx_column.proofs.FilledLemmas.{bools_filled}
use Rattle.vx_column.proofs.functions.operator.boolean.negate_bits.Goals as goal

pub returns-clause-ok : goal.returns-clause-ok
returns-clause-ok c =
    let l = c.args.input in
    bools_filled Not (bool NonNullable ∷ []) (Some (bool NonNullable)) (λ i. value (value_at (Bits l) i) ∷ []) c.args.valid.now c.args.len c.valid_bools.result
    (λ i. is_ne (bool_cmp (bit_in l i) true)) c.in_ok-bits.bits refl (λ i lt here. ap (λ b. value (boolean b)) (differs_from_true (bit_in l i)))
    c.in_ok-bits.ensures c.valid_bools.ensures.ok
