use Rattle.std.proofs.Common.{sym}
use Rattle.vx_value.specs.Types.{bool}
use Rattle.vx_value.specs.declared.dtype.Nullability.TheVariants.{NonNullable}
use Rattle.vx_mask.specs.Operands.{bit_in}
use Rattle.vx_fn.specs.Binary.{operator_type}
use Rattle.vx_fn.specs.declared.function.ScalarFnRef.TheVariants.{Binary}
use Rattle.vx_column.specs.Arguments.{pair_types, pair_at}
use Rattle.vx_column.specs.Bits.{bit_by}
use Rattle.vx_column.specs.ValidRows.{nullability_in}
use Rattle.vx_column.specs.declared.rows.argument.ArgumentRows.TheVariants.{Bits}
use Rattle.vx_column.proofs.FilledLemmas.{bools_filled}
use Rattle.vx_column.proofs.OperatorLemmas.{bools_typed, bools_valued}
use Rattle.vx_column.proofs.functions.operator.boolean.operate_bools.Goals as goal

pub returns-clause-ok : goal.returns-clause-ok
returns-clause-ok c =
    let m = nullability_in c.args.valid.now in
    let op = c.args.operator in
    let l = c.args.lhs in
    let r = c.args.rhs in
    bools_filled (Binary op) (pair_types (Bits l) (Bits r)) (operator_type op (bool NonNullable)) (pair_at (Bits l) (Bits r)) c.args.valid.now c.args.len c.valid_bools.result
    (λ i. bit_by op (bit_in l i) (bit_in r i)) c.in_ok-bits.bits (bools_typed op m c.requires.taken)
    (λ i lt here. sym (bools_valued op m (bit_in l i) (bit_in r i))) c.in_ok-bits.ensures c.valid_bools.ensures.ok
