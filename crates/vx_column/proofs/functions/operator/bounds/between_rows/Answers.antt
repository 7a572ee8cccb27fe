use Rattle.std.proofs.Common.{sym}
use Rattle.vx_value.specs.Order.{value_cmp}
use Rattle.vx_column.specs.Arguments.{value_at}
use Rattle.vx_column.specs.declared.rows.argument.ArgumentRows.TheVariants.{Bytes}
use Rattle.vx_column.proofs.BetweenLemmas.{values_between}
use Rattle.vx_column.proofs.functions.operator.bounds.between_rows.Goals as goal

pub returns-in-Bytes-Bytes-Bytes : goal.returns-in-Bytes-Bytes-Bytes
returns-in-Bytes-Bytes-Bytes c =
    let arm = c.in-Bytes-Bytes-Bytes in
    values_between c.args.options c.args.valid.now c.args.array c.args.lower c.args.upper (value_at (Bytes arm.array)) (value_at (Bytes arm.lower))
    (value_at (Bytes arm.upper)) c.args.len _ (λ i j. value_cmp (value_at (sym arm.is-1 j) i) (value_at (sym arm.is-0 j) i))
    (λ i j. value_cmp (value_at (sym arm.is-0 j) i) (value_at (sym arm.is-2 j) i)) c.between_ordered.ensures
