use Rattle.std.proofs.Common.{IfOk, IfErr, map, subst}
use Rattle.vx_tree.specs.Canonicals.{canonical_tree}
use Rattle.vx_column.specs.ValidRows.{is_valid}
use Rattle.vx_column.specs.Casts.{rescaled_item}
use Rattle.vx_column.specs.Operands.{IsFaultyRow, IsDecimalColumnOf}
use Rattle.vx_column.proofs.functions.cast.rescale.rescale_buffer.Goals as goal

pub returns-clause-ok : goal.returns-clause-ok
returns-clause-ok g c =
    let x = c.args.rescaling in
    let valid = c.args.valid.now in
    let r = c.calculated_decimals.result in
    subst (λ xs. IfOk r (λ u. IsDecimalColumnOf x.target valid (rescaled_item x (map g.T.Number.value xs)) c.args.len (canonical_tree u)))
    c.as_slice.ensures c.calculated_decimals.ensures.ok

pub returns-clause-err : goal.returns-clause-err
returns-clause-err g c =
    let x = c.args.rescaling in
    subst (λ xs. IfErr c.calculated_decimals.result (IsFaultyRow (is_valid c.args.valid.now) (rescaled_item x (map g.T.Number.value xs)) c.args.len))
    c.as_slice.ensures c.calculated_decimals.ensures.err
