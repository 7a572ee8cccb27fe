use Rattle.std.proofs.lemmas.Result.{err_from_is_err_and}
use Rattle.vx_column.specs.Arguments.{IsArgument}
use Rattle.vx_column.proofs.ArgumentsLemmas.{zipped_more, any_memory, any_unread}
use Rattle.vx_column.proofs.NestedLemmas.{unnested_at}
use Rattle.vx_column.proofs.rows.argument.arguments_of.Goals as goal

pub loop-column-preserved : goal.loop-column-preserved
loop-column-preserved c =
    rw c.in_ok-push-in-Ok.ensures.items
    (zipped_more IsArgument c.args.columns.now c.loop-column.arguments.items c.loop-column.column-index c.column-item.result c.in-Ok.argument
    c.loop-column-test.true c.column-item.is c.loop-column.invariant c.in-Ok.ensures.ok)

pub returns-in_err-arguments-clause-err : goal.returns-in_err-arguments-clause-err
returns-in_err-arguments-clause-err c =
    let p = err_from_is_err_and c.from_residual.result c.from_residual.ensures.1 in
    rw (p.1, p.2) (any_memory c.args.columns.now)

pub returns-in-Err-clause-err : goal.returns-in-Err-clause-err
returns-in-Err-clause-err c =
    any_unread c.args.columns.now c.loop-column.column-index c.column-item.result c.in-Err.e c.loop-column-test.true c.column-item.is c.in-Err.ensures.err

pub returns-in_err-push-in-Ok-clause-err : goal.returns-in_err-push-in-Ok-clause-err
returns-in_err-push-in-Ok-clause-err c =
    let p = err_from_is_err_and c.from_residual-in_err-push-in-Ok.result c.from_residual-in_err-push-in-Ok.ensures.1 in
    rw (p.1, p.2) (any_memory c.args.columns.now)

pub argument_of-requires : goal.argument_of-requires
argument_of-requires c = unnested_at c.args.columns.now c.loop-column.column-index c.column-item.result c.requires c.loop-column-test.true c.column-item.is
