use Rattle.std.proofs.Common.{arith, sym, subst, ◌∙◌}
use Rattle.std.specs.List.{AllZip}
use Rattle.std.proofs.lemmas.List.{take_all}
use Rattle.std.proofs.lemmas.Result.{IfErr-weaker}
use Rattle.vx_column.specs.Read.{IsRow}
use Rattle.vx_column.proofs.ArgumentsLemmas.{zipped_more}
use Rattle.vx_column.proofs.CellsLemmas.{IfOk-both}
use Rattle.vx_column.proofs.RowByRowLemmas.{IsReadFrom, column_unread, row_taken, row_applied, row_unapplied}
use Rattle.vx_column.proofs.functions.apply.each.apply_at.Goals as goal

pub returns-in-Err-clause-err : goal.returns-in-Err-clause-err
returns-in-Err-clause-err c =
    column_unread c.args.function.now c.args.arguments.now c.args.index c.requires c.loop-column.column-index c.column-item.result c.as_array.result.now c.in-Err.e
    c.loop-column-test.true c.column-item.is c.as_array.ensures.of c.in-Err.ensures.err

pub loop-column-preserved : goal.loop-column-preserved
loop-column-preserved c =
    let i = c.args.index in
    let read = subst (λ t. IsRow t i c.in-Ok.scalar) c.as_array.ensures.of c.in-Ok.ensures.ok in
    rw c.in_ok-push-in-Ok.ensures.items
    (zipped_more (IsReadFrom i) c.args.arguments.now c.loop-column.scalars.items c.loop-column.column-index c.column-item.result c.in-Ok.scalar
    c.loop-column-test.true c.column-item.is c.loop-column.invariant read)

pub apply_row-requires : goal.apply_row-requires
apply_row-requires c =
    let xs = c.args.arguments.now in
    let ss = c.as_slice.result.now in
    let read : AllZip (IsReadFrom c.args.index) xs ss =
    rw (c.as_slice.ensures.value, sym (take_all c.loop-column.column-index xs c.loop-column-test.false)) c.loop-column.invariant in
    row_taken c.args.function.now xs c.args.index c.requires ss read

pub returns-clause-ok : goal.returns-clause-ok
returns-clause-ok c =
    let xs = c.args.arguments.now in
    let ss = c.as_slice.result.now in
    let read : AllZip (IsReadFrom c.args.index) xs ss =
    rw (c.as_slice.ensures.value, sym (take_all c.loop-column.column-index xs c.loop-column-test.false)) c.loop-column.invariant in
    IfOk-both c.apply_row.result (row_applied c.args.function.now xs c.args.index c.requires ss read) c.apply_row.ensures.typed c.apply_row.ensures.ok

pub returns-clause-err : goal.returns-clause-err
returns-clause-err c =
    let xs = c.args.arguments.now in
    let ss = c.as_slice.result.now in
    let read : AllZip (IsReadFrom c.args.index) xs ss =
    rw (c.as_slice.ensures.value, sym (take_all c.loop-column.column-index xs c.loop-column-test.false)) c.loop-column.invariant in
    IfErr-weaker c.apply_row.result _ _ (row_unapplied c.args.function.now xs c.args.index c.requires ss read) c.apply_row.ensures.fault
