use Rattle.std.proofs.Common.{arith}
use Rattle.vx_column.proofs.PiecesLemmas.{rows_within, passed_at, passed_all}
use Rattle.vx_column.proofs.builder.join.valid_in.Goals as goal

pub push_valid-requires-clause-fits : goal.push_valid-requires-clause-fits
push_valid-requires-clause-fits c =
    let within = rows_within c.args.pieces.now c.loop-piece.piece-index c.piece-item.result c.loop-piece-test.true c.piece-item.is in
    omega arith

pub overflow_add-rows : goal.overflow_add-rows
overflow_add-rows c =
    let within = rows_within c.args.pieces.now c.loop-piece.piece-index c.piece-item.result c.loop-piece-test.true c.piece-item.is in
    omega arith

pub loop-piece-preserved : goal.loop-piece-preserved
loop-piece-preserved c =
    passed_at c.requires.structs.0 c.args.nullability c.args.pieces.now c.loop-piece.piece-index c.piece-item.result c.loop-piece.rows
    c.len-more.result c.loop-piece.valid c.push_valid.new.self c.loop-piece-test.true c.piece-item.is c.requires.structs.1 c.loop-piece.invariant
    c.len-more.ensures c.in_ok-push_valid.ensures.ok

pub returns-clause-ok : goal.returns-clause-ok
returns-clause-ok c =
    passed_all c.args.nullability c.args.pieces.now c.loop-piece.piece-index c.loop-piece.rows c.args.len c.loop-piece.valid (omega arith)
    c.loop-piece.invariant c.requires.counted c.in_ok-finish.field-0 c.in_ok-finish.ensures
