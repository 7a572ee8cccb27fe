use Rattle.std.proofs.Common.{take}
use Rattle.vx_column.proofs.PiecesLemmas.{ArePassed}
use Rattle.vx_column.proofs.builder.join.valid_in.Given as goal

abbrev pub invariant-loop-piece : goal.invariant-loop-piece
invariant-loop-piece l = ArePassed l.nullability (take l.piece-index l.pieces) l.rows l.valid
