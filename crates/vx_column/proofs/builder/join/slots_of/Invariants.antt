use Rattle.std.proofs.Common.{◌≡◌, take}
use Rattle.vx_column.specs.Joined.{slot_of_each}
use Rattle.vx_column.specs.Pieces.{columns_in}
use Rattle.vx_column.proofs.builder.join.slots_of.Given as goal

abbrev pub invariant-loop-piece : goal.invariant-loop-piece
invariant-loop-piece l = l.trees.items ≡ slot_of_each l.index (columns_in (take l.piece-index l.pieces))
