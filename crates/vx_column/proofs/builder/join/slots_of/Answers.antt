use Rattle.std.proofs.Common.{arith}
use Rattle.vx_column.proofs.PiecesLemmas.{slot_within, slot_holds, slots_more}
use Rattle.vx_column.proofs.builder.join.slots_of.Goals as goal

pub offset_bounds-slots-index : goal.offset_bounds-slots-index
offset_bounds-slots-index c =
    let within = slot_within c.args.pieces.now c.args.index c.loop-piece.piece-index c.piece-item.result c.slots.result.now c.requires
    c.loop-piece-test.true c.piece-item.is c.slots.ensures in
    omega arith

pub bounds-slots-index : goal.bounds-slots-index
bounds-slots-index c =
    slot_within c.args.pieces.now c.args.index c.loop-piece.piece-index c.piece-item.result c.slots.result.now c.requires c.loop-piece-test.true
    c.piece-item.is c.slots.ensures

pub unreachable-requires : goal.unreachable-requires
unreachable-requires c =
    slot_holds c.args.pieces.now c.args.index c.loop-piece.piece-index c.piece-item.result c.slots.result.now c.requires c.loop-piece-test.true
    c.piece-item.is c.slots.ensures c.index-slots-index.result c.index-slots-index.is c.in_default.is

pub loop-piece-preserved : goal.loop-piece-preserved
loop-piece-preserved c =
    slots_more c.args.pieces.now c.args.index c.loop-piece.piece-index c.piece-item.result c.slots.result.now c.requires c.loop-piece-test.true
    c.piece-item.is c.slots.ensures c.index-slots-index.result c.in-Some.tree c.in_ok-clone.field-0 c.loop-piece.trees.items c.push.new.self.items
    c.index-slots-index.is c.in-Some.is c.in_ok-clone.ensures.cases c.loop-piece.invariant c.in_ok-push.ensures.items
