use Rattle.std.proofs.Common.{◌-◌, ◌/◌}
use Rattle.vx_mask.proofs.Lists.{lengthened}
use Rattle.vx_mask.proofs.Pushes.{push_copied}
use Rattle.vx_mask.proofs.builder.BitBuilder.push_copies.Goals as goal

pub returns-clause-ok : goal.returns-clause-ok
returns-clause-ok c =
    let rest = c.args.count - (64 - c.self.inside.fill) in
    let old = c.push.new.self in
    let more = lengthened c.resize.new.self.items old.items _ c.len.result (rest / 64) _ c.in_ok-resize.ensures.items old.ok.0 c.len.ensures in
    rw (more, c.in_ok-push.ensures.items, c.reserve.ensures.items, c.filled_word-word.ensures, ← c.self.view_is)
    (push_copied c.self.inside.words.items c.self.inside.last c.self.inside.fill c.args.count c.repeated_bit-self-inside.result c.args.bit
    c.self.invariant.1 c.self.invariant.0 c.if-count-room.false c.repeated_bit-self-inside.ensures.bits)
