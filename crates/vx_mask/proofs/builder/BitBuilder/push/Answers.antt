use Rattle.std.proofs.Common.{arith}
use Rattle.vx_mask.proofs.Pushes.{flag_in, flag_full}
use Rattle.vx_mask.proofs.builder.BitBuilder.push.Goals as goal

pub returns-in_ok-push-clause-ok : goal.returns-in_ok-push-clause-ok
returns-in_ok-push-clause-ok c =
    rw (c.in_ok-push.ensures.items, c.from.ensures, ← c.self.view_is)
    (flag_full c.self.inside.words.items c.self.inside.last c.self.inside.fill c.args.bit c.self.invariant.1 c.if-self-eq63.true)

pub returns-else-self-eq63-clause-ok : goal.returns-else-self-eq63-clause-ok
returns-else-self-eq63-clause-ok c =
    rw (c.from.ensures, ← c.self.view_is)
    (flag_in c.self.inside.words.items c.self.inside.last c.self.inside.fill c.args.bit c.self.invariant.1 (omega (arith, c.self.invariant.0)))
