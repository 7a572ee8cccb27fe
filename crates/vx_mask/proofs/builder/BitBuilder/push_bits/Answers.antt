use Rattle.std.proofs.Common.{arith}
use Rattle.vx_mask.proofs.Pushes.{next_fits, push_in, push_full}
use Rattle.vx_mask.proofs.builder.BitBuilder.push_bits.Goals as goal

pub overflow_add-joined : goal.overflow_add-joined
overflow_add-joined c = record { fits = omega (arith, next_fits c.args.word c.self.inside.last c.self.inside.fill c.self.invariant.1 c.self.invariant.0) }

pub returns-then-fill-lt64-clause-ok : goal.returns-then-fill-lt64-clause-ok
returns-then-fill-lt64-clause-ok c =
    rw (← c.self.view_is)
    (push_in c.self.inside.words.items c.self.inside.last c.self.inside.fill c.args.word c.args.count c.self.invariant.1 c.self.invariant.0 (omega arith))

pub returns-in_ok-push-clause-ok : goal.returns-in_ok-push-clause-ok
returns-in_ok-push-clause-ok c =
    rw (c.in_ok-push.ensures.items, ← c.self.view_is)
    (push_full c.self.inside.words.items c.self.inside.last c.self.inside.fill c.args.word c.args.count c.self.invariant.1 c.self.invariant.0
    c.requires.size (omega arith))
