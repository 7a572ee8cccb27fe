use Rattle.std.proofs.Common.{arith}
use Rattle.vx_tree.proofs.SuspendedLemmas.{first_at, none_more, none_at_all}
use Rattle.vx_tree.proofs.suspended.first_from.Goals as goal

pub returns-in-Some : goal.returns-in-Some
returns-in-Some c = first_at c.args.slots.now c.loop-index.index _ c.index-slots-index.result c.loop-index-test.true c.loop-index.invariant c.index-slots-index.is c.in-Some.is

pub loop-index-preserved : goal.loop-index-preserved
loop-index-preserved c = none_more c.args.slots.now c.loop-index.index c.index-slots-index.result c.loop-index.invariant c.index-slots-index.is c.in-None.is

pub returns : goal.returns
returns c = none_at_all c.args.slots.now c.loop-index.index (omega (arith, c.loop-index-test.false)) c.loop-index.invariant
