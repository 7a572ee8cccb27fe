use Rattle.std.proofs.Common.{sym, subst}
use Rattle.vx_exec.specs.Moves.{IsFaulty}
use Rattle.vx_exec.proofs.turn.take_turn.Goals as goal

pub returns-in-Whole-clause-fault : goal.returns-in-Whole-clause-fault
returns-in-Whole-clause-fault g c = λ same.
    subst (λ x. IsFaulty g.M.Matcher.fits c.args.frames.now.items x) (sym c.in-Whole.is) (c.turn_whole.ensures.fault same)
