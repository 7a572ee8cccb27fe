use Rattle.std.proofs.Common.{sym, ◌∙◌}
use Rattle.vx_exec.proofs.MovesLemmas.{reached_last}
use Rattle.vx_exec.proofs.turn.is_reached.Goals as goal

pub returns-in-Some : goal.returns-in-Some
returns-in-Some g c =
    c.is_met_by.ensures ∙ reached_last g.M.Matcher.fits c.args.frames.now c.in-Some.frame.now c.args.current.now
    (sym c.is.ensures ∙ c.if-is.false) c.in-Some.ensures.value
