use Rattle.std.proofs.Common.{◌≡◌, true, sym, ap, subst, ◌∙◌}
use Rattle.vx_exec.specs.Moves.{is_reached, IsFaulty}
use Rattle.vx_exec.specs.declared.turn.Focus.TheVariants.{Whole}
use Rattle.vx_exec.proofs.FramesLemmas.{frame_popped}
use Rattle.vx_exec.proofs.MovesLemmas.{move_pop, fault_on}
use Rattle.vx_exec.proofs.turn.turn_whole.Goals as goal

pub resume-requires : goal.resume-requires
resume-requires g c = frame_popped c.args.frames.now.items c.pop.new.self.items c.in-Some.frame c.args.array c.in-Some.ensures.items c.requires

pub returns-in_ok-resume-in-Some-clause-ok : goal.returns-in_ok-resume-in-Some-clause-ok
returns-in_ok-resume-in-Some-clause-ok g c =
    let fs = c.args.frames.now.items in
    let reached : is_reached g.M.Matcher.fits fs c.args.array ≡ true = sym
    (c.is_reached.ensures ∙ ap (λ x. is_reached g.M.Matcher.fits x c.args.array) c.deref.ensures.value) ∙ c.if-is_reached.true in
    move_pop g.M.Matcher.fits fs c.pop.new.self.items c.in-Some.frame c.args.array c.in_ok-resume-in-Some.field-0 reached c.in-Some.ensures.items c.requires
    c.in_ok-resume-in-Some.ensures.ok

pub returns-clause-fault : goal.returns-clause-fault
returns-clause-fault g c =
    let fs = c.args.frames.now.items in
    fault_on (IsFaulty g.M.Matcher.fits fs (Whole c.args.array)) c.advance.result c.go.result
    (λ same. subst (λ x. IsFaulty g.M.Matcher.fits fs (Whole x)) c.of.ensures.is (c.advance.ensures.fault same)) c.go.ensures.ok c.go.ensures.err
