use Rattle.std.proofs.Common.{◌≡◌, IfErr, refl, sym, subst}
use Rattle.vx_value.specs.declared.error.VortexError.TheVariants.{Fault}
use Rattle.vx_tree.specs.Tree.{Tree}
use Rattle.vx_step.specs.Steps.{HasNoShortcut, IsStepTo, IsStopped}
use Rattle.vx_step.specs.declared.steps.ExecutionStep.{ExecutionStep}
use Rattle.vx_exec.specs.Frames.{active, filled, focus_on, IsFocus}
use Rattle.vx_exec.specs.Moves.{IsMove, IsAppendedTo, IsNotAppended, ended}
use Rattle.vx_exec.proofs.MovesLemmas.{may_end, move_append, move_end, append_stopped, append_faulty, step_stopped, step_faulty, ok_weaker, both_ok, err_weaker}
use Rattle.vx_exec.proofs.turn.advance.Goals as goal

pub enter-requires-clause-direct : goal.enter-requires-clause-direct
enter-requires-clause-direct g c =
    let t = c.args.node in
    let u = c.into_parts-node.result.0 in
    let step = subst (λ (p : Tree × ExecutionStep). IsStepTo t p.0 p.1) (sym c.into_parts-node.ensures) c.in-Ok.ensures.ok in
    let e = subst (λ s. IsStepTo t u s) c.in-ExecuteSlot.is step in
    subst HasNoShortcut (sym e.0) e.1

pub end-requires : goal.end-requires
end-requires g c =
    let t = c.args.node in
    let u = c.into_parts-node.result.0 in
    let step = subst (λ (p : Tree × ExecutionStep). IsStepTo t p.0 p.1) (sym c.into_parts-node.ensures) c.in-Ok.ensures.ok in
    may_end g.M.Matcher.fits c.args.frames.now.items c.args.builder t u c.requires.going (subst (λ s. IsStepTo t u s) c.in-Done.is step)

pub returns-in-AppendChild-clause-ok : goal.returns-in-AppendChild-clause-ok
returns-in-AppendChild-clause-ok g c =
    let fs = c.args.frames.now.items in
    let b = c.args.builder in
    let t = c.args.node in
    let u = c.into_parts-node.result.0 in
    let i = c.in-AppendChild.slot in
    let step = subst (λ (p : Tree × ExecutionStep). IsStepTo t p.0 p.1) (sym c.into_parts-node.ensures) c.in-Ok.ensures.ok in
    let e = subst (λ s. IsStepTo t u s) c.in-AppendChild.is step in
    ok_weaker c.append.result (IsAppendedTo i b u) (λ d. IsMove g.M.Matcher.fits fs (focus_on b t) fs d)
    (λ d h. move_append g.M.Matcher.fits fs b t i d c.requires.going e.1 (subst (λ x. IsAppendedTo i b x d) e.0 h)) c.append.ensures.ok

pub returns-in-AppendChild-clause-err : goal.returns-in-AppendChild-clause-err
returns-in-AppendChild-clause-err g c =
    let fs = c.args.frames.now.items in
    let b = c.args.builder in
    let t = c.args.node in
    let u = c.into_parts-node.result.0 in
    let i = c.in-AppendChild.slot in
    let step = subst (λ (p : Tree × ExecutionStep). IsStepTo t p.0 p.1) (sym c.into_parts-node.ensures) c.in-Ok.ensures.ok in
    let e = subst (λ s. IsStepTo t u s) c.in-AppendChild.is step in
    err_weaker c.append.result (IsNotAppended i u) (IsStopped (filled fs (active b t)))
    (λ x h. append_stopped g.M.Matcher.fits fs b t i x c.requires.going (subst (λ y. IsNotAppended i y x) e.0 h)) c.append.ensures.err

pub returns-in-AppendChild-clause-fault : goal.returns-in-AppendChild-clause-fault
returns-in-AppendChild-clause-fault g c = λ same.
    let fs = c.args.frames.now.items in
    let b = c.args.builder in
    let t = c.args.node in
    let u = c.into_parts-node.result.0 in
    let i = c.in-AppendChild.slot in
    let step = subst (λ (p : Tree × ExecutionStep). IsStepTo t p.0 p.1) (sym c.into_parts-node.ensures) c.in-Ok.ensures.ok in
    let e = subst (λ s. IsStepTo t u s) c.in-AppendChild.is step in
    let bad : IsNotAppended i u Fault = subst (λ r. IfErr r (IsNotAppended i u)) same c.append.ensures.err in
    append_faulty g.M.Matcher.fits fs b t i Fault c.requires.going e.1 refl (subst (λ y. IsNotAppended i y Fault) e.0 bad)

pub returns-in-Done-clause-ok : goal.returns-in-Done-clause-ok
returns-in-Done-clause-ok g c =
    let fs = c.args.frames.now.items in
    let b = c.args.builder in
    let t = c.args.node in
    let u = c.into_parts-node.result.0 in
    let step = subst (λ (p : Tree × ExecutionStep). IsStepTo t p.0 p.1) (sym c.into_parts-node.ensures) c.in-Ok.ensures.ok in
    let e = subst (λ s. IsStepTo t u s) c.in-Done.is step in
    both_ok c.end.result (λ d. d ≡ ended b u) IsFocus (λ d. IsMove g.M.Matcher.fits fs (focus_on b t) fs d)
    (λ d h k. move_end g.M.Matcher.fits fs b t u d c.requires.going e h k) c.end.ensures.ok c.end.ensures.formed

pub returns-in-Err-clause-err : goal.returns-in-Err-clause-err
returns-in-Err-clause-err g c =
    step_stopped g.M.Matcher.fits c.args.frames.now.items c.args.builder c.args.node c.in-Err.e c.requires.going c.in-Err.ensures.err c.in-Err.ensures.used

pub returns-in-Err-clause-fault : goal.returns-in-Err-clause-fault
returns-in-Err-clause-fault g c = λ e.
    let same : c.in-Err.e ≡ Fault = cc in
    step_faulty g.M.Matcher.fits c.args.frames.now.items c.args.builder c.args.node c.in-Err.e c.requires.going same c.in-Err.ensures.err
