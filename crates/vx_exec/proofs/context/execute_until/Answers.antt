use Rattle.std.proofs.Common.{◌≡◌, refl, sym, ◌∙◌, ap, subst, arith}
use Rattle.vx_exec.specs.Moves.{GoesOn, IsTurned}
use Rattle.vx_value.specs.declared.error.VortexError.TheVariants.{Fault}
use Rattle.vx_exec.proofs.MovesLemmas.{loop_begins, loop_moves, loop_short, goes_on, faults_in, never_moves, reached_at_once, well_node}
use Rattle.vx_exec.proofs.context.execute_until.Goals as goal

pub loop-ctx-init : goal.loop-ctx-init
loop-ctx-init g c = record {
  reached = loop_begins g.M.Matcher.fits c.args.array c.new-frames.result.items (well_node c.args.array c.well_formed_tree.ensures.formed) c.new-frames.ensures.items;
  within = omega arith;
  kept = refl;
  session = refl;
}

pub returns-clause-limit : goal.returns-clause-limit
returns-clause-limit g c = λ l e.
    let loop = c.loop-ctx.invariant.reached in
    let short = loop_short g.M.Matcher.fits c.args.array c.loop-ctx.frames.items c.loop-ctx.current c.loop-ctx.ctx.turns loop in
    let same : c.loop-ctx.ctx.limit ≡ l = cc in
    let told : c.loop-ctx.ctx.turns ≡ l = omega (arith, c.loop-ctx-test.false) in (
      sym same ∙ c.loop-ctx.invariant.kept,
      omega (arith, c.loop-ctx-test.false),
      omega (arith, c.loop-ctx-test.false),
      subst (λ n. GoesOn g.M.Matcher.fits c.args.array n) told
          (goes_on g.M.Matcher.fits c.args.array c.loop-ctx.frames.items c.loop-ctx.current c.loop-ctx.ctx.turns loop),
    )

pub returns-clause-at_once : goal.returns-clause-at_once
returns-clause-at_once g c = λ h l.
    let loop = c.loop-ctx.invariant.reached in
    let none = never_moves g.M.Matcher.fits c.args.array c.loop-ctx.ctx.turns c.loop-ctx.frames.items c.loop-ctx.current h loop.moved in
    let limit : c.loop-ctx.ctx.limit ≡ c.args.ctx.now.limit = c.loop-ctx.invariant.kept in
    absurd (omega (arith, c.loop-ctx-test.false, none.0, limit, l))

pub returns-in-Err-clause-at_once : goal.returns-in-Err-clause-at_once
returns-in-Err-clause-at_once g c = λ h l.
    let loop = c.loop-ctx.invariant.reached in
    let none = never_moves g.M.Matcher.fits c.args.array c.loop-ctx.ctx.turns c.loop-ctx.frames.items c.loop-ctx.current h loop.moved in
    c.in-Err.ensures.returns none.1 (reached_at_once g.M.Matcher.fits c.args.array c.loop-ctx.current h none.2)

pub returns-in-Err-clause-fault : goal.returns-in-Err-clause-fault
returns-in-Err-clause-fault g c = λ e.
    let same : c.in-Err.e ≡ Fault = cc in
    faults_in g.M.Matcher.fits c.args.array c.loop-ctx.frames.items c.loop-ctx.current c.loop-ctx.ctx.turns c.loop-ctx.invariant.reached
    (c.in-Err.ensures.fault (cc))

pub loop-ctx-preserved : goal.loop-ctx-preserved
loop-ctx-preserved g c =
    let loop = c.loop-ctx.invariant.reached in
    let next = c.take_turn.new.frames.items in
    record {
      reached =
          loop_moves g.M.Matcher.fits c.args.array c.loop-ctx.frames.items next c.loop-ctx.current c.in-Ok-Go.next c.loop-ctx.ctx.turns loop
          (subst (IsTurned g.M.Matcher.fits c.loop-ctx.frames.items c.loop-ctx.current next) c.in-Ok-Go.field-0-is c.in-Ok-Go.ensures.ok);
      within = omega (arith, c.loop-ctx-test.true);
      kept = c.loop-ctx.invariant.kept;
      session = c.loop-ctx.invariant.session;
    }
