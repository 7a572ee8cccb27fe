use Rattle.std.proofs.Common.{◌≡◌, ◌≤◌, ◌-◌}
use Rattle.vx_exec.proofs.MovesLemmas.{IsLoop}
use Rattle.vx_exec.proofs.context.execute_until.Given as goal

abbrev pub invariant-loop-ctx : goal.invariant-loop-ctx
invariant-loop-ctx g l = record {
  reached : IsLoop g.M.Matcher.fits l.fn.array l.frames.items l.current l.ctx.turns;
  within : l.ctx.turns ≤ l.ctx.limit;
  kept : l.ctx.limit ≡ l.initial.ctx.limit;
  session : l.ctx.session ≡ l.initial.ctx.session;
}

abbrev pub decreases-loop-ctx : goal.decreases-loop-ctx
decreases-loop-ctx g l = l.ctx.limit - l.ctx.turns
