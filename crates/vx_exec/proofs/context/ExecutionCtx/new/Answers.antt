use Rattle.std.proofs.Common.{rules}
use Rattle.vx_exec.proofs.context.ExecutionCtx.new.Goals as goal

pub returns : goal.returns
returns c = search rules
