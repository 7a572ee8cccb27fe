use Rattle.std.proofs.Common.{rules}
use Rattle.vx_main.proofs.top.run.finish.Goals as goal

pub returns-in-Err-clause-done : goal.returns-in-Err-clause-done
returns-in-Err-clause-done g c = search rules

pub returns-in-Err-clause-kept : goal.returns-in-Err-clause-kept
returns-in-Err-clause-kept g c = search rules
