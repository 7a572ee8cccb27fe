use Rattle.std.proofs.Common.{rules}
use Rattle.vx_main.proofs.top.status.StatusFromVortexError.from.Goals as goal

pub returns-in-Fault : goal.returns-in-Fault
returns-in-Fault c = search rules
