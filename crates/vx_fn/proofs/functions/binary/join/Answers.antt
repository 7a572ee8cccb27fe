use Rattle.std.proofs.Common.{rules}
use Rattle.vx_fn.proofs.functions.binary.join.Goals as goal

pub returns-then-is_none-2-clause-and : goal.returns-then-is_none-2-clause-and
returns-then-is_none-2-clause-and c = search rules
