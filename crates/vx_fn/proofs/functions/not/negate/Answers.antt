use Rattle.std.proofs.Common.{rules}
use Rattle.vx_fn.proofs.functions.not.negate.Goals as goal

pub returns-in-Bool-None-clause-value : goal.returns-in-Bool-None-clause-value
returns-in-Bool-None-clause-value c = search rules

pub returns-in-Bool-Some-clause-value : goal.returns-in-Bool-Some-clause-value
returns-in-Bool-Some-clause-value c = search rules
