use Rattle.std.proofs.Common.{rules}
use Rattle.vx_fn.proofs.functions.binary.OperatorRowFunction.signature.Goals as goal

pub returns-clause-names : goal.returns-clause-names
returns-clause-names c = search rules
