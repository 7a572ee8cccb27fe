use Rattle.std.proofs.Common.{rules}
use Rattle.vx_opt.proofs.builtins.ArrayRefArrayBuiltins.zip.Goals as goal

pub returns : goal.returns
returns c = search rules
