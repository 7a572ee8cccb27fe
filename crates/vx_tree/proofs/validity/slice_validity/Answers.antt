use Rattle.std.proofs.Common.{rules}
use Rattle.vx_tree.proofs.validity.slice_validity.Goals as goal

pub returns : goal.returns
returns c = search rules
