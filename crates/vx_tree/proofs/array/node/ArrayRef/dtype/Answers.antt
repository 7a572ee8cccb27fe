use Rattle.std.proofs.Common.{subst}
use Rattle.vx_tree.specs.Well.{IsTree}
use Rattle.vx_tree.proofs.array.node.ArrayRef.dtype.Goals as goal

pub returns-clause-columns : goal.returns-clause-columns
returns-clause-columns c = (subst IsTree c.self.view_is c.self.invariant).1
