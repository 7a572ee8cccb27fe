use Rattle.std.proofs.Common.{ap}
use Rattle.vx_tree.specs.Tree as enc
use Rattle.vx_tree.proofs.canonical.values.BoolFlatEncoding.slice_values.Goals as goal

pub returns-clause-ok : goal.returns-clause-ok
returns-clause-ok c = ap enc.bool c.in_ok-slice.ensures
