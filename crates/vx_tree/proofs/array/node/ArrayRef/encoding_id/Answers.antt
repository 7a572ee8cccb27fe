use Rattle.std.proofs.Common.{rules}
use Rattle.vx_tree.proofs.array.node.ArrayRef.encoding_id.Goals as goal

pub returns-in-ScalarFn : goal.returns-in-ScalarFn
returns-in-ScalarFn c = search rules
