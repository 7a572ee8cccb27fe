use Rattle.std.proofs.Common.{rules, arith}
use Rattle.vx_tree.proofs.RefusedExactlyLemmas.{node_unless_refused}
use Rattle.vx_tree.proofs.array.typed.Array.validated.Goals as goal

pub from_parts_unchecked-requires : goal.from_parts_unchecked-requires
from_parts_unchecked-requires c = grind (arith, node_unless_refused)

pub returns-clause-valid : goal.returns-clause-valid
returns-clause-valid c = search rules
