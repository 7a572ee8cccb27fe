use Rattle.std.proofs.Common.{rules}
use Rattle.vx_tree.proofs.array.typed.Array.try_from_array_ref.Goals as goal

pub invariant_of-result : goal.invariant_of-result
invariant_of-result c = search rules

pub returns-then-is_some-clause-which : goal.returns-then-is_some-clause-which
returns-then-is_some-clause-which c = search rules
