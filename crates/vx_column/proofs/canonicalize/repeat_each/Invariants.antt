use Rattle.std.proofs.Common.{◌≡◌, map, Some}
use Rattle.vx_tree.specs.Tree.{constant_of}
use Rattle.vx_column.proofs.canonicalize.repeat_each.Given as goal

abbrev pub invariant-loop-scalar : goal.invariant-loop-scalar
invariant-loop-scalar l = l.slots.items ≡ map (λ s. Some (constant_of s l.len)) l.yielded
