use Rattle.std.proofs.Common.{◌≡◌, true, take}
use Rattle.std.specs.List.{list_all}
use Rattle.vx_value.specs.Decimals.{has_digits}
use Rattle.vx_tree.proofs.native.buffers.all_digits.Given as goal

abbrev pub invariant-loop-value : goal.invariant-loop-value
invariant-loop-value g l = list_all (λ x. has_digits l.decimal.precision (g.T.Number.value x)) (take l.value-index l.value-items) ≡ true
