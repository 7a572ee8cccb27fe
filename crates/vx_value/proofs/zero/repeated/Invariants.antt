use Rattle.std.proofs.Common.{◌≡◌}
use Rattle.vx_value.specs.Values.{repeated}
use Rattle.vx_value.specs.View.{cell_of, values_of}
use Rattle.vx_value.proofs.zero.repeated.Given as goal

-- the value as often as was counted
abbrev pub invariant-loop : goal.invariant-loop
invariant-loop l = (values_of l.items.items ≡ repeated l.counter (cell_of l.value)) × (l.value ≡ l.initial.value)
