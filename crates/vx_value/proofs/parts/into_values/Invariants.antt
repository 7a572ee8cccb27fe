use Rattle.std.proofs.Common.{◌≡◌}
use Rattle.std.specs.List.{All}
use Rattle.vx_value.specs.View.{values_of}
use Rattle.vx_value.specs.ScalarParts.{values_in, IsSound}
use Rattle.vx_value.proofs.parts.into_values.Given as goal

-- the values of the fields so far, which are sound
abbrev pub invariant-loop-part : goal.invariant-loop-part
invariant-loop-part l = (values_of l.values.items ≡ values_in l.yielded) × All IsSound l.yielded
