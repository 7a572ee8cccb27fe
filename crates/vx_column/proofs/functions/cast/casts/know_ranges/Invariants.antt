use Rattle.std.proofs.Common.{◌≡◌, ◌<◌, ℕ, true}
use Rattle.vx_value.specs.IsOf.{in_range}
use Rattle.vx_column.specs.Arguments.{integer_in}
use Rattle.vx_column.proofs.functions.cast.casts.know_ranges.Given as goal

abbrev pub invariant-loop-index : goal.invariant-loop-index
invariant-loop-index g l = (i : ℕ) → i < l.index → in_range g.T.NativeInteger.kind (integer_in l.integers i) ≡ true
