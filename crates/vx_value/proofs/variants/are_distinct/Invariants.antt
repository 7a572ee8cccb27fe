use Rattle.std.proofs.Common.{◌≡◌, drop}
use Rattle.vx_value.specs.View.{variants_of}
use Rattle.vx_value.specs.Nested.{are_distinct}
use Rattle.vx_value.proofs.variants.are_distinct.Given as goal

-- the variants to come decide
abbrev pub invariant-loop-i : goal.invariant-loop-i
invariant-loop-i l = are_distinct (variants_of l.variants) ≡ are_distinct (variants_of (drop l.i l.variants))
