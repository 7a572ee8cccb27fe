use Rattle.std.proofs.Common.{◌≡◌, ◌≤◌, vec_len, vec_capacity}
use Rattle.vx_column.specs.LookedUp.{views_named}
use Rattle.vx_column.proofs.lookup.views.gather_views.Given as goal

abbrev pub invariant-loop-index : goal.invariant-loop-index
invariant-loop-index l =
    (vec_len l.gathered ≡ l.index) × (l.len ≤ vec_capacity l.gathered) × (l.gathered.items ≡ views_named l.views l.places l.valid l.index)
