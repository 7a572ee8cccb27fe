use Rattle.std.proofs.Common.{◌*◌, ◌+◌, ◌≡◌, fold, drop}
use Rattle.vx_value.specs.Values.{height, values_height}
use Rattle.vx_value.specs.View.{value_of, cell_of, values_of}
use Rattle.vx_value.specs.Writes.{values_writes}
use Rattle.vx_value.proofs.hashing.+value_hashes.Given as goal

-- three times the height, and more where a call goes on with the same value
abbrev pub decreases-hash_value : goal.decreases-hash_value
decreases-hash_value g l = 3 * height (cell_of l.value.now) + 1

abbrev pub decreases-hash_present : goal.decreases-hash_present
decreases-hash_present g l = 3 * height (value_of l.value.now)

abbrev pub decreases-hash_values : goal.decreases-hash_values
decreases-hash_values g l = 3 * values_height (values_of l.values.now) + 2

-- the values to come are still to be written
abbrev pub invariant-hash_values-loop-value : goal.invariant-hash_values-loop-value
invariant-hash_values-loop-value g l =
    fold g.H.Hasher.write l.state (values_writes (values_of (drop l.value-index l.values)))
    ≡ fold g.H.Hasher.write l.initial.state (values_writes (values_of l.values))
