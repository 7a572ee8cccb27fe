use Rattle.std.proofs.Common.{◌≡◌, ◌+◌, ◌*◌, true, length, drop}
use Rattle.vx_value.specs.Values.{height, values_height}
use Rattle.vx_value.specs.View.{type_of, fields_of, value_of, cell_of, values_of}
use Rattle.vx_value.specs.IsOf.{all_of, are_of}
use Rattle.vx_value.specs.Casts.{cast_all, cast_each}
use Rattle.vx_value.proofs.CastPartsLemmas.{made}
use Rattle.vx_value.proofs.cast.+casts.Given as goal

-- three times the height, and more where a call goes on with the same value
abbrev pub decreases-cast_value : goal.decreases-cast_value
decreases-cast_value l = 3 * height (cell_of l.value.now) + 1

abbrev pub decreases-other_cast : goal.decreases-other_cast
decreases-other_cast l = 3 * height (value_of l.value.now)

abbrev pub decreases-cast_all : goal.decreases-cast_all
decreases-cast_all l = 3 * values_height (values_of l.values.now) + 2

abbrev pub decreases-cast_each : goal.decreases-cast_each
decreases-cast_each l = 3 * values_height (values_of l.values.now) + 2

-- the values that are made, and those to come
abbrev pub invariant-cast_all-loop-value : goal.invariant-cast_all-loop-value
invariant-cast_all-loop-value l =
    (all_of (type_of l.from) (values_of (drop l.value-index l.values)) ≡ true)
    × (cast_all (type_of l.from) (type_of l.to) (values_of l.values)
    ≡ made l.items.items (cast_all (type_of l.from) (type_of l.to) (values_of (drop l.value-index l.values))))

abbrev pub invariant-cast_each-loop-i : goal.invariant-cast_each-loop-i
invariant-cast_each-loop-i l =
    (length l.from ≡ length l.values)
    × (length l.to ≡ length l.values)
    × (are_of (fields_of (drop l.i l.from)) (values_of (drop l.i l.values)) ≡ true)
    × (cast_each (fields_of l.from) (fields_of l.to) (values_of l.values)
    ≡ made l.items.items (cast_each (fields_of (drop l.i l.from)) (fields_of (drop l.i l.to)) (values_of (drop l.i l.values))))
