use Rattle.std.proofs.Common.{◌*◌, ◌+◌, ◌≡◌, length, drop}
use Rattle.vx_value.specs.Values.{height, values_height}
use Rattle.vx_value.specs.View.{value_of, cell_of, type_of, fields_of, variants_of, values_of}
use Rattle.vx_value.specs.Nested.{tag_type}
use Rattle.vx_value.specs.IsOf.{all_of, are_of}
use Rattle.vx_value.proofs.typed.+is_of.Given as goal

-- three times the height, and more where a call goes on with the same value
abbrev pub decreases-is_of : goal.decreases-is_of
decreases-is_of l = 3 * height (cell_of l.value.now) + 1

abbrev pub decreases-is_value_of : goal.decreases-is_value_of
decreases-is_value_of l = 3 * height (value_of l.value.now)

abbrev pub decreases-all_of : goal.decreases-all_of
decreases-all_of l = 3 * values_height (values_of l.values.now) + 2

abbrev pub decreases-are_of : goal.decreases-are_of
decreases-are_of l = 3 * values_height (values_of l.values.now) + 2

abbrev pub decreases-is_chosen : goal.decreases-is_chosen
decreases-is_chosen l = 3 * height (cell_of l.value.now) + 2

-- the values to come decide
abbrev pub invariant-all_of-loop-value : goal.invariant-all_of-loop-value
invariant-all_of-loop-value l =
    all_of (type_of l.dtype) (values_of l.values) ≡ all_of (type_of l.dtype) (values_of (drop l.value-index l.values))

abbrev pub invariant-are_of-loop-i : goal.invariant-are_of-loop-i
invariant-are_of-loop-i l =
    (length l.fields ≡ length l.values)
    × (are_of (fields_of l.fields) (values_of l.values) ≡ are_of (fields_of (drop l.i l.fields)) (values_of (drop l.i l.values)))

-- the variants to come decide
abbrev pub invariant-is_chosen-loop-variant : goal.invariant-is_chosen-loop-variant
invariant-is_chosen-loop-variant l =
    tag_type l.tag (variants_of l.variants) ≡ tag_type l.tag (variants_of (drop l.variant-index l.variants))
