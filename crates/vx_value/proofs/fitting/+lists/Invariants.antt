use Rattle.std.proofs.Common.{◌*◌, ◌+◌, ◌≡◌, drop}
use Rattle.vx_value.specs.Values.{height, values_height}
use Rattle.vx_value.specs.View.{value_of, cell_of, type_of, fields_of, variants_of, values_of}
use Rattle.vx_value.specs.Nested.{tag_type}
use Rattle.vx_value.specs.Fits.{each_overflow, named_overflow}
use Rattle.vx_value.proofs.fitting.+lists.Given as goal

-- four times the height, and more where a call goes on with the same value
abbrev pub decreases-list_overflow : goal.decreases-list_overflow
decreases-list_overflow l = 4 * height (cell_of l.value.now) + 1

abbrev pub decreases-value_overflow : goal.decreases-value_overflow
decreases-value_overflow l = 4 * height (value_of l.value.now)

abbrev pub decreases-elements_overflow : goal.decreases-elements_overflow
decreases-elements_overflow l = 4 * values_height l.values.now + 3

abbrev pub decreases-each_overflow : goal.decreases-each_overflow
decreases-each_overflow l = 4 * values_height (values_of l.values.now) + 2

abbrev pub decreases-named_overflow : goal.decreases-named_overflow
decreases-named_overflow l = 4 * values_height (values_of l.values.now) + 2

abbrev pub decreases-chosen_overflow : goal.decreases-chosen_overflow
decreases-chosen_overflow l = 4 * height (cell_of l.value.now) + 2

-- the values to come decide
abbrev pub invariant-each_overflow-loop-value : goal.invariant-each_overflow-loop-value
invariant-each_overflow-loop-value l =
    each_overflow (type_of l.dtype) (values_of l.values) ≡ each_overflow (type_of l.dtype) (values_of (drop l.value-index l.values))

abbrev pub invariant-named_overflow-loop-i : goal.invariant-named_overflow-loop-i
invariant-named_overflow-loop-i l =
    named_overflow (fields_of l.fields) (values_of l.values) ≡ named_overflow (fields_of (drop l.i l.fields)) (values_of (drop l.i l.values))

-- the variants to come decide
abbrev pub invariant-chosen_overflow-loop-variant : goal.invariant-chosen_overflow-loop-variant
invariant-chosen_overflow-loop-variant l =
    tag_type l.tag (variants_of l.variants) ≡ tag_type l.tag (variants_of (drop l.variant-index l.variants))
