use Rattle.std.proofs.Common.{◌≡◌, [], length}
use Rattle.vx_value.specs.View.{type_of}
use Rattle.vx_json.specs.SpelledValues.{value_spelled}
use Rattle.vx_json.proofs.SpelledValuesLemmas.{IsReadTo}
use Rattle.vx_json.proofs.columns.nested_rows.Given as goal

abbrev pub invariant-loop-value : goal.invariant-loop-value
invariant-loop-value l =
    (l.column.pieces ≡ [])
    × (l.column.of_type ≡ type_of l.dtype)
    × (length l.column.values ≡ l.value-index)
    × IsReadTo (value_spelled (type_of l.dtype)) l.list.items l.value-index l.column.values
