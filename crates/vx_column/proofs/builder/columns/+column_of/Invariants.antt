use Rattle.std.proofs.Common.{◌+◌, ◌*◌}
use Rattle.vx_value.specs.Types.{height}
use Rattle.vx_value.specs.View.{type_of}
use Rattle.vx_column.specs.ValueColumns.{values_of}
use Rattle.vx_column.proofs.FieldColumnsLemmas.{AreSlotsTo}
use Rattle.vx_column.proofs.builder.columns.+column_of.Given as goal

-- twice the type's height, and more where a call goes on with the same type
abbrev pub decreases-column_of : goal.decreases-column_of
decreases-column_of l = 2 * height (type_of l.dtype.now) + 1

abbrev pub decreases-structs_of : goal.decreases-structs_of
decreases-structs_of l = 2 * height (type_of l.dtype.now)

-- the columns so far, and those of the fields to come
abbrev pub invariant-structs_of-loop-i : goal.invariant-structs_of-loop-i
invariant-structs_of-loop-i l = AreSlotsTo l.fields (values_of l.scalars) l.i l.slots.items
