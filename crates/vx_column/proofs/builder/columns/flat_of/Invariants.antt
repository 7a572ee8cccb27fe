use Rattle.std.proofs.Common.{◌≡◌, take}
use Rattle.vx_value.specs.View.{type_of}
use Rattle.vx_column.specs.ValueColumns.{values_of}
use Rattle.vx_column.proofs.builder.columns.flat_of.Given as goal

-- the values so far
abbrev pub invariant-loop-scalar : goal.invariant-loop-scalar
invariant-loop-scalar l = l.column ≡ record { of_type = type_of l.dtype; values = values_of (take l.scalar-index l.scalars) }
