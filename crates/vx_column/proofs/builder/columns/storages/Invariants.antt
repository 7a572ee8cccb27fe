use Rattle.std.proofs.Common.{◌≡◌, ℕ, List, take}
use Rattle.vx_value.specs.Types as type
use Rattle.vx_value.specs.Types.{DataType}
use Rattle.vx_column.specs.ValueColumns.{AreOf, values_of}
use Rattle.vx_column.proofs.builder.columns.storages.Given as goal

-- the values so far, and the type that all are stored as
abbrev pub invariant-loop-scalar : goal.invariant-loop-scalar
invariant-loop-scalar l = record {
  values : values_of l.stored.items ≡ values_of (take l.scalar-index l.scalars);
  typed : (id : List ℕ) (t : DataType) → AreOf (type.extension id t) l.scalars → AreOf t l.stored.items;
}
