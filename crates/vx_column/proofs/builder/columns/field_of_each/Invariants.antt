use Rattle.std.proofs.Common.{◌≡◌, map, take, Some}
use Rattle.std.specs.Prelude.{slice_get}
use Rattle.vx_value.specs.View.{type_of, fields_of}
use Rattle.vx_value.specs.declared.nested.Field.{Field}
use Rattle.vx_column.specs.ValueColumns.{AreOf, values_of}
use Rattle.vx_column.proofs.FieldColumnsLemmas.{field_value}
use Rattle.vx_column.proofs.builder.columns.field_of_each.Given as goal

-- the field of each scalar so far
abbrev pub invariant-loop-scalar : goal.invariant-loop-scalar
invariant-loop-scalar l = record {
  values : values_of l.column.items ≡ map (λ s. field_value l.index (fields_of l.fields) s.value) (take l.scalar-index l.scalars);
  typed : (f : Field) → slice_get l.fields l.index ≡ Some f → AreOf (type_of f.dtype) l.column.items;
}
