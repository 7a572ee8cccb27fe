use Rattle.std.proofs.Common.{◌≡◌, drop}
use Rattle.vx_value.specs.View.{fields_of}
use Rattle.vx_value.specs.Nested.{field_type}
use Rattle.vx_value.proofs.nested.StructFields.field.Given as goal

-- the fields to come decide
abbrev pub invariant-loop-field : goal.invariant-loop-field
invariant-loop-field l = field_type l.name l.self ≡ field_type l.name (fields_of (drop l.field-index l.field-items))
