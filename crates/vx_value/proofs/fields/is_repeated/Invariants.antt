use Rattle.std.proofs.Common.{◌≡◌, drop, is_some}
use Rattle.vx_value.specs.View.{fields_of}
use Rattle.vx_value.specs.Nested.{field_type}
use Rattle.vx_value.proofs.fields.is_repeated.Given as goal

-- the fields to come decide
abbrev pub invariant-loop-other : goal.invariant-loop-other
invariant-loop-other l =
    is_some (field_type l.field.name (fields_of l.others)) ≡ is_some (field_type l.field.name (fields_of (drop l.other-index l.others)))
