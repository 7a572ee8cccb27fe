use Rattle.std.proofs.Common.{◌≡◌, drop}
use Rattle.vx_value.specs.View.{fields_of}
use Rattle.vx_value.specs.Nested.{are_fields}
use Rattle.vx_value.proofs.fields.are_fields.Given as goal

-- the fields to come decide
abbrev pub invariant-loop-i : goal.invariant-loop-i
invariant-loop-i l = are_fields (fields_of l.fields) ≡ are_fields (fields_of (drop l.i l.fields))
