use Rattle.std.proofs.Common.{◌≡◌, ◌++◌, drop}
use Rattle.vx_value.specs.View.{fields_of}
use Rattle.vx_value.specs.Values.{null}
use Rattle.vx_value.specs.ScalarParts.{fields_by}
use Rattle.vx_value.proofs.parts.default_fields.Given as goal

-- the scalars that are made, and those to come
abbrev pub invariant-loop-field : goal.invariant-loop-field
invariant-loop-field l = fields_by (fields_of l.types) null ≡ l.scalars.items ++ fields_by (fields_of (drop l.field-index l.types)) null
