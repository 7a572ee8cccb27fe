use Rattle.std.proofs.Common.{◌≡◌, ◌+◌, drop, option_map}
use Rattle.vx_value.specs.View.{fields_of}
use Rattle.vx_value.specs.Nested.{field_place}
use Rattle.vx_value.proofs.fields.place_of.Given as goal

-- the place among the fields to come decides
abbrev pub invariant-loop-i : goal.invariant-loop-i
invariant-loop-i l = field_place l.name (fields_of l.fields) ≡ option_map (λ k. l.i + k) (field_place l.name (fields_of (drop l.i l.fields)))
