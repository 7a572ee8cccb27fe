use Rattle.std.proofs.Common.{◌≡◌, ◌++◌, length, drop, true, None}
use Rattle.vx_value.specs.View.{fields_of, values_of}
use Rattle.vx_value.specs.Values.{fields}
use Rattle.vx_value.specs.IsOf.{are_of}
use Rattle.vx_value.specs.Fits.{named_overflow}
use Rattle.vx_value.specs.ScalarParts.{fields_by}
use Rattle.vx_value.proofs.parts.present_fields.Given as goal

-- the scalars that are made, and those to come, whose values are of their types
abbrev pub invariant-loop-i : goal.invariant-loop-i
invariant-loop-i l = record {
  counts : length l.types ≡ length l.values;
  made : fields_by (fields_of l.types) (fields (values_of l.values))
      ≡ l.scalars.items ++ fields_by (fields_of (drop l.i l.types)) (fields (values_of (drop l.i l.values)));
  typed : are_of (fields_of (drop l.i l.types)) (values_of (drop l.i l.values)) ≡ true;
  fit : named_overflow (fields_of (drop l.i l.types)) (values_of (drop l.i l.values)) ≡ None;
}
