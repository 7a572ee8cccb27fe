use Rattle.std.proofs.Common.{◌≡◌, drop}
use Rattle.vx_value.specs.View.{fields_of, variants_of}
use Rattle.vx_value.specs.Fits.{fields_overflow, variants_overflow}
use Rattle.vx_value.proofs.fitting.+overflow.Given as goal

-- the fields to come decide
abbrev pub invariant-fields_overflow-loop-field : goal.invariant-fields_overflow-loop-field
invariant-fields_overflow-loop-field l =
    fields_overflow (fields_of l.fields) l.rows ≡ fields_overflow (fields_of (drop l.field-index l.fields)) l.rows

-- the variants to come decide
abbrev pub invariant-variants_overflow-loop-variant : goal.invariant-variants_overflow-loop-variant
invariant-variants_overflow-loop-variant l =
    variants_overflow (variants_of l.variants) l.rows ≡ variants_overflow (variants_of (drop l.variant-index l.variants)) l.rows
