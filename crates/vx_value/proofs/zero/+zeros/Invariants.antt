use Rattle.std.proofs.Common.{◌≡◌, drop}
use Rattle.vx_value.specs.View.{fields_of}
use Rattle.vx_value.specs.Defaults.{zeros_of}
use Rattle.vx_value.specs.IsOf.{are_of}
use Rattle.vx_value.proofs.ValuesLemmas.{prepend}
use Rattle.vx_value.proofs.zero.+zeros.Given as goal

-- the zero values that are made, and those to come, which decide whether all are of their types
abbrev pub invariant-zeros_of-loop-field : goal.invariant-zeros_of-loop-field
invariant-zeros_of-loop-field l =
    (zeros_of (fields_of l.fields) ≡ prepend l.items.items (zeros_of (fields_of (drop l.field-index l.fields))))
    × (are_of (fields_of l.fields) (zeros_of (fields_of l.fields))
    ≡ are_of (fields_of (drop l.field-index l.fields)) (zeros_of (fields_of (drop l.field-index l.fields))))
