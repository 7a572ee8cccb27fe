use Rattle.std.proofs.Common.{◌≡◌, drop}
use Rattle.vx_value.specs.View.{fields_of}
use Rattle.vx_value.specs.Supported.{have_columns}
use Rattle.vx_value.proofs.supported.+has_columns.Given as goal

-- the fields to come decide
abbrev pub invariant-have_columns-loop-field : goal.invariant-have_columns-loop-field
invariant-have_columns-loop-field l = have_columns (fields_of l.fields) ≡ have_columns (fields_of (drop l.field-index l.fields))
