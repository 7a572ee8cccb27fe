use Rattle.std.proofs.Common.{◌≡◌, ◌+◌, ◌*◌, drop, true}
use Rattle.vx_value.specs.Types.{height, fields_height}
use Rattle.vx_value.specs.View.{type_of, fields_of}
use Rattle.vx_value.specs.Supported.{have_columns}
use Rattle.vx_tree.specs.Columns.{empty_fields}
use Rattle.vx_tree.proofs.EmptyLemmas.{prepended}
use Rattle.vx_tree.proofs.canonical.empty.+empty.Given as goal

-- three times the height of the type, and more where a call goes on with the same type
abbrev pub decreases-empty_column : goal.decreases-empty_column
decreases-empty_column l = 3 * height (type_of l.dtype.now) + 1

abbrev pub decreases-empty_slots : goal.decreases-empty_slots
decreases-empty_slots l = 3 * fields_height (fields_of l.fields.now) + 2

abbrev pub decreases-empty_struct : goal.decreases-empty_struct
decreases-empty_struct l = 3 * fields_height (fields_of l.fields.now) + 3

abbrev pub decreases-empty_extension : goal.decreases-empty_extension
decreases-empty_extension l = 3 * height l.extension.now.1 + 2

-- the slots so far, and those of the fields to come, which have columns
abbrev pub invariant-empty_slots-loop-field : goal.invariant-empty_slots-loop-field
invariant-empty_slots-loop-field l =
    (prepended l.slots.items (empty_fields (fields_of (drop l.field-index l.fields))) ≡ empty_fields (fields_of l.fields))
    × (have_columns (fields_of (drop l.field-index l.fields)) ≡ true)
