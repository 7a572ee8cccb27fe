use Rattle.std.proofs.Common.{◌≡◌, ◌++◌, map, drop, Some}
use Rattle.vx_value.specs.View.{fields_of}
use Rattle.vx_column.specs.Joined.{joined_fields}
use Rattle.vx_column.specs.Pieces.{columns_in}
use Rattle.vx_column.proofs.builder.join.join_structs.Given as goal

-- the slots so far, and those of the fields to come
abbrev pub invariant-loop-i : goal.invariant-loop-i
invariant-loop-i l =
    l.slots.items ++ map Some (joined_fields l.i (fields_of (drop l.i l.fields)) (columns_in l.pieces))
    ≡ map Some (joined_fields 0 (fields_of l.fields) (columns_in l.pieces))
