use Rattle.std.proofs.Common.{◌≡◌, length, drop}
use Rattle.vx_value.specs.View.{fields_of}
use Rattle.vx_value.specs.Casts.{have_rows}
use Rattle.vx_value.proofs.cast.+rows.Given as goal

-- the fields to come decide
abbrev pub invariant-have_rows-loop-i : goal.invariant-have_rows-loop-i
invariant-have_rows-loop-i l =
    (length l.from ≡ length l.to)
    × (have_rows (fields_of l.from) (fields_of l.to) ≡ have_rows (fields_of (drop l.i l.from)) (fields_of (drop l.i l.to)))
