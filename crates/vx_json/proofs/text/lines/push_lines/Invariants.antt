use Rattle.std.proofs.Common.{◌≡◌, ◌++◌, string_bytes}
use Rattle.vx_column.specs.ValidRows.{is_valid}
use Rattle.vx_json.specs.Lines.{lines}
use Rattle.vx_json.proofs.text.lines.push_lines.Given as goal

-- the lines so far
abbrev pub invariant-loop-index : goal.invariant-loop-index
invariant-loop-index g l = string_bytes l.text ≡ string_bytes l.initial.text ++ lines (is_valid l.valid) (g.R.TextRows.text_at l.rows) l.index
