use Rattle.std.proofs.Common.{take, string_bytes}
use Rattle.vx_tree.specs.Cells.{rows}
use Rattle.vx_tree.specs.Tree.{dtype}
use Rattle.vx_json.specs.Output.{AddsRows}
use Rattle.vx_json.proofs.text.column.push_each.Given as goal

-- the lines of the rows so far
abbrev pub invariant-loop-index : goal.invariant-loop-index
invariant-loop-index l = AddsRows (dtype l.array) (take l.index (rows l.array)) (string_bytes l.initial.text) (string_bytes l.text)
