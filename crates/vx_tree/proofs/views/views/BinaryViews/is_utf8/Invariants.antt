use Rattle.std.proofs.Common.{take}
use Rattle.std.specs.List.{AllPass}
use Rattle.std.specs.Str.{is_utf8}
use Rattle.vx_tree.specs.Views.{rows_of}
use Rattle.vx_tree.proofs.views.views.BinaryViews.is_utf8.Given as goal

abbrev pub invariant-loop-index : goal.invariant-loop-index
invariant-loop-index l = AllPass is_utf8 (take l.index (rows_of l.self))
