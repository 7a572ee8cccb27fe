use Rattle.std.proofs.Common.{take}
use Rattle.vx_tree.specs.Views.{AllLieIn}
use Rattle.vx_tree.proofs.views.view.all_lie_in.Given as goal

abbrev pub invariant-loop-index : goal.invariant-loop-index
invariant-loop-index l = AllLieIn l.buffers (take l.index l.views)
