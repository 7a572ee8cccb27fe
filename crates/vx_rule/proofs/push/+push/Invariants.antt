use Rattle.std.proofs.Common.{◌+◌, ◌*◌, take}
use Rattle.std.specs.List.{AllZip}
use Rattle.vx_tree.specs.Tree.{height}
use Rattle.vx_rule.proofs.PushLemmas.{IsSlotPushed}
use Rattle.vx_rule.proofs.push.+push.Given as goal

abbrev pub decreases-push : goal.decreases-push
decreases-push l = 2 * height l.array.now + 1

abbrev pub decreases-push_function : goal.decreases-push_function
decreases-push_function l = 2 * height l.array.now

abbrev pub invariant-push_function-loop-slot : goal.invariant-push_function-loop-slot
invariant-push_function-loop-slot l = AllZip (IsSlotPushed l.start l.end) (take l.slot-index l.slots) l.parts.items
