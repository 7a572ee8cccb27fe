use Rattle.std.proofs.Common.{◌≡◌, take}
use Rattle.vx_tree.specs.Tree.{slots_of}
use Rattle.vx_tree.specs.Slots.{present_from}
use Rattle.vx_rule.proofs.raw_node.present_slots.Given as goal

abbrev pub invariant-loop-index : goal.invariant-loop-index
invariant-loop-index l = l.present.items ≡ present_from 0 (slots_of (take l.index l.slots))
