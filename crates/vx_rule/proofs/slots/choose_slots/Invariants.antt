use Rattle.std.proofs.Common.{◌≡◌, take}
use Rattle.vx_mask.specs.Masks.{bits_in}
use Rattle.vx_tree.specs.Tree.{slots_of}
use Rattle.vx_tree.specs.Slots.{map_slots}
use Rattle.vx_tree.specs.Parts.{choice_of}
use Rattle.vx_rule.proofs.slots.choose_slots.Given as goal

abbrev pub invariant-loop-index : goal.invariant-loop-index
invariant-loop-index l = slots_of l.choices.items ≡ map_slots (choice_of (bits_in l.mask)) (slots_of (take l.index l.slots))
