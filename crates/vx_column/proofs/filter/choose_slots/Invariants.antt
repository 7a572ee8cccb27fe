use Rattle.std.proofs.Common.{◌≡◌, map, take}
use Rattle.std.specs.Prelude.{option_map}
use Rattle.vx_mask.specs.Masks.{bits_in}
use Rattle.vx_tree.specs.Parts.{choice_of}
use Rattle.vx_column.proofs.filter.choose_slots.Given as goal

-- the slots so far
abbrev pub invariant-loop-slot : goal.invariant-loop-slot
invariant-loop-slot l = l.choices.items ≡ map (option_map (choice_of (bits_in l.mask))) (take l.slot-index l.slots)
