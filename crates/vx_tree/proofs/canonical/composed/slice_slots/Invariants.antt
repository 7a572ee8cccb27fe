use Rattle.std.proofs.Common.{◌≡◌, drop, take, map}
use Rattle.std.specs.Prelude.{option_map}
use Rattle.vx_tree.specs.Parts.{part_of}
use Rattle.vx_tree.specs.Validities.{HaveRange}
use Rattle.vx_tree.proofs.canonical.composed.slice_slots.Given as goal

-- the slots so far are sliced, and those to come have the range
abbrev pub invariant-loop-slot : goal.invariant-loop-slot
invariant-loop-slot l =
    HaveRange l.range.start l.range.end (drop l.slot-index l.slots)
    × (l.parts.items ≡ map (option_map (part_of l.range.start l.range.end)) (take l.slot-index l.slots))
