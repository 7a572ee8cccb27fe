use Rattle.std.proofs.Common.{◌≡◌, ◌+◌, drop}
use Rattle.vx_tree.proofs.SlotTypesLemmas.{total_of, too_many}
use Rattle.vx_tree.proofs.arrays.slots.total_len.Given as goal

abbrev pub invariant-loop-slot : goal.invariant-loop-slot
invariant-loop-slot l = record {
  joined : too_many 0 l.slots ≡ too_many l.len (drop l.slot l.slots);
  total : total_of l.slots ≡ l.len + total_of (drop l.slot l.slots);
}
