use Rattle.std.proofs.Common.{◌+◌, ◌*◌, ◌∷◌, [], take, drop, max}
use Rattle.std.specs.List.{AllZip}
use Rattle.vx_tree.specs.Tree.{slots_of, height, slots_height}
use Rattle.vx_column.proofs.CellsLemmas.{IsRead}
use Rattle.vx_column.proofs.ChunkedRowsLemmas.{IsLeft}
use Rattle.vx_column.proofs.rows.+scalar_at.Given as goal

abbrev pub decreases-probe::scalar_at : goal.decreases-probe::scalar_at
decreases-probe::scalar_at l = 3 * height l.array.now

abbrev pub decreases-children::function_at : goal.decreases-children::function_at
decreases-children::function_at l = 3 * slots_height (slots_of l.slots.now) + 1

abbrev pub decreases-probe::unless_null : goal.decreases-probe::unless_null
decreases-probe::unless_null l = 3 * slots_height (slots_of (l.validity.now ∷ [])) + 1

abbrev pub invariant-children::function_at-loop-slot : goal.invariant-children::function_at-loop-slot
invariant-children::function_at-loop-slot l = AllZip (IsRead l.index) (take l.slot-index l.slots) l.scalars.items

abbrev pub decreases-children::named_at : goal.decreases-children::named_at
decreases-children::named_at l = 3 * max (height l.codes.now) (height l.values.now) + 1

abbrev pub decreases-children::chunk_at : goal.decreases-children::chunk_at
decreases-children::chunk_at l = 3 * slots_height (slots_of l.slots.now) + 1

abbrev pub decreases-children::pair_at : goal.decreases-children::pair_at
decreases-children::pair_at l = 3 * slots_height (slots_of l.slots.now) + 1

abbrev pub invariant-children::chunk_at-loop-slot : goal.invariant-children::chunk_at-loop-slot
invariant-children::chunk_at-loop-slot l = IsLeft l.array l.index (slots_height (slots_of l.fn.slots)) (drop l.slot-index l.slots) l.left

abbrev pub decreases-nested::struct_at : goal.decreases-nested::struct_at
decreases-nested::struct_at l = 3 * slots_height (slots_of l.slots.now) + 2

abbrev pub decreases-nested::extension_at : goal.decreases-nested::extension_at
decreases-nested::extension_at l = 3 * slots_height (slots_of l.slots.now) + 1

abbrev pub invariant-nested::struct_at-loop-slot : goal.invariant-nested::struct_at-loop-slot
invariant-nested::struct_at-loop-slot l = AllZip (IsRead l.index) (take l.slot-index l.fields) l.parts.items
