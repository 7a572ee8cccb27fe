-- A tree's slots replaced, and why they aren't: the number of slots, which hold a tree, the trees' types, their lengths, in this order.
use Rattle.std.specs.Prelude.{ℕ, List, length, ◌==◌, Option, Some, None, slice_get}
use Rattle.vx_value.specs.declared.error.VortexError.{VortexError}
use Rattle.vx_value.specs.declared.error.VortexError.TheVariants.{InvalidArgument}
use Rattle.vx_value.specs.declared.error.ArgKind.TheVariants.{SlotCount}
use Rattle.vx_tree.specs.Conditions.{first_of_both, unless}
use Rattle.vx_tree.specs.Tree.{Tree, Slots, node, slots}
use Rattle.vx_tree.specs.Well.{Shape, shape_of, shapes}
pub use Rattle.vx_tree.specs.SlotShapes.{same_presence, same_dtype, same_len, is_kept, wrong_in, kept_refusal, slot_refusal, first_refusal}
use Rattle.vx_tree.specs.declared.replace.Kept.TheVariants.{Presence, Dtype, Len}

-- the tree with these slots
abbrev pub with_slots : Slots → Tree → Tree
with_slots ss (node ty n d old) = node ty n d ss

abbrev pub found_refusal : ℕ → Option (Option Shape) → Option Shape → Option VortexError
found_refusal i None r = Some (InvalidArgument SlotCount)
found_refusal i (Some s) r = slot_refusal i s r

abbrev pub each_refusal : List (Option Shape) → List (Option Shape) → Option VortexError
each_refusal ss rs = first_of_both (first_refusal Presence 0 ss rs) (first_of_both (first_refusal Dtype 0 ss rs) (first_refusal Len 0 ss rs))

-- why the tree in slot i isn't replaced by c
abbrev pub with_slot_refusal : ℕ → Tree → Tree → Option VortexError
with_slot_refusal i c t = found_refusal i (slice_get (shapes (slots t)) i) (Some (shape_of c))

-- why the slots aren't replaced by these
abbrev pub with_slots_refusal : Slots → Tree → Option VortexError
with_slots_refusal rs t =
    first_of_both (unless (length (shapes rs) == length (shapes (slots t))) (InvalidArgument SlotCount)) (each_refusal (shapes (slots t)) (shapes rs))
