-- Nodes under way: some of their slots are used up, and their rows stand in front as content.
use Rattle.std.specs.Prelude.{◌≡◌, ℕ, ◌+◌, ◌++◌, ◌<◌, List, true, false}
use Rattle.vx_tree.specs.Tree.{Tree, node, slot, dtype, len, datum, is_chunked, is_columnar, all_present}
use Rattle.vx_tree.specs.Cells.{rows, IsClean}
use Rattle.vx_tree.specs.Well.{IsNodeOf, shape_of, shapes}
use Rattle.vx_tree.specs.SlotTypes.{of_lengths}
use Rattle.vx_tree.specs.Slots.{put, IsHole, IsPresent, present_slots}
use Rattle.vx_tree.specs.Firm.{KeepsFirmly}
use Rattle.vx_step.specs.Turns.{node_potential}

-- the tree with one more slot in front, which holds the content b
abbrev pub with_content : Tree → Tree → Tree
with_content b (node ty n d ss) = node ty n d (slot b ss)

-- the tree without its root's empty slots
abbrev pub without_absent : Tree → Tree
without_absent (node ty n d ss) = node ty n d (present_slots ss)

-- chunks, of which some are used up; those that are left have the type
abbrev pub IsUsed : Tree → Type 0
IsUsed (node ty n d ss) = (is_chunked d ≡ true) × (all_present (shapes ss) ≡ false) × (ms : List ℕ) × (shapes (present_slots ss) ≡ of_lengths ty ms)

-- t is used up in part: b and the slots that are left have its type, and together its length
pub record IsPart (b t : Tree) : Type 0 where
  pub used : IsUsed t
  pub fits : IsNodeOf (without_absent (with_content b t))

-- p is t without the tree c in slot i
abbrev pub IsWithout : ℕ → Tree → Tree → Tree → Type 0
IsWithout i c p t = IsHole i p × (put i c p ≡ t)

-- slot i of the chunks t is a column whose rows come next
pub record IsAppend (i : ℕ) (t : Tree) : Type 0 where
  pub chunks : is_chunked (datum t) ≡ true
  pub present : IsPresent i t
  pub column : (c p : Tree) → IsWithout i c p t → is_columnar (datum c) ≡ true
  pub typed : (c p : Tree) → IsWithout i c p t → dtype c ≡ dtype t
  -- the node without the slot, and with its rows as content, stands for t exactly
  pub begins : (b c p : Tree) → IsWithout i c p t → (IsClean c → IsClean b) → rows b ≡ rows c → KeepsFirmly t (with_content b p)
  pub begun : (b c p : Tree) → IsWithout i c p t → IsNodeOf t → shape_of b ≡ shape_of c → IsPart b p
  -- so does the node without the slot, and with its rows added to its content, for t with the content
  pub continues : (a b c p : Tree) → IsWithout i c p t → (IsClean a → IsClean c → IsClean b) → rows b ≡ rows a ++ rows c → KeepsFirmly (with_content a t) (with_content b p)
  pub continued : (a b c p : Tree) → IsWithout i c p t → IsPart a t → dtype b ≡ dtype t → len b ≡ len a + len c → IsPart b p
  -- fewer turns are left
  pub falls : (c p : Tree) → IsWithout i c p t → node_potential p < node_potential t

-- t is used up: with content of its type and length, it stands exactly for that
pub record IsUsedUp (t : Tree) : Type 0 where
  pub used : IsUsed t
  pub kept : (b : Tree) → IsPart b t → KeepsFirmly (with_content b t) b
  -- more turns than a canonical column has
  pub falls : 1 < node_potential t
