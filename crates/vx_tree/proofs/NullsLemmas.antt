-- Columns of nulls.
use Rattle.std.proofs.Common.{◌≡◌, ◌≤◌, ℕ, ◌-◌, replicate, take, drop, refl, sym, subst}
use Rattle.vx_value.specs.Cell.{value}
use Rattle.vx_value.specs.Values.{null}
use Rattle.vx_tree.specs.Tree as enc
use Rattle.vx_tree.specs.Tree.{Tree, node, len, datum, nulls_of, slice_of}
use Rattle.vx_tree.specs.Cells.{HasNoFault}
use Rattle.vx_tree.specs.Well.{IsWell}
use Rattle.vx_tree.specs.Keeps.{KeepsExactly}
use Rattle.vx_tree.specs.Slots.{map_slots}
use Rattle.vx_tree.specs.Parts.{part_of, column_range}
use Rattle.vx_tree.proofs.KeepsLemmas.{rows_equal}
use Rattle.vx_tree.proofs.SlotsLemmas.{no_shapes}
use Rattle.vx_tree.proofs.TellsLemmas.{part_copies}

-- a range of them is one of as many nulls
pub nulls_part : (t : Tree) (a b : ℕ) → IsWell t → enc.nulls ≡ datum t → a ≤ b → b ≤ len t → KeepsExactly (slice_of a b t) (nulls_of (b - a))
nulls_part (node ty n enc.nulls ss) a b w e h k =
    let shown : take (b - a) (drop a (replicate n (value null))) ≡ replicate (b - a) (value null) = sym (part_copies (value null) a b n h k) in
    record {
      keeps = record { same_type = w.0.0; same_len = refl; same_rows = rows_equal _ _ shown; still_clean = λ c. (subst HasNoFault shown c.0, tt) };
      equal = shown;
    }
nulls_part (node ty n _ ss) a b w e h k = absurd (cc)

pub nulls_range : (t : Tree) (a b : ℕ) → IsWell t → enc.nulls ≡ datum t → nulls_of (b - a) ≡ column_range a b t
nulls_range (node ty n enc.nulls ss) a b w e = λ i. node (sym w.0.0 i) (b - a) enc.nulls (map_slots (part_of a b) (sym (no_shapes ss w.0.1) i))
nulls_range (node ty n _ ss) a b w e = absurd (cc)
