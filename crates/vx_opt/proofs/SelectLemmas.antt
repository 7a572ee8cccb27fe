-- Choosing rows.
use Rattle.std.proofs.Common.{◌≡◌, ℕ, ◌+◌, ◌-◌, ◌≤◌, List, Bool, refl, sym, subst, arith}
use Rattle.vx_mask.specs.Places.{true_count, combined}
use Rattle.vx_mask.proofs.PlacesLemmas.{true_count-combined}
use Rattle.vx_tree.specs.Tree.{Tree, node, slice, filter, slot, no_slots, dtype, len, slice_of, filter_of}
use Rattle.vx_tree.specs.Columns.{empty_of}
use Rattle.vx_tree.specs.Keeps.{Keeps}
use Rattle.vx_tree.specs.Well.{IsWell}
use Rattle.vx_tree.proofs.RefusalsLemmas.{slice_is_node}
use Rattle.vx_tree.proofs.ChoicesLemmas.{slice_twice, filter_twice}
use Rattle.vx_tree.proofs.KeepsLemmas.{keeps_trans, put_keeps}
use Rattle.vx_tree.proofs.ValiditiesLemmas.{part_clean}
use Rattle.vx_rule.proofs.FiltersLemmas.{filter_clean}
use Rattle.vx_rule.proofs.PicksLemmas.{exactly_by}
use Rattle.vx_rule.proofs.RangesLemmas.{S_whole_keeps, S_empty_keeps}
use Rattle.vx_opt.specs.Select.{IsRange, IsMaskOf}

slice_well : (a b : ℕ) (t : Tree) → IsWell t → IsRange a b t → IsWell (slice_of a b t)
slice_well a b t w r = (slice_is_node t a b r.0 r.1, (w, tt))

pub whole_keeps : (a b : ℕ) (t u : Tree) → IsWell t → a ≡ 0 → b ≡ len t → u ≡ t → Keeps (slice_of a b t) u
whole_keeps a b t u w z e h =
    subst (Keeps (slice_of a b t)) (sym h) (S_whole_keeps (dtype t) (b - a) a b t (slice_well a b t w (omega (arith, z, e), omega (arith, e))) z e).keeps

pub empty_keeps : (a b : ℕ) (t u : Tree) → IsWell t → a ≡ b → b ≤ len t → u ≡ empty_of (dtype t) → Keeps (slice_of a b t) u
empty_keeps a b t u w e l h =
    subst (Keeps (slice_of a b t)) (sym h) (S_empty_keeps (dtype t) (b - a) a b t (slice_well a b t w (omega (arith, e), l)) e).keeps

-- ---- a choice of what stands for a choice

slice_kept : (a b : ℕ) (t u : Tree) → Keeps t u → Keeps (slice_of a b t) (slice_of a b u)
slice_kept a b t u h = subst (λ ty. Keeps (slice_of a b t) (node ty (b - a) (slice a b) (slot u no_slots))) h.same_type (put_keeps 0 t u (slice_of a b t) h)

filter_kept : (bits : List Bool) (t u : Tree) → Keeps t u → Keeps (filter_of bits t) (filter_of bits u)
filter_kept bits t u h = subst (λ ty. Keeps (filter_of bits t) (node ty (true_count bits) (filter bits) (slot u no_slots))) h.same_type
    (put_keeps 0 t u (filter_of bits t) h)

pub slice_again : (t u v : Tree) (a b c d : ℕ) → IsRange a b t → IsRange c d (slice_of a b t) → Keeps (slice_of a b t) u → Keeps (slice_of c d u) v
    → Keeps (slice_of (a + c) (a + d) t) v
slice_again t u v a b c d r s h k =
    let one = slice_of (a + c) (a + d) t in
    let two = slice_of c d (slice_of a b t) in
    let first : Keeps one two = (exactly_by one two refl (omega arith) (sym (slice_twice t a b c d r.0 r.1 s.0 s.1))
    (λ x. part_clean c d (slice_of a b t) (part_clean a b t x.1.0))).keeps in
    keeps_trans one (slice_of c d u) v (keeps_trans one two (slice_of c d u) first (slice_kept c d (slice_of a b t) u h)) k

pub filter_again : (t u v : Tree) (outer inner : List Bool) → IsMaskOf inner (filter_of outer t) → Keeps (filter_of outer t) u → Keeps (filter_of inner u) v
    → Keeps (filter_of (combined outer inner) t) v
filter_again t u v outer inner m h k =
    let one = filter_of (combined outer inner) t in
    let two = filter_of inner (filter_of outer t) in
    let first : Keeps one two = (exactly_by one two refl (true_count-combined outer inner (omega (arith, m))) (sym (filter_twice t outer inner))
    (λ x. filter_clean inner (filter_of outer t) (filter_clean outer t x.1.0))).keeps in
    keeps_trans one (filter_of inner u) v (keeps_trans one two (filter_of inner u) first (filter_kept inner (filter_of outer t) u h)) k
