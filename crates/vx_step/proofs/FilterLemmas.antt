-- The steps of a filter: by its mask alone, and of its child as a column.
use Rattle.std.proofs.Common.{◌≡◌, ◌⊎◌, inl, inr, ℕ, ◌+◌, ◌*◌, ◌<◌, ◌≤◌, List, [], length, Bool, true, false, refl, sym, ap, subst, arith}
use Rattle.std.proofs.lemmas.Bool.{cases_Bool}
use Rattle.vx_mask.specs.Masks.{is_all_true}
use Rattle.vx_mask.specs.Places.{true_count, IsRun}
use Rattle.vx_tree.specs.Tree as enc
use Rattle.vx_tree.specs.Tree.{Tree, Data, Slots, node, no_slots, absent, slot, filter_of, slice_of, column, dtype, len, datum, slots, is_canonical}
use Rattle.vx_tree.specs.Cells.{rows}
use Rattle.vx_tree.specs.Columns.{IsColumn, empty_of}
use Rattle.vx_tree.specs.Cost.{cost, extra, reach, slot_cost}
use Rattle.vx_tree.proofs.FirmLemmas.{firmly}
use Rattle.vx_tree.specs.Keeps.{KeepsExactly}
use Rattle.vx_tree.proofs.KeepsLemmas.{exactly_trans}
use Rattle.vx_rule.proofs.FiltersLemmas.{whole_exactly, nothing_exactly, run_exactly}
use Rattle.vx_rule.proofs.PushLemmas.{canonical_cost}
use Rattle.vx_step.specs.Turns.{slot_potential, node_potential}
use Rattle.vx_step.specs.Steps.{IsShort, HasNoShortcut, IsDone, IsAnswer}
use Rattle.vx_step.specs.declared.whole.Answer.TheVariants.{Wait}
use Rattle.vx_step.specs.declared.steps.SlotTarget.TheVariants.{Canonical}
use Rattle.vx_step.proofs.StepsLemmas.{canonical_done}
use Rattle.vx_step.proofs.TurnsLemmas.{top_paid}

-- ---- which filter it is

bits_in_data : Data → List Bool
bits_in_data (enc.filter bits) = bits
bits_in_data _ = []

first_in : Tree → Slots → Tree
first_in other no_slots = other
first_in other (absent ss) = other
first_in other (slot t ss) = t

-- the filter of c, which has as many rows as there are bits
module _ (bits : List Bool) (c : Tree) (counted_bits : length bits ≡ len c) (counted_rows : length (rows c) ≡ len c) where
  -- ---- it has no shortcut

  none_short : 0 < true_count bits → is_all_true bits ≡ false → (is_canonical (datum c) ≡ true) ⊎ ((a b : ℕ) → IsRun bits a b → ⊥) → (u : Tree)
      → IsShort bits c u → ⊥
  none_short some not_all unready u (inl h) = absurd (omega (arith, some, h.0))
  none_short some not_all unready u (inr (inl h)) = absurd (cc (not_all, h.1))
  none_short some not_all (inl column) u (inr (inr h)) = absurd (cc (column, h.1))
  none_short some not_all (inr no_run) u (inr (inr h)) = no_run h.2 h.3 h.4

  direct : ((u : Tree) → IsShort bits c u → ⊥) → HasNoShortcut (filter_of bits c)
  unfolding bits_in_data first_in
  direct h u k =
      let of_bits : bits ≡ k.0 = ap (λ x. bits_in_data (datum x)) k.2 in
      let of_child : c ≡ k.1 = ap (λ x. first_in c (slots x)) k.2 in
      h u (subst (λ x. IsShort bits x u) (sym of_child) (subst (λ x. IsShort x k.1 u) (sym of_bits) k.3))

  -- ---- its steps

  pub nothing_done : (u : Tree) → true_count bits ≡ 0 → u ≡ empty_of (dtype c) → IsColumn u → is_canonical (datum u) ≡ true → IsDone (filter_of bits c) u
  nothing_done u none e known canonical = record {
    by = inl (bits, c, refl, inl (none, e));
    kept = firmly (filter_of bits c) u (subst (KeepsExactly (filter_of bits c)) (sym e) (nothing_exactly bits c counted_bits counted_rows none));
    falls = omega (arith, top_paid u, known.canonical_settled canonical);
  }

  pub whole_done : 0 < true_count bits → is_all_true bits ≡ true → IsDone (filter_of bits c) c
  whole_done some all = record {
    by = inl (bits, c, refl, inr (inl (some, all, refl)));
    kept = firmly (filter_of bits c) c (whole_exactly bits c counted_bits counted_rows all);
    falls = by_target (cases_Bool (is_canonical (datum c)));
  }
    where
      by_target : (is_canonical (datum c) ≡ true) ⊎ (is_canonical (datum c) ≡ false) → node_potential c < node_potential (filter_of bits c)
      by_target (inl h) = omega (arith, top_paid c, canonical_cost c h)
      by_target (inr h) = omega (arith, top_paid c, ap (λ b. slot_potential 0 b (slot_cost (enc.filter bits) (cost c) (extra c))) h)

  pub run_done : (a b : ℕ) (u : Tree) → is_all_true bits ≡ false → is_canonical (datum c) ≡ false → IsRun bits a b
      → KeepsExactly (slice_of a b c) u → cost u ≤ cost c + 3 * reach c → IsDone (filter_of bits c) u
  run_done a b u not_all unready run same bound = record {
    by = inl (bits, c, refl, inr (inr (not_all, unready, a, b, run, same, bound)));
    kept =
        firmly (filter_of bits c) u
        (exactly_trans (filter_of bits c) (slice_of a b c) u (run_exactly bits c counted_bits counted_rows a b run) same);
    falls = omega (arith, top_paid u, bound, ap (λ x. slot_potential 0 x (slot_cost (enc.filter bits) (cost c) (extra c))) unready);
  }

  -- the child is a column, and so is u
  module _ (u : Tree) (some : 0 < true_count bits) (not_all : is_all_true bits ≡ false) (whole : is_canonical (datum c) ≡ true) (known : IsColumn u)
      (canonical : is_canonical (datum u) ≡ true) where
    pub filter_done : KeepsExactly (filter_of bits c) u → IsDone (filter_of bits c) u
    filter_done same =
        canonical_done (filter_of bits c) u known (direct (none_short some not_all (inl whole))) ((λ h. whole), tt) same canonical refl (omega arith)

  pub filter_waits : 0 < true_count bits → is_all_true bits ≡ false → is_canonical (datum c) ≡ false → ((a b : ℕ) → IsRun bits a b → ⊥)
      → IsAnswer (filter_of bits c) (Wait 0 Canonical)
  filter_waits some not_all unready no_run = (direct (none_short some not_all (inr no_run)), (refl, unready), refl)

-- ---- consecutive rows

pub run_kept : (bits : List Bool) (c u : Tree) (a b : ℕ) → length bits ≡ len c → length (rows c) ≡ len c → IsRun bits a b → KeepsExactly (slice_of a b c) u
    → KeepsExactly (filter_of bits c) u
run_kept bits c u a b counted_bits counted_rows run same =
    exactly_trans (filter_of bits c) (slice_of a b c) u (run_exactly bits c counted_bits counted_rows a b run) same
