-- Firm trees, and what is kept firmly.
use Rattle.std.proofs.Common.{◌≡◌, ℕ, zero, suc, List, [], ◌∷◌, refl, ap, ◌∙◌}
use Rattle.vx_value.specs.Cell.{Cell}
use Rattle.vx_tree.specs.Tree.{Tree, Slots, node, no_slots, absent, slot, dtype}
use Rattle.vx_tree.specs.Cells.{rows, slots_rows, node_cells}
use Rattle.vx_tree.specs.Slots.{set_slot, put}
use Rattle.vx_tree.specs.Keeps.{KeepsExactly}
use Rattle.vx_tree.specs.Firm.{IsFirm, AreFirm, KeepsFirmly}
use Rattle.vx_tree.proofs.KeepsLemmas.{keeps_refl, keeps_trans, put_keeps, put_types}

mutual
  pub all_firm : (t : Tree) → IsFirm t
  all_firm (node ty n d ss) = ((λ h. refl), slots_firm ss)

  slots_firm : (ss : Slots) → AreFirm ss
  slots_firm no_slots = tt
  slots_firm (absent ss) = slots_firm ss
  slots_firm (slot t ss) = (all_firm t, slots_firm ss)

-- ---- what is kept exactly is kept firmly, if the answer is firm

pub firmly_of : (t u : Tree) → KeepsExactly t u → (IsFirm t → IsFirm u) → KeepsFirmly t u
firmly_of t u h k = record { keeps = h.keeps; still_firm = k; equal = λ f. h.equal }

pub firmly : (t u : Tree) → KeepsExactly t u → KeepsFirmly t u
firmly t u h = firmly_of t u h (λ f. all_firm u)

-- ---- it is a preorder

pub firmly_refl : (t : Tree) → KeepsFirmly t t
firmly_refl t = record { keeps = keeps_refl t; still_firm = λ f. f; equal = λ f. refl }

pub firmly_trans : (t u v : Tree) → KeepsFirmly t u → KeepsFirmly u v → KeepsFirmly t v
firmly_trans t u v p q = record {
  keeps = keeps_trans t u v p.keeps q.keeps;
  still_firm = λ f. q.still_firm (p.still_firm f);
  equal = λ f. p.equal f ∙ q.equal (p.still_firm f);
}

-- ---- and holds in a slot too

put_firm : (i : ℕ) (t u : Tree) (ss : Slots) → (IsFirm t → IsFirm u) → AreFirm (set_slot i t ss) → AreFirm (set_slot i u ss)
put_firm i t u no_slots h f = tt
put_firm zero t u (absent ss) h f = (h f.0, f.1)
put_firm zero t u (slot s ss) h f = (h f.0, f.1)
put_firm (suc i) t u (absent ss) h f = put_firm i t u ss h f
put_firm (suc i) t u (slot s ss) h f = (f.0, put_firm i t u ss h f.1)

put_shown : (i : ℕ) (t u : Tree) (ss : Slots) → (IsFirm t → rows t ≡ rows u) → AreFirm (set_slot i t ss)
    → slots_rows (set_slot i t ss) ≡ slots_rows (set_slot i u ss)
put_shown i t u no_slots h f = refl
put_shown zero t u (absent ss) h f = ap (λ cs. cs ∷ slots_rows ss) (h f.0)
put_shown zero t u (slot s ss) h f = ap (λ cs. cs ∷ slots_rows ss) (h f.0)
put_shown (suc i) t u (absent ss) h f = ap (λ css. [] ∷ css) (put_shown i t u ss h f)
put_shown (suc i) t u (slot s ss) h f = ap (λ css. rows s ∷ css) (put_shown i t u ss h f.1)

put_equal : (i : ℕ) (t u p : Tree) → dtype t ≡ dtype u → (IsFirm t → rows t ≡ rows u) → IsFirm (put i t p) → rows (put i t p) ≡ rows (put i u p)
put_equal i t u (node ty n d ss) e h f = λ j. node_cells ty n d (put_types i t u ss e j) (put_shown i t u ss h f.1 j)

put_still : (i : ℕ) (t u p : Tree) → (IsFirm t → IsFirm u) → IsFirm (put i t p) → IsFirm (put i u p)
put_still i t u (node ty n d ss) h f = (f.0, put_firm i t u ss h f.1)

pub put_firmly : (i : ℕ) (t u p : Tree) → KeepsFirmly t u → KeepsFirmly (put i t p) (put i u p)
put_firmly i t u p h = record {
  keeps = put_keeps i t u p h.keeps;
  still_firm = put_still i t u p h.still_firm;
  equal = put_equal i t u p h.keeps.same_type h.equal;
}
