-- The first slot that holds a tree, found from a slot before which none does.
use Rattle.std.proofs.Common.{◌≡◌, ◌⊎◌, inl, inr, ℕ, zero, suc, add-one, ◌+◌, ◌<◌, ◌≤◌, List, [], ◌∷◌, length, get_or, set, Option, Some, None, sym, ◌∙◌, ap, subst, arith}
use Rattle.vx_value.specs.Types.{DataType}
use Rattle.vx_tree.specs.Tree.{Tree, Data, node, slots_of}
use Rattle.vx_tree.specs.Slots.{AllAbsent, NoneBefore, IsFirstAt, IsPresent, IsHole, put}
use Rattle.vx_tree.proofs.SlotsLemmas.{put_back, hole_after}

pub first_at : (xs : List (Option Tree)) (i : ℕ) (c : Tree) (z : Option Tree) → i < length xs → NoneBefore i (slots_of xs) → z ≡ get_or xs i z → z ≡ Some c
    → IsFirstAt i (slots_of xs)
first_at [] i c z l h g e = absurd (omega arith)
first_at (None ∷ xs) zero c z l h g e = absurd (cc)
first_at (None ∷ xs) (suc i) c z l h g e = first_at xs i c z (omega arith) h g e
first_at (Some t ∷ xs) zero c z l h g e = tt
first_at (Some t ∷ xs) (suc i) c z l h g e = absurd h

none_suc : (xs : List (Option Tree)) (i : ℕ) (z : Option Tree) → NoneBefore i (slots_of xs) → z ≡ get_or xs i z → z ≡ None → NoneBefore (suc i) (slots_of xs)
none_suc [] i z h g e = tt
none_suc (None ∷ xs) zero z h g e = tt
none_suc (None ∷ xs) (suc i) z h g e = none_suc xs i z h g e
none_suc (Some t ∷ xs) zero z h g e = absurd (cc)
none_suc (Some t ∷ xs) (suc i) z h g e = absurd h

pub none_more : (xs : List (Option Tree)) (i : ℕ) (z : Option Tree) → NoneBefore i (slots_of xs) → z ≡ get_or xs i z → z ≡ None
    → NoneBefore (i + 1) (slots_of xs)
none_more xs i z h g e = rw add-one (none_suc xs i z h g e)

pub none_at_all : (xs : List (Option Tree)) (i : ℕ) → length xs ≤ i → NoneBefore i (slots_of xs) → AllAbsent (slots_of xs)
none_at_all [] i l h = tt
none_at_all (x ∷ xs) zero l h = absurd (omega arith)
none_at_all (None ∷ xs) (suc i) l h = none_at_all xs i (omega arith) h
none_at_all (Some t ∷ xs) (suc i) l h = absurd h

-- ---- a slot taken out

none_taken : (xs : List (Option Tree)) (k i : ℕ) → NoneBefore k (slots_of xs) → NoneBefore k (slots_of (set xs i None))
none_taken xs zero i h = tt
none_taken [] (suc k) i h = h
none_taken (None ∷ xs) (suc k) zero h = h
none_taken (None ∷ xs) (suc k) (suc i) h = none_taken xs k i h
none_taken (Some t ∷ xs) (suc k) i h = absurd h

none_next : (xs : List (Option Tree)) (i : ℕ) → NoneBefore i (slots_of xs) → NoneBefore (suc i) (slots_of (set xs i None))
none_next [] i h = tt
none_next (None ∷ xs) zero h = tt
none_next (Some t ∷ xs) zero h = tt
none_next (None ∷ xs) (suc i) h = none_next xs i h
none_next (Some t ∷ xs) (suc i) h = absurd h

pub none_left : (xs : List (Option Tree)) (i k r : ℕ) (s : Option Tree) → s ≡ None → NoneBefore k (slots_of xs) → (r ≡ k) ⊎ ((k ≡ i) × (r ≡ i + 1))
    → NoneBefore r (slots_of (set xs i s))
none_left xs i k r s empty h (inl e) = rw (empty, e) (none_taken xs k i h)
none_left xs i k r s empty h (inr e) = rw (empty, e.1, add-one) (none_next xs i (subst (λ x. NoneBefore x (slots_of xs)) e.0 h))

-- ---- a slot filled

none_before : (xs : List (Option Tree)) (k i : ℕ) (t : Option Tree) → i < k → NoneBefore k (slots_of xs) → NoneBefore i (slots_of (set xs i t))
none_before xs zero i t l h = absurd (omega arith)
none_before xs (suc k) zero t l h = tt
none_before [] (suc k) (suc i) t l h = tt
none_before (None ∷ xs) (suc k) (suc i) t l h = none_before xs k i t (omega arith) h
none_before (Some s ∷ xs) (suc k) (suc i) t l h = absurd h

none_after : (xs : List (Option Tree)) (k i : ℕ) (t : Option Tree) → k ≤ i → NoneBefore k (slots_of xs) → NoneBefore k (slots_of (set xs i t))
none_after xs zero i t l h = tt
none_after xs (suc k) zero t l h = absurd (omega arith)
none_after [] (suc k) (suc i) t l h = tt
none_after (None ∷ xs) (suc k) (suc i) t l h = none_after xs k i t (omega arith) h
none_after (Some s ∷ xs) (suc k) (suc i) t l h = absurd h

pub none_filled : (xs : List (Option Tree)) (i k r : ℕ) (t : Option Tree) → NoneBefore k (slots_of xs)
    → ((r ≡ k) × (k ≤ i)) ⊎ ((r ≡ i) × (i < k)) → NoneBefore r (slots_of (set xs i t))
none_filled xs i k r t h (inl e) = rw e.0 (none_after xs k i t e.1 h)
none_filled xs i k r t h (inr e) = rw e.0 (none_before xs k i t e.1 h)

-- ---- what was taken out

pub slot_out : (ty : DataType) (n : ℕ) (d : Data) (xs : List (Option Tree)) (i : ℕ) (c t : Tree) (v s : Option Tree) → node ty n d (slots_of xs) ≡ t
    → IsPresent i t → get_or xs i v ≡ Some c → s ≡ None
    → IsHole i (node ty n d (slots_of (set xs i s))) × (put i c (node ty n d (slots_of (set xs i s))) ≡ t)
slot_out ty n d xs i c t v s e present found empty =
    let here = subst (λ x. IsPresent i x) (sym e) present in
    let back : put i c (node ty n d (slots_of (set xs i None))) ≡ t = ap (node ty n d) (put_back xs i v c here found) ∙ e in (
      subst (λ x. IsHole i (node ty n d (slots_of (set xs i x)))) (sym empty) (hole_after xs i here),
      subst (λ x. put i c (node ty n d (slots_of (set xs i x))) ≡ t) (sym empty) back,
    )
