-- The step of a masked node whose child is a column.
use Rattle.std.proofs.Common.{◌≡◌, ◌⊎◌, inl, inr, ℕ, Option, Some, None, true, refl, sym, ap, subst}
use Rattle.vx_value.specs.Types.{null, bool}
use Rattle.vx_value.specs.declared.error.VortexError.{VortexError}
use Rattle.vx_value.specs.declared.error.VortexError.TheVariants.{OutOfMemory}
use Rattle.vx_value.specs.declared.dtype.Nullability.TheVariants.{NonNullable, Nullable}
use Rattle.vx_tree.specs.Tree.{Tree, dtype, datum, len, masked_of, is_canonical}
use Rattle.vx_tree.specs.Cells.{rows, IsClean}
use Rattle.vx_tree.proofs.CellsLemmas.{no_fault_at}
use Rattle.vx_tree.proofs.KindsLemmas.{type_in, len_in}
use Rattle.vx_tree.proofs.ValiditiesLemmas.{whole}
use Rattle.vx_column.specs.Arguments.{AreUnread}
use Rattle.vx_tree.specs.Well.{shape, shape_of, IsWell, IsValidity}
use Rattle.vx_tree.specs.Columns.{IsColumn}
use Rattle.vx_tree.specs.Keeps.{KeepsExactly}
use Rattle.vx_tree.specs.Validities.{HasRows, nullability_by, child_of}
use Rattle.vx_step.specs.Steps.{IsDone, IsDue, IsFailed}
use Rattle.vx_step.specs.Told.{told_by}
use Rattle.vx_step.proofs.StepsLemmas.{masked_done, unless_filter}

pub told_nullable : (v : Option Tree) → nullability_by (told_by v) ≡ Nullable
told_nullable None = refl
told_nullable (Some t) = refl

told_child : (v : Option Tree) (n : ℕ) → child_of (told_by v) n ≡ v
told_child None n = refl
told_child (Some t) n = refl

-- the tree in the slot tells of each row
rows_told : (c v : Tree) → IsWell (masked_of c (Some v)) → HasRows (told_by (Some v)) (len c)
rows_told c v w =
    let h = w.0 in
    let second : h.1 ≡ Some (shape_of v) = cc (h.2) in
    let shaped : shape_of v ≡ shape (bool NonNullable) (len c) = subst (λ x. IsValidity Nullable (len c) x) second h.4 in
    (w.1.1.0, ap type_in shaped, ap len_in shaped)

pub told_rows : (c t s : Tree) (v : Option Tree) → t ≡ masked_of c v → IsWell t → s ≡ c → HasRows (told_by v) (len s)
told_rows c t s None shown w same = tt
told_rows c t s (Some v) shown w same = subst (λ x. HasRows (told_by (Some v)) (len x)) (sym same) (rows_told c v (subst IsWell shown w))

pub told_done : (c t s u : Tree) (v : Option Tree) → t ≡ masked_of c v → s ≡ c → is_canonical (datum s) ≡ true → IsColumn u → is_canonical (datum u) ≡ true
    → KeepsExactly (masked_of s (child_of (told_by v) (len s))) u → IsDone t u
told_done c t s u v shown same whole known canonical exactly =
    let child = subst (λ x. KeepsExactly (masked_of x v) u) same (subst (λ x. KeepsExactly (masked_of s x) u) (told_child v (len s)) exactly) in
    masked_done c t u v shown (subst (λ x. is_canonical (datum x) ≡ true) same whole) known canonical (subst (λ x. KeepsExactly x u) (sym shown) child)

-- a masked node is due once its child is canonical
masked_due : (c t : Tree) (v : Option Tree) → t ≡ masked_of c v → is_canonical (datum c) ≡ true → IsDue t
masked_due c t None shown whole = subst IsDue (sym shown) (unless_filter (masked_of c None) refl, ((λ h. whole), tt))
masked_due c t (Some v) shown whole =
    subst IsDue (sym shown) (unless_filter (masked_of c (Some v)) refl, ((λ h. whole), ((λ h. absurd (cc)), tt)))

-- a fault in the validity is one in the node
unread_failed : (c t : Tree) (v : Option Tree) (n : ℕ) (e : VortexError) → t ≡ masked_of c v → IsDue t → AreUnread n v e → IsFailed t e
unread_failed c t None n e shown due m = inl m
unread_failed c t (Some u) n e shown due (inl m) = inl m
unread_failed c t (Some u) n e shown due (inr f) =
    inr (f.0, (λ clean. let parts = subst IsClean shown clean in no_fault_at (rows u) f.1 (whole u parts.1.1.0) f.3), due)

pub told_failed : (c t s : Tree) (v : Option Tree) (e : VortexError) → t ≡ masked_of c v → s ≡ c → is_canonical (datum s) ≡ true
    → (e ≡ OutOfMemory) ⊎ ((dtype s ≡ null) × AreUnread (len s) (child_of (told_by v) (len s)) e) → IsFailed t e
told_failed c t s v e shown same canonical (inl m) = inl m
told_failed c t s v e shown same canonical (inr h) =
    let due = masked_due c t v shown (subst (λ x. is_canonical (datum x) ≡ true) same canonical) in
    unread_failed c t v (len s) e shown due (subst (λ x. AreUnread (len s) x e) (told_child v (len s)) h.1)
