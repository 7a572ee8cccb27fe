-- The column that a node steps to, and why a function has none.
use Rattle.std.proofs.Common.{◌≡◌, inl, inr, ℕ, zero, suc, Option, None, ◌<◌, ◌&&◌, nat_lt, List, [], ◌∷◌, map, true, false, Some, refl, sym, ◌∙◌, ap, subst, arith}
use Rattle.vx_value.specs.Types.{DataType}
use Rattle.vx_value.specs.Supported.{has_columns}
use Rattle.vx_value.specs.declared.error.VortexError.{VortexError}
use Rattle.vx_fn.specs.ReturnTypes.{return_type}
use Rattle.vx_fn.specs.declared.function.ScalarFnRef.{ScalarFnRef}
use Rattle.vx_value.specs.Typed.{Typed}
use Rattle.vx_tree.specs.Tree.{Tree, Slots, node, function, no_slots, absent, slot, filled_slots, dtype, len, datum, is_canonical, is_columnar, is_constant, is_filter, constant_of, slice_of, masked_of, validity_in, call_of}
use Rattle.vx_tree.specs.Tree.{types_in}
use Rattle.vx_tree.specs.Tree.{all_present}
use Rattle.vx_tree.specs.Cost.{all, is_executed, cost, base_cost}
use Rattle.vx_tree.specs.Columns.{IsColumn}
use Rattle.vx_tree.proofs.ColumnsLemmas.{column_known, canonical_columnar, canonical_open}
use Rattle.vx_step.proofs.TurnsLemmas.{top_paid, top_own}
use Rattle.vx_tree.specs.Cells.{rows, HasNoFault, IsClean}
use Rattle.vx_tree.specs.Well.{IsNode, IsWell, shapes}
use Rattle.vx_tree.proofs.FirmLemmas.{firmly}
use Rattle.vx_tree.specs.Keeps.{KeepsExactly}
use Rattle.vx_tree.proofs.CallsLemmas.{filled_types}
use Rattle.vx_tree.proofs.RefusalsLemmas.{types_back, present_types}
use Rattle.vx_step.specs.Steps.{HasNoShortcut, IsAnswer, AwaitsAt, IsDone, IsReady, IsDue, IsFailed, AreReady, are_constant, gives_constant}
use Rattle.vx_step.specs.Waiting.{AreColumns}
use Rattle.vx_step.specs.declared.whole.Answer.TheVariants.{Wait}
use Rattle.vx_step.specs.declared.steps.SlotTarget.TheVariants.{Canonical, Columnar}
use Rattle.vx_tree.proofs.CellsLemmas.{no_fault_at}
use Rattle.vx_column.specs.Arguments.{IsUnread}
use Rattle.vx_column.specs.Applied.{IsCall, IsApplied, IsUnapplied, all_constant}

some_same : (s t : DataType) → Some s ≡ Some t → s ≡ t
some_same s t h = cc

-- only a filter has a shortcut
pub unless_filter : (t : Tree) → is_filter (datum t) ≡ false → HasNoShortcut t
unless_filter t h u k = absurd (cc (ap (λ x. is_filter (datum x)) k.2, h))

-- a column that stands for a node whose slots are ready
module _ (t u : Tree) (known : IsColumn u) (direct : HasNoShortcut t) (ready : IsReady t) (same : KeepsExactly t u) where
  pub column_done : is_columnar (datum u) ≡ true → is_constant (datum u) ≡ gives_constant t → cost u < base_cost (datum t) → IsDone t u
  column_done column kept less = record {
    by = inr (record { direct = direct; ready = ready; column = column; constant_kept = kept });
    kept = firmly t u same;
    falls = omega (arith, top_paid u, top_own t, less);
  }

  pub canonical_done : is_canonical (datum u) ≡ true → gives_constant t ≡ false → 1 < base_cost (datum t) → IsDone t u
  canonical_done c gives less =
      column_done (canonical_columnar (datum u) c) (canonical_open (datum u) c ∙ sym gives) (omega (arith, known.canonical_settled c, less))

-- a constant, and a range of a column
pub constant_done : (v : Typed) (n : ℕ) (t u : Tree) → t ≡ constant_of v n → IsColumn u → is_canonical (datum u) ≡ true → KeepsExactly t u → IsDone t u
constant_done v n t u shown known c same =
    subst (λ x. IsDone x u) (sym shown)
    (canonical_done (constant_of v n) u known (unless_filter (constant_of v n) refl) tt (subst (λ x. KeepsExactly x u) shown same) c refl (omega arith))

pub slice_done : (a b : ℕ) (s t u : Tree) → t ≡ slice_of a b s → is_canonical (datum s) ≡ true → IsColumn u → is_canonical (datum u) ≡ true → KeepsExactly t u
    → IsDone t u
slice_done a b s t u shown whole known c same =
    subst (λ x. IsDone x u) (sym shown)
    (canonical_done (slice_of a b s) u known (unless_filter (slice_of a b s) refl) ((λ h. whole), tt) (subst (λ x. KeepsExactly x u) shown same) c refl
    (omega arith))

-- the range of a column, as what is pushed down
pub part_done : (a b : ℕ) (s t u : Tree) → t ≡ slice_of a b s → is_canonical (datum s) ≡ true → IsWell u
    → (is_canonical (datum s) ≡ true → is_canonical (datum u) ≡ true)
    → KeepsExactly (slice_of a b s) u → IsDone t u
part_done a b s t u shown whole well kept same =
    let canonical : is_canonical (datum u) ≡ true = kept whole in
    slice_done a b s t u shown whole (column_known u well (canonical_columnar (datum u) canonical)) canonical (subst (λ x. KeepsExactly x u) (sym shown) same)

pub masked_done : (c t u : Tree) (v : Option Tree) → t ≡ masked_of c v → is_canonical (datum c) ≡ true → IsColumn u → is_canonical (datum u) ≡ true
    → KeepsExactly t u
    → IsDone t u
masked_done c t u None shown whole known canonical same =
    subst (λ x. IsDone x u) (sym shown)
    (canonical_done (masked_of c None) u known (unless_filter (masked_of c None) refl) ((λ h. whole), tt)
    (subst (λ x. KeepsExactly x u) shown same) canonical refl
    (omega arith))
masked_done c t u (Some v) shown whole known canonical same =
    subst (λ x. IsDone x u) (sym shown)
    (canonical_done (masked_of c (Some v)) u known (unless_filter (masked_of c (Some v)) refl) ((λ h. whole), ((λ h. absurd (cc)), tt))
    (subst (λ x. KeepsExactly x u) shown same) canonical refl (omega arith))

pub validity_done : (c t u : Tree) → t ≡ validity_in c → is_columnar (datum c) ≡ true → IsColumn u → is_canonical (datum u) ≡ true
    → KeepsExactly (validity_in c) u → IsDone t u
validity_done c t u shown whole known canonical same =
    subst (λ x. IsDone x u) (sym shown)
    (canonical_done (validity_in c) u known (unless_filter (validity_in c) refl) ((λ h. whole), tt) same canonical refl (omega arith))

-- ---- nodes whose child isn't ready

pub slice_waits : (a b : ℕ) (c t : Tree) → t ≡ slice_of a b c → is_canonical (datum c) ≡ false → IsAnswer t (Wait 0 Canonical)
slice_waits a b c t shown unready =
    subst (λ x. IsAnswer x (Wait 0 Canonical)) (sym shown) (unless_filter (slice_of a b c) refl, (refl, unready), refl)

pub masked_waits : (c t : Tree) (v : Option Tree) → t ≡ masked_of c v → is_canonical (datum c) ≡ false → IsAnswer t (Wait 0 Canonical)
masked_waits c t v shown unready =
    subst (λ x. IsAnswer x (Wait 0 Canonical)) (sym shown) (unless_filter (masked_of c v) refl, (refl, unready), refl)

pub validity_waits : (c t : Tree) → t ≡ validity_in c → is_columnar (datum c) ≡ false → IsAnswer t (Wait 0 Columnar)
validity_waits c t shown unready =
    subst (λ x. IsAnswer x (Wait 0 Columnar)) (sym shown) (unless_filter (validity_in c) refl, (refl, unready), refl)

-- a row of the child that is a fault is one of the node's
pub unread_failed : (c t : Tree) (e : VortexError) → t ≡ validity_in c → is_columnar (datum c) ≡ true → IsUnread c e → IsFailed t e
unread_failed c t e shown whole (inl m) = inl m
unread_failed c t e shown whole (inr h) = inr (
  h.0,
  (λ clean. no_fault_at (rows c) h.1 (child_clean c (subst IsClean shown clean)) h.3),
  subst IsDue (sym shown) (unless_filter (validity_in c) refl, ((λ h. whole), tt)),
)
  where
    child_clean : (c : Tree) → IsClean (validity_in c) → HasNoFault (rows c)
    child_clean (node ty n d ss) k = k.1.0.0

-- slots that are columns are ready for a function, and it gives a constant where each is one
pub columns_ready : (ss : Slots) → AreColumns ss → AreReady Columnar all ss
columns_ready no_slots h = tt
columns_ready (absent ss) h = absurd h
columns_ready (slot t ss) h = ((λ e. h.0), columns_ready ss h.1)

constants_filled : (ts : List Tree) → all_constant ts ≡ are_constant (filled_slots ts)
constants_filled [] = refl
constants_filled (t ∷ ts) = ap (λ b. is_constant (datum t) && b) (constants_filled ts)

-- a slot of a function that isn't ready is executed first
pub each_executed : (i : ℕ) → is_executed all i ≡ true
each_executed zero = refl
each_executed (suc i) = each_executed i

pub function_waits : (f : ScalarFnRef) (t : Tree) (ss : Slots) (i : ℕ) → t ≡ node (dtype t) (len t) (function f) ss → AwaitsAt Columnar i ss
    → IsAnswer t (Wait i Columnar)
function_waits f t ss i shown awaited =
    subst (λ x. IsAnswer x (Wait i Columnar)) (sym shown)
    (unless_filter (node (dtype t) (len t) (function f) ss) refl, (each_executed i, awaited), refl)

pub slots_present : (f : ScalarFnRef) (t : Tree) (ss : Slots) → IsNode (dtype t) (len t) (function f) (shapes ss) → all_present (shapes ss) ≡ true
slots_present f t ss well = ap all_present well.1 ∙ present_types (len t) well.0

module _ (f : ScalarFnRef) (t : Tree) (ss : Slots) (ts : List Tree) (shown : t ≡ node (dtype t) (len t) (function f) ss)
    (well : IsNode (dtype t) (len t) (function f) (shapes ss)) (filled : filled_slots ts ≡ ss) where
  -- the function takes the columns
  typed : return_type f (map dtype ts) ≡ Some (dtype t)
  typed =
      let types : map dtype ts ≡ well.0 = sym (filled_types ts) ∙ ap (λ x. types_in (shapes x)) filled ∙ ap types_in well.1 ∙ types_back (len t) well.0 in
      ap (return_type f) types ∙ well.2

  -- and there are columns of what it gives
  pub call_columns : has_columns (dtype t) ≡ true → (ty : DataType) → return_type f (map dtype ts) ≡ Some ty → has_columns ty ≡ true
  call_columns columns ty row = let same : dtype t ≡ ty = cc (sym typed ∙ row) in subst (λ u. has_columns u ≡ true) same columns

  pub may_call : IsCall f ts (len t)
  may_call = (dtype t, subst (λ x. IsNode (dtype t) (len t) (function f) (shapes x)) (sym filled) well)

  whole : call_of f (dtype t) (len t) ts ≡ t
  whole = ap (node (dtype t) (len t) (function f)) filled ∙ sym shown

  ready : AreColumns ss → IsReady t
  ready columns = subst IsReady (sym shown) (columns_ready ss columns)

  gives : gives_constant t ≡ (nat_lt 0 (len t) && all_constant ts)
  gives =
      ap gives_constant shown ∙ ap (λ b. nat_lt 0 (len t) && b) (ap are_constant (sym filled) ∙ sym (constants_filled ts))

  pub applied_done : AreColumns ss → (u : Tree) → IsApplied f ts (len t) u → IsWell u → is_columnar (datum u) ≡ true → IsDone t u
  applied_done columns u h w c =
      let known : IsColumn u = column_known u w c in
      let type : dtype u ≡ dtype t = some_same (dtype u) (dtype t) (sym h.typed ∙ typed) in
      let same : call_of f (dtype u) (len t) ts ≡ t = ap (λ x. call_of f x (len t) ts) type ∙ whole in
      let own : base_cost (datum t) ≡ 3 = ap (λ x. base_cost (datum x)) shown in
      column_done t u known (subst HasNoShortcut (sym shown) (unless_filter (node (dtype t) (len t) (function f) ss) refl)) (ready columns)
      (subst (λ x. KeepsExactly x u) same h.exactly) c (h.constant_kept ∙ sym gives) (omega (arith, known.settled, own))

  due : AreColumns ss → IsDue t
  due columns = (subst HasNoShortcut (sym shown) (unless_filter (node (dtype t) (len t) (function f) ss) refl), ready columns)

  pub unapplied_failed : AreColumns ss → (e : VortexError) → IsUnapplied f ts (len t) e → IsFailed t e
  unapplied_failed columns e (inl m) = inl m
  unapplied_failed columns e (inr h) =
      inr (h.0, (λ clean. h.1 (dtype t) typed (no_fault (subst IsClean (sym whole) clean))), due columns)
    where
      no_fault : IsClean (call_of f (dtype t) (len t) ts) → HasNoFault (rows (call_of f (dtype t) (len t) ts))
      no_fault c = c.0
