-- The steps of interleaved rows.
use Rattle.std.proofs.Common.{◌≡◌, inl, inr, ℕ, List, [], ◌∷◌, map, true, false, nat_lt, ◌&&◌, refl, sym, ◌∙◌, ap, subst, arith}
use Rattle.std.proofs.lemmas.Bool.{false≢true}
use Rattle.vx_value.specs.Types as type
use Rattle.vx_value.specs.Types.{DataType}
use Rattle.vx_value.specs.declared.dtype.Nullability.TheVariants.{NonNullable}
use Rattle.vx_value.specs.declared.error.VortexError.{VortexError}
use Rattle.vx_tree.specs.Tree.{Tree, Slots, node, filled_slots, interleave, dtype, len, datum, all_present, is_columnar, is_constant}
use Rattle.vx_tree.specs.SlotTypes.{is_index, of_lengths}
use Rattle.vx_tree.specs.Shapes.{shapes}
use Rattle.vx_tree.specs.Cells.{rows, slots_rows, HasNoFault}
use Rattle.vx_tree.specs.Columns.{IsColumn}
use Rattle.vx_tree.specs.Lookups.{paired_cells}
use Rattle.vx_tree.specs.Well.{IsNode, IsWell}
use Rattle.vx_tree.proofs.ColumnsLemmas.{column_known}
use Rattle.vx_tree.proofs.KeepsLemmas.{column_exactly}
use Rattle.vx_column.specs.Interleaved.{IsIndexType, AreOfType}
use Rattle.vx_step.specs.Steps.{IsAnswer, IsDone, IsFailed, AwaitsAt}
use Rattle.vx_step.specs.Waiting.{AreColumns, ArePairs, IsPaired, IsNotPaired}
use Rattle.vx_step.specs.declared.whole.Answer.TheVariants.{Wait}
use Rattle.vx_step.specs.declared.steps.SlotTarget.TheVariants.{Columnar}
use Rattle.vx_step.proofs.StepsLemmas.{unless_filter, column_done, columns_ready, each_executed}

index_type : (t : DataType) → is_index t ≡ true → IsIndexType t
index_type (type.primitive p NonNullable) h = (p, refl)
index_type _ h = absurd (false≢true h)

present_lengths : (ty : DataType) (ms : List ℕ) → all_present (of_lengths ty ms) ≡ true
present_lengths ty [] = refl
present_lengths ty (m ∷ ms) = present_lengths ty ms

all_typed : (ty : DataType) (ts : List Tree) (ms : List ℕ) → shapes (filled_slots ts) ≡ of_lengths ty ms → AreOfType ty ts
all_typed ty [] ms h = tt
all_typed ty (t ∷ ts) [] h = absurd (cc)
all_typed ty (t ∷ ts) (m ∷ ms) h = (cc, all_typed ty ts ms (cc))

filled_rows : (ts : List Tree) → slots_rows (filled_slots ts) ≡ map rows ts
filled_rows [] = refl
filled_rows (t ∷ ts) = ap (λ l. rows t ∷ l) (filled_rows ts)

-- what the slots of interleaved rows are
pairs : (ty : DataType) (n : ℕ) (ts : List Tree) → IsNode ty n interleave (shapes (filled_slots ts)) → ArePairs ts
pairs ty n [] w = absurd (cc (w.4))
pairs ty n (a ∷ []) w = absurd (cc (w.4))
pairs ty n (a ∷ r ∷ []) w = absurd (cc (w.4))
pairs ty n (a ∷ r ∷ v ∷ vs) w =
    let first : dtype a ≡ w.0 = cc (w.4) in
    let second : dtype r ≡ w.1 = cc (w.4) in
    let long : len a ≡ n = cc (w.4) in
    let same : len r ≡ n = cc (w.4) in
    let rest : shapes (filled_slots (v ∷ vs)) ≡ of_lengths ty (w.2 ∷ w.3) = cc (w.4) in
    let typed = all_typed ty (v ∷ vs) (w.2 ∷ w.3) rest in
    record {
      arrays_typed = index_type (dtype a) (ap is_index first ∙ w.5);
      places_typed = index_type (dtype r) (ap is_index second ∙ w.6);
      long = same ∙ sym long;
      some = omega arith;
      typed = subst (λ s. AreOfType s (v ∷ vs)) (sym typed.0) typed;
    }

paired_done : (ty : DataType) (n : ℕ) (ts : List Tree) → IsNode ty n interleave (shapes (filled_slots ts)) → AreColumns (filled_slots ts) → (u : Tree)
    → IsPaired ts u → IsWell u → is_columnar (datum u) ≡ true → IsDone (node ty n interleave (filled_slots ts)) u
paired_done ty n [] w columns u h well column = absurd h
paired_done ty n (a ∷ []) w columns u h well column = absurd h
paired_done ty n (a ∷ r ∷ []) w columns u h well column = absurd (cc (w.4))
paired_done ty n (a ∷ r ∷ v ∷ vs) w columns u h well column =
    let t = node ty n interleave (filled_slots (a ∷ r ∷ v ∷ vs)) in
    let known : IsColumn u = column_known u well column in
    let long : len a ≡ n = cc (w.4) in
    let rest : shapes (filled_slots (v ∷ vs)) ≡ of_lengths ty (w.2 ∷ w.3) = cc (w.4) in
    let typed = all_typed ty (v ∷ vs) (w.2 ∷ w.3) rest in
    let shown : rows t ≡ rows u = ap (λ css. paired_cells css (rows a) (rows r)) (filled_rows (v ∷ vs)) ∙ sym h.shown in
    column_done t u known (unless_filter t refl) (columns_ready (filled_slots (a ∷ r ∷ v ∷ vs)) columns)
    (column_exactly t u (sym (h.typed ∙ typed.0)) (sym (h.counted ∙ long)) shown h.clean) column
    (subst (λ k. is_constant (datum u) ≡ (nat_lt 0 k && (is_constant (datum a) && is_constant (datum r)))) long h.constant_kept) (omega (arith, known.settled))

paired_failed : (ty : DataType) (n : ℕ) (ts : List Tree) → AreColumns (filled_slots ts) → (e : VortexError) → IsNotPaired ts e
    → IsFailed (node ty n interleave (filled_slots ts)) e
paired_failed ty n [] columns e h = absurd h
paired_failed ty n (a ∷ []) columns e h = absurd h
paired_failed ty n (a ∷ r ∷ vs) columns e (inl m) = inl m
paired_failed ty n (a ∷ r ∷ vs) columns e (inr m) =
    let t = node ty n interleave (filled_slots (a ∷ r ∷ vs)) in
    inr (
      m.0,
      (λ clean. m.1 (subst HasNoFault (ap (λ css. paired_cells css (rows a) (rows r)) (filled_rows vs)) clean.0)),
      (unless_filter t refl, columns_ready (filled_slots (a ∷ r ∷ vs)) columns),
    )

module _ (t : Tree) (ss : Slots) (shown : t ≡ node (dtype t) (len t) interleave ss) (well : IsNode (dtype t) (len t) interleave (shapes ss)) where
  pub slots_present : all_present (shapes ss) ≡ true
  slots_present = ap all_present well.4 ∙ present_lengths (dtype t) (well.2 ∷ well.3)

  pub pairs_wait : (i : ℕ) → AwaitsAt Columnar i ss → IsAnswer t (Wait i Columnar)
  pairs_wait i awaited =
      subst (λ x. IsAnswer x (Wait i Columnar)) (sym shown)
      (unless_filter (node (dtype t) (len t) interleave ss) refl, (each_executed i, awaited), refl)

  module _ (ts : List Tree) (filled : filled_slots ts ≡ ss) where
    pub may_pair : ArePairs ts
    may_pair =
        pairs (dtype t) (len t) ts (subst (λ x. IsNode (dtype t) (len t) interleave (shapes x)) (sym filled) well)

    whole : node (dtype t) (len t) interleave (filled_slots ts) ≡ t
    whole = ap (node (dtype t) (len t) interleave) filled ∙ sym shown

    pub pairs_done : AreColumns ss → (u : Tree) → IsPaired ts u → IsWell u → is_columnar (datum u) ≡ true → IsDone t u
    pairs_done columns u h w c =
        subst (λ x. IsDone x u) whole
        (paired_done (dtype t) (len t) ts (subst (λ x. IsNode (dtype t) (len t) interleave (shapes x)) (sym filled) well) (subst AreColumns (sym filled) columns) u h w c)

    pub pairs_failed : AreColumns ss → (e : VortexError) → IsNotPaired ts e → IsFailed t e
    pairs_failed columns e h = subst (λ x. IsFailed x e) whole (paired_failed (dtype t) (len t) ts (subst AreColumns (sym filled) columns) e h)
