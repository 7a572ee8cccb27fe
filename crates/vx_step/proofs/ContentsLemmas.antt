-- Chunks whose rows are appended one by one: what stands for them on the way, and once they are used up.
use Rattle.std.proofs.Common.{◌≡◌, inl, inr, ℕ, zero, suc, ◌+◌, ◌<◌, ◌≤◌, List, [], ◌∷◌, ◌++◌, length, get_or, append_assoc, true, false, Option, Some, None, refl, sym, ◌∙◌, ap, subst, arith}
use Rattle.std.specs.Prelude.{sum}
use Rattle.std.proofs.lemmas.Bool.{false≢true}
use Rattle.std.proofs.lemmas.List.{append-nil}
use Rattle.std.proofs.lemmas.List.Sums.{sum_by-cons}
use Rattle.vx_value.specs.Types.{DataType}
use Rattle.vx_tree.specs.Tree.{Tree, Data, Slots, node, no_slots, absent, slot, slots, slots_of, dtype, len, datum, chunked, is_chunked, is_columnar, is_canonical, all_present}
use Rattle.vx_tree.specs.Cells.{rows, slots_rows, chained, IsClean, AreClean}
use Rattle.vx_tree.specs.Columns.{IsColumn, empty_of}
use Rattle.vx_tree.specs.Well.{IsNode, IsNodeOf, Shape, shape, shape_of, shapes}
use Rattle.vx_tree.specs.SlotTypes.{of_lengths}
use Rattle.vx_tree.specs.Slots.{set_slot, put, IsAbsentAt, IsPresentAt, IsPresent, AllAbsent, IsFirstAt, present_slots}
use Rattle.vx_tree.specs.Firm.{KeepsFirmly}
use Rattle.vx_tree.proofs.FirmLemmas.{firmly}
use Rattle.vx_tree.specs.Keeps.{KeepsExactly}
use Rattle.vx_tree.proofs.KeepsLemmas.{exactly_of_rows, column_exactly, rows_equal}
use Rattle.vx_step.specs.Turns.{node_potential}
use Rattle.vx_step.specs.Contents.{with_content, IsUsed, IsPart, IsWithout, IsAppend}
use Rattle.vx_step.specs.Steps.{AwaitsAt, IsOpen, IsStepTo, IsDone, IsAnswer}
use Rattle.vx_step.specs.Waiting.{waits, IsReadyAt}
use Rattle.vx_step.specs.declared.whole.Answer.TheVariants.{Wait, Done as Ready}
use Rattle.vx_step.specs.declared.steps.SlotTarget.{SlotTarget}
use Rattle.vx_step.specs.declared.steps.SlotTarget.TheVariants.{Columnar}
use Rattle.vx_step.specs.declared.steps.ExecutionStep.TheVariants.{ExecuteSlot, AppendChild, Done}
use Rattle.vx_rule.proofs.RangesLemmas.{empty_known}
use Rattle.vx_step.proofs.StepsLemmas.{unless_filter, each_executed, canonical_done}
use Rattle.vx_step.proofs.TurnsLemmas.{used_falls}
use Rattle.vx_step.proofs.WaitingLemmas.{not_false, not_true}

chunk_data : (d : Data) → is_chunked d ≡ true → d ≡ chunked
chunk_data chunked h = refl
chunk_data _ h = absurd (false≢true h)

-- ---- from the slots as a list

pub ready_at : (xs : List (Option Tree)) (i : ℕ) (d : Option Tree) → IsFirstAt i (slots_of xs) → waits (get_or xs i d) ≡ false → IsReadyAt i (slots_of xs)
ready_at [] i d h k = h
ready_at (None ∷ xs) zero d h k = h
ready_at (None ∷ xs) (suc i) d h k = ready_at xs i d h k
ready_at (Some t ∷ xs) zero d h k = not_false (is_columnar (datum t)) k
ready_at (Some t ∷ xs) (suc i) d h k = h

pub awaits_at : (xs : List (Option Tree)) (i : ℕ) (d : Option Tree) → IsFirstAt i (slots_of xs) → waits (get_or xs i d) ≡ true → AwaitsAt Columnar i (slots_of xs)
awaits_at [] i d h k = h
awaits_at (None ∷ xs) zero d h k = h
awaits_at (None ∷ xs) (suc i) d h k = awaits_at xs i d h k
awaits_at (Some t ∷ xs) zero d h k = not_true (is_columnar (datum t)) k
awaits_at (Some t ∷ xs) (suc i) d h k = absurd h

pub first_within : (xs : List (Option Tree)) (i : ℕ) → IsFirstAt i (slots_of xs) → i < length xs
first_within [] i h = absurd h
first_within (None ∷ xs) zero h = absurd h
first_within (None ∷ xs) (suc i) h = omega (arith, first_within xs i h)
first_within (Some t ∷ xs) zero h = omega arith
first_within (Some t ∷ xs) (suc i) h = absurd h

pub bare_slots : (xs : List (Option Tree)) → length xs ≡ 0 → slots_of xs ≡ no_slots
bare_slots [] h = refl
bare_slots (x ∷ xs) h = absurd (omega (arith, h))

pub some_slots : (xs : List (Option Tree)) → ¬ (length xs ≡ 0) → slots_of xs ≡ no_slots → ⊥
some_slots [] h e = h refl
some_slots (None ∷ xs) h e = cc
some_slots (Some t ∷ xs) h e = cc

-- ---- a column in the first slot that holds a tree

ready_present : (i : ℕ) (ss : Slots) → IsReadyAt i ss → IsPresentAt i ss
ready_present i no_slots h = h
ready_present zero (absent ss) h = h
ready_present zero (slot s ss) h = tt
ready_present (suc i) (absent ss) h = ready_present i ss h
ready_present (suc i) (slot s ss) h = absurd h

ready_column : (i : ℕ) (c : Tree) (ss : Slots) → IsAbsentAt i ss → IsReadyAt i (set_slot i c ss) → is_columnar (datum c) ≡ true
ready_column i c no_slots h f = absurd h
ready_column zero c (absent ss) h f = f
ready_column zero c (slot s ss) h f = absurd h
ready_column (suc i) c (absent ss) h f = ready_column i c ss h f
ready_column (suc i) c (slot s ss) h f = absurd f

ready_rows : (i : ℕ) (c : Tree) (ss : Slots) → IsAbsentAt i ss → IsReadyAt i (set_slot i c ss)
    → chained (slots_rows (set_slot i c ss)) ≡ rows c ++ chained (slots_rows ss)
ready_rows i c no_slots h f = absurd h
ready_rows zero c (absent ss) h f = refl
ready_rows zero c (slot s ss) h f = absurd h
ready_rows (suc i) c (absent ss) h f = ready_rows i c ss h f
ready_rows (suc i) c (slot s ss) h f = absurd f

clean_left : (i : ℕ) (c : Tree) (ss : Slots) → IsAbsentAt i ss → AreClean (set_slot i c ss) → AreClean ss
clean_left i c no_slots h k = absurd h
clean_left zero c (absent ss) h k = k.1
clean_left zero c (slot s ss) h k = absurd h
clean_left (suc i) c (absent ss) h k = clean_left i c ss h k
clean_left (suc i) c (slot s ss) h k = (k.0, clean_left i c ss h k.1)

clean_taken : (i : ℕ) (c : Tree) (ss : Slots) → IsAbsentAt i ss → AreClean (set_slot i c ss) → IsClean c
clean_taken i c no_slots h k = absurd h
clean_taken zero c (absent ss) h k = k.0
clean_taken zero c (slot s ss) h k = absurd h
clean_taken (suc i) c (absent ss) h k = clean_taken i c ss h k
clean_taken (suc i) c (slot s ss) h k = clean_taken i c ss h k.1

-- what is left beside it
ready_left : (i : ℕ) (c : Tree) (ss : Slots) → IsAbsentAt i ss → IsReadyAt i (set_slot i c ss) → present_slots (set_slot i c ss) ≡ slot c (present_slots ss)
ready_left i c no_slots h f = absurd h
ready_left zero c (absent ss) h f = refl
ready_left zero c (slot s ss) h f = absurd h
ready_left (suc i) c (absent ss) h f = ready_left i c ss h f
ready_left (suc i) c (slot s ss) h f = absurd f

absent_missing : (i : ℕ) (ss : Slots) → IsAbsentAt i ss → all_present (shapes ss) ≡ false
absent_missing i no_slots h = absurd h
absent_missing zero (absent ss) h = refl
absent_missing zero (slot s ss) h = absurd h
absent_missing (suc i) (absent ss) h = refl
absent_missing (suc i) (slot s ss) h = absent_missing i ss h

-- ---- shapes of one type

some_shape : (s t : DataType) (m n : ℕ) (xs ys : List (Option Shape)) → Some (shape s m) ∷ xs ≡ Some (shape t n) ∷ ys → (s ≡ t) × (m ≡ n) × (xs ≡ ys)
some_shape s t m n xs ys e = (cc, cc, cc)

-- slots that hold all of their trees
whole_left : (ty : DataType) (ms : List ℕ) (ss : Slots) → shapes ss ≡ of_lengths ty ms → present_slots ss ≡ ss
whole_left ty ms no_slots h = refl
whole_left ty [] (absent ss) h = absurd (cc)
whole_left ty (m ∷ ms) (absent ss) h = absurd (cc)
whole_left ty [] (slot s ss) h = absurd (cc)
whole_left ty (m ∷ ms) (slot s ss) h = ap (slot s) (whole_left ty ms ss (some_shape (dtype s) ty (len s) m (shapes ss) (of_lengths ty ms) h).2)

whole_present : (ty : DataType) (ms : List ℕ) → all_present (of_lengths ty ms) ≡ true
whole_present ty [] = refl
whole_present ty (m ∷ ms) = whole_present ty ms

-- the first of these shapes
first_shape : (ty : DataType) (c : Tree) (xs : List (Option Shape)) (ms : List ℕ) → Some (shape_of c) ∷ xs ≡ of_lengths ty ms
    → (ns : List ℕ) × (dtype c ≡ ty) × (ms ≡ len c ∷ ns) × (xs ≡ of_lengths ty ns)
first_shape ty c xs [] h = absurd (cc)
first_shape ty c xs (m ∷ ms) h =
    let e = some_shape (dtype c) ty (len c) m xs (of_lengths ty ms) h in (ms, e.0, ap (λ n. n ∷ ms) (sym e.1), e.2)

-- what is left has the type
left_typed : (ty : DataType) (n : ℕ) (ss : Slots) → IsOpen (node ty n chunked ss) → (ms : List ℕ) × (shapes (present_slots ss) ≡ of_lengths ty ms)
left_typed ty n ss (inl w) = (w.0, ap shapes (whole_left ty w.0 ss w.1) ∙ w.1)
left_typed ty n ss (inr u) = (u.2, u.3)

-- used up in part, it isn't whole
pub used_not_whole : (t : Tree) → IsUsed t → IsNodeOf t → ⊥
used_not_whole (node ty n d ss) u w =
    let v = subst (λ x. IsNode ty n x (shapes ss)) (chunk_data d u.0) w in false≢true (sym u.1 ∙ ap all_present v.1 ∙ whole_present ty v.0)

-- nodes of other encodings that can be stepped have all of their slots
pub open_whole : (t : Tree) → IsOpen t → is_chunked (datum t) ≡ false → IsNodeOf t
open_whole t (inl w) k = w
open_whole (node ty n d ss) (inr u) k = absurd (false≢true (sym k ∙ u.0))

pub used_chunks : (t : Tree) → IsUsed t → is_chunked (datum t) ≡ true
used_chunks (node ty n d ss) u = u.0

pub chunks_open : (t : Tree) → IsUsed t → is_canonical (datum t) ≡ false
chunks_open (node ty n d ss) u = ap is_canonical (chunk_data d u.0)

-- the step of a node with all of its slots, as a result
pub answer_waits : (t u : Tree) (i : ℕ) (g : SlotTarget) → u ≡ t → IsAnswer t (Wait i g) → IsStepTo t u (ExecuteSlot i g)
answer_waits t u i g e h = (e, h.0, h.1, h.2)

pub answer_done : (t u v : Tree) → IsNodeOf t → v ≡ u → IsNodeOf v → IsAnswer t (Ready u) → IsStepTo t v Done
answer_done t u v whole e formed h = inl (whole, formed, subst (IsDone t) (sym e) h)

present_replaced : (i : ℕ) (t u : Tree) (ss : Slots) → shape_of t ≡ shape_of u
    → (shapes (set_slot i t ss) ≡ shapes (set_slot i u ss)) × (shapes (present_slots (set_slot i t ss)) ≡ shapes (present_slots (set_slot i u ss)))
present_replaced i t u no_slots h = (refl, refl)
present_replaced zero t u (absent ss) h = (ap (λ s. Some s ∷ shapes ss) h, ap (λ s. Some s ∷ shapes (present_slots ss)) h)
present_replaced zero t u (slot s ss) h = (ap (λ s. Some s ∷ shapes ss) h, ap (λ s. Some s ∷ shapes (present_slots ss)) h)
present_replaced (suc i) t u (absent ss) h = let r = present_replaced i t u ss h in (ap (λ l. None ∷ l) r.0, r.1)
present_replaced (suc i) t u (slot s ss) h =
    let r = present_replaced i t u ss h in (ap (λ l. Some (shape_of s) ∷ l) r.0, ap (λ l. Some (shape_of s) ∷ l) r.1)

-- a tree of the same type and length may take a slot's place
pub part_replaced : (i : ℕ) (b t u p : Tree) → shape_of t ≡ shape_of u → IsPart b (put i t p) → IsPart b (put i u p)
part_replaced i b t u (node ty n d ss) h w =
    let r = present_replaced i t u ss h in
    record {
      used = (w.used.0, ap all_present (sym r.0) ∙ w.used.1, w.used.2, sym r.1 ∙ w.used.3);
      fits = subst (λ l. IsNode ty n d (Some (shape_of b) ∷ l)) r.1 w.fits;
    }

-- content is no longer than its node
part_long : (b t : Tree) → IsPart b t → len b ≤ len t
part_long b (node ty n d ss) h =
    let v = subst (λ x. IsNode ty n x (shapes (slot b (present_slots ss)))) (chunk_data d h.used.0) h.fits in
    let first = first_shape ty b (shapes (present_slots ss)) v.0 v.1 in
    let total : n ≡ sum (len b ∷ first.0) = v.2 ∙ ap sum first.2 in
    omega (arith, total, sum_by-cons (λ x. x) (len b) first.0)

put_shape : (i : ℕ) (c p t : Tree) → put i c p ≡ t → (dtype p ≡ dtype t) × (len p ≡ len t)
put_shape i c (node ty n d ss) t e = (ap dtype e, ap len e)

-- nor is it with the next slot's rows
pub append_long : (i : ℕ) (a c p t : Tree) → IsAppend i t → IsWithout i c p t → IsPart a t → len a + len c ≤ len t
append_long i a c p t next w part =
    let x = node (dtype t) (len a + len c) chunked no_slots in
    omega (arith, part_long x p (next.continued a x c p w part refl refl), (put_shape i c p t w.1).1)

-- content is of its node's type
pub part_typed : (b t : Tree) → IsPart b t → dtype b ≡ dtype t
part_typed b (node ty n d ss) h =
    let v = subst (λ x. IsNode ty n x (shapes (slot b (present_slots ss)))) (chunk_data d h.used.0) h.fits in (first_shape ty b (shapes (present_slots ss)) v.0 v.1).1

-- ---- the step that appends it

module _ (ty : DataType) (n i : ℕ) (c : Tree) (ss : Slots) (hole : IsAbsentAt i ss) (ready : IsReadyAt i (set_slot i c ss)) where
  begins : (b : Tree) → (IsClean c → IsClean b) → rows b ≡ rows c → KeepsFirmly (node ty n chunked (set_slot i c ss)) (node ty n chunked (slot b ss))
  begins b clean same =
      firmly _ _ (exactly_of_rows ty n chunked chunked (set_slot i c ss) (slot b ss)
      (ready_rows i c ss hole ready ∙ ap (λ l. l ++ chained (slots_rows ss)) (sym same)) (λ k. (clean (clean_taken i c ss hole k), clean_left i c ss hole k)))

  continues : (a b : Tree) → (IsClean a → IsClean c → IsClean b) → rows b ≡ rows a ++ rows c
      → KeepsFirmly (node ty n chunked (slot a (set_slot i c ss))) (node ty n chunked (slot b ss))
  continues a b clean same =
      firmly _ _ (exactly_of_rows ty n chunked chunked (slot a (set_slot i c ss)) (slot b ss)
      (ap (λ l. rows a ++ l) (ready_rows i c ss hole ready) ∙ sym (append_assoc (rows a) (rows c) (chained (slots_rows ss)))
      ∙ ap (λ l. l ++ chained (slots_rows ss)) (sym same))
      (λ k. (clean k.0 (clean_taken i c ss hole k.1), clean_left i c ss hole k.1)))

  open_typed : IsOpen (node ty n chunked (set_slot i c ss)) → dtype c ≡ ty
  open_typed opened =
      let left = left_typed ty n (set_slot i c ss) opened in
      (first_shape ty c (shapes (present_slots ss)) left.0 (ap shapes (sym (ready_left i c ss hole ready)) ∙ left.1)).1

  begun : (b : Tree) → IsNodeOf (node ty n chunked (set_slot i c ss)) → shape_of b ≡ shape_of c → IsPart b (node ty n chunked ss)
  begun b w same =
      let left = ap shapes (sym (ready_left i c ss hole ready) ∙ whole_left ty w.0 (set_slot i c ss) w.1) ∙ w.1 in
      let first = first_shape ty c (shapes (present_slots ss)) w.0 left in
      record { used = (refl, absent_missing i ss hole, first.0, first.3); fits = (w.0, ap (λ s. Some s ∷ shapes (present_slots ss)) same ∙ left, w.2) }

  continued : (a b : Tree) → IsPart a (node ty n chunked (set_slot i c ss)) → dtype b ≡ ty → len b ≡ len a + len c → IsPart b (node ty n chunked ss)
  continued a b w typed counted =
      let first = first_shape ty a (shapes (present_slots (set_slot i c ss))) w.fits.0 w.fits.1 in
      let next = first_shape ty c (shapes (present_slots ss)) first.0 (ap shapes (sym (ready_left i c ss hole ready)) ∙ first.3) in
      let total : n ≡ sum (len b ∷ next.0) =
      let whole : n ≡ sum (len a ∷ len c ∷ next.0) = w.fits.2 ∙ ap sum (first.2 ∙ ap (λ l. len a ∷ l) next.2) in
      omega (arith, whole, counted, sum_by-cons (λ x. x) (len a) (len c ∷ next.0), sum_by-cons (λ x. x) (len c) next.0, sum_by-cons (λ x. x) (len b) next.0) in
      record {
        used = (refl, absent_missing i ss hole, next.0, next.3);
        fits = (len b ∷ next.0, (λ j. Some (shape (typed j) (len b)) ∷ next.3 j), total);
      }

-- of any tree of chunks
module _ (i : ℕ) (t : Tree) (chunks : is_chunked (datum t) ≡ true) (opened : IsOpen t) (ready : IsReadyAt i (slots t)) where
  -- a law of what is left in place of its slot
  each : (P : Tree → Tree → Tree → Type 0)
      → ((ty : DataType) (n : ℕ) (c : Tree) (ss : Slots) → IsAbsentAt i ss → IsReadyAt i (set_slot i c ss) → IsOpen (node ty n chunked (set_slot i c ss))
      → P c (node ty n chunked ss) (node ty n chunked (set_slot i c ss))) → (c p : Tree) → IsWithout i c p t → P c p t
  each P law c (node ty n d ss) w =
      let e : node ty n d (set_slot i c ss) ≡ t = w.1 in
      let same : d ≡ chunked = chunk_data d (ap (λ x. is_chunked (datum x)) e ∙ chunks) in
      let whole : node ty n chunked (set_slot i c ss) ≡ t = ap (λ x. node ty n x (set_slot i c ss)) (sym same) ∙ e in
      let r : IsReadyAt i (set_slot i c ss) = subst (λ x. IsReadyAt i (slots x)) (sym e) ready in
      subst (λ x. P c (node ty n x ss) t) (sym same)
      (subst (P c (node ty n chunked ss)) whole (law ty n c ss w.0 r (subst IsOpen (sym whole) opened)))

  falls_at : (ty : DataType) (n : ℕ) (c : Tree) (ss : Slots) → IsAbsentAt i ss → IsReadyAt i (set_slot i c ss) → IsOpen (node ty n chunked (set_slot i c ss))
      → node_potential (node ty n chunked ss) < node_potential (node ty n chunked (set_slot i c ss))
  falls_at ty n c ss hole r opened = used_falls i c (node ty n chunked ss) hole (each_executed i) (ready_column i c ss hole r) (omega arith)

  present_at : (t : Tree) → IsReadyAt i (slots t) → IsPresent i t
  present_at (node ty n d ss) r = ready_present i ss r

  pub append_step : IsAppend i t
  append_step = record {
    chunks = chunks;
    present = present_at t ready;
    column = each (λ c p t. is_columnar (datum c) ≡ true) (λ ty n c ss hole r opened. ready_column i c ss hole r);
    typed = each (λ c p t. dtype c ≡ dtype t) (λ ty n c ss hole r opened. open_typed ty n i c ss hole r opened);
    begins = λ b. each (λ c p t. (IsClean c → IsClean b) → rows b ≡ rows c → KeepsFirmly t (with_content b p)) (λ ty n c ss hole r opened. begins ty n i c ss hole r b);
    begun = λ b. each (λ c p t. IsNodeOf t → shape_of b ≡ shape_of c → IsPart b p) (λ ty n c ss hole r opened. begun ty n i c ss hole r b);
    continues = λ a b. each (λ c p t. (IsClean a → IsClean c → IsClean b) → rows b ≡ rows a ++ rows c → KeepsFirmly (with_content a t) (with_content b p))
        (λ ty n c ss hole r opened. continues ty n i c ss hole r a b);
    continued = λ a b. each (λ c p t. IsPart a t → dtype b ≡ dtype t → len b ≡ len a + len c → IsPart b p)
        (λ ty n c ss hole r opened. continued ty n i c ss hole r a b);
    falls = each (λ c p t. node_potential p < node_potential t) falls_at;
  }

-- ---- the steps of chunks

module _ (t : Tree) (i : ℕ) (chunks : is_chunked (datum t) ≡ true) (opened : IsOpen t) where
  pub chunk_appends : IsReadyAt i (slots t) → IsStepTo t t (AppendChild i)
  chunk_appends ready = (refl, append_step i t chunks opened ready)

  pub chunk_waits : AwaitsAt Columnar i (slots t) → IsStepTo t t (ExecuteSlot i Columnar)
  chunk_waits waiting = by_node t chunks waiting
    where
      by_node : (t : Tree) → is_chunked (datum t) ≡ true → AwaitsAt Columnar i (slots t) → IsStepTo t t (ExecuteSlot i Columnar)
      by_node (node ty n d ss) k w =
          let e = chunk_data d k in
          subst (λ x. IsStepTo (node ty n x ss) (node ty n x ss) (ExecuteSlot i Columnar)) (sym e)
          (refl, unless_filter (node ty n chunked ss) refl, (each_executed i, w), refl)

-- ---- chunks that are used up

none_rows : (ss : Slots) → AllAbsent ss → chained (slots_rows ss) ≡ []
none_rows no_slots h = refl
none_rows (absent ss) h = none_rows ss h
none_rows (slot s ss) h = absurd h

none_left : (ss : Slots) → AllAbsent ss → present_slots ss ≡ no_slots
none_left no_slots h = refl
none_left (absent ss) h = none_left ss h
none_left (slot s ss) h = absurd h

used_exactly : (ty : DataType) (n : ℕ) (ss : Slots) → AllAbsent ss → (b : Tree) → IsPart b (node ty n chunked ss) → KeepsExactly (node ty n chunked (slot b ss)) b
used_exactly ty n ss none b w =
    let first = first_shape ty b (shapes (present_slots ss)) w.fits.0 w.fits.1 in
    let empty : first.0 ≡ [] = no_lengths first.0 (ap shapes (sym (none_left ss none)) ∙ first.3) in
    let total : n ≡ sum (len b ∷ []) = w.fits.2 ∙ ap sum (first.2 ∙ ap (λ l. len b ∷ l) empty) in
    let shown = ap (λ l. rows b ++ l) (none_rows ss none) ∙ append-nil (rows b) in
    record {
      keeps = record {
        same_type = sym first.1;
        same_len = omega (arith, total, sum_by-cons (λ x. x) (len b) []);
        same_rows = rows_equal _ _ shown;
        still_clean = λ k. k.1.0;
      };
      equal = shown;
    }
  where
    no_lengths : (ns : List ℕ) → [] ≡ of_lengths ty ns → ns ≡ []
    no_lengths [] e = refl
    no_lengths (m ∷ ns) e = absurd (cc)

some_absent : (ss : Slots) → AllAbsent ss → (ss ≡ no_slots → ⊥) → all_present (shapes ss) ≡ false
some_absent no_slots h k = absurd (k refl)
some_absent (absent ss) h k = refl
some_absent (slot s ss) h k = absurd h

pub chunks_used : (t : Tree) → is_chunked (datum t) ≡ true → IsOpen t → AllAbsent (slots t) → (slots t ≡ no_slots → ⊥) → IsStepTo t t Done
chunks_used (node ty n d ss) k opened none some =
    let e = chunk_data d k in
    let left = left_typed ty n ss (subst (λ x. IsOpen (node ty n x ss)) e opened) in
    subst (λ x. IsStepTo (node ty n x ss) (node ty n x ss) Done) (sym e)
    (inr (refl, record { used = (refl, some_absent ss none some, left.0, left.1); kept = λ b part. firmly _ _ (used_exactly ty n ss none b part); falls = omega arith }))

-- ---- no chunks at all

pub chunks_empty : (t u : Tree) → is_chunked (datum t) ≡ true → IsOpen t → slots t ≡ no_slots → u ≡ empty_of (dtype t) → IsColumn u
    → is_canonical (datum u) ≡ true → IsNodeOf u → IsStepTo t u Done
chunks_empty (node ty n d ss) u k opened bare new known canonical formed =
    let e = chunk_data d k in
    subst (λ x. IsStepTo (node ty n x ss) u Done) (sym e)
    (subst (λ x. IsStepTo (node ty n chunked x) u Done) (sym bare)
    (by_open (subst (λ x. IsOpen (node ty n chunked x)) bare (subst (λ x. IsOpen (node ty n x ss)) e opened))))
  where
    by_open : IsOpen (node ty n chunked no_slots) → IsStepTo (node ty n chunked no_slots) u Done
    by_open (inr used) = absurd (false≢true (sym used.1))
    by_open (inl w) =
        let none : w.0 ≡ [] = no_lengths w.0 w.1 in
        let known_empty = empty_known ty in
        let same : KeepsExactly (node ty n chunked no_slots) (empty_of ty) =
        column_exactly (node ty n chunked no_slots) (empty_of ty) (sym known_empty.0) (w.2 ∙ ap sum none ∙ sym known_empty.1) (sym known_empty.2)
        known_empty.3 in
        let done =
        canonical_done (node ty n chunked no_slots) u known (unless_filter (node ty n chunked no_slots) refl) tt
        (subst (KeepsExactly (node ty n chunked no_slots)) (sym new) same) canonical refl (omega arith) in
        inl (w, formed, done)
      where
        no_lengths : (ns : List ℕ) → [] ≡ of_lengths ty ns → ns ≡ []
        no_lengths [] e = refl
        no_lengths (m ∷ ns) e = absurd (cc)
