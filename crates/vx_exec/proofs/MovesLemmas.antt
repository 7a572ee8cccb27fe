-- One turn, and the loop of turns.
use Rattle.std.proofs.Common.{◌≡◌, ◌⊎◌, inl, inr, ℕ, zero, suc, add-one, ◌+◌, ◌-◌, ◌^◌, ◌<◌, ◌≤◌, List, [], ◌∷◌, ◌++◌, length, slice_get, Option, Some, None, Result, Ok, Err, IfOk, IfErr, Bool, true, false, ◌||◌, refl, sym, ◌∙◌, ap, subst, arith}
use Rattle.std.proofs.lemmas.Bool.{lt-ltb}
use Rattle.std.proofs.lemmas.Option.{slice_get_within}
use Rattle.vx_value.specs.Supported.{has_columns}
use Rattle.vx_value.specs.Types.{DataType, same_type, same_type_Decides}
use Rattle.vx_value.specs.declared.error.VortexError.{VortexError}
use Rattle.vx_value.specs.declared.error.VortexError.TheVariants.{OutOfMemory, Fault}
use Rattle.vx_tree.specs.Tree.{Tree, Data, Slots, node, no_slots, absent, slot, dtype, len, datum, function, is_valid, dict, chunked, interleave, is_canonical}
use Rattle.vx_tree.specs.Cells.{rows, IsClean, HasNoFault}
use Rattle.vx_tree.specs.Well.{IsNodeOf, IsWell, shape, shape_of}
use Rattle.vx_tree.specs.Slots.{put, IsPresent, IsPresentAt}
use Rattle.vx_tree.specs.Firm.{KeepsFirmly}
use Rattle.vx_tree.specs.Cost.{cost}
use Rattle.vx_tree.proofs.FirmLemmas.{firmly_refl, firmly_trans}
use Rattle.vx_tree.proofs.ColumnsLemmas.{canonical_columnar}
use Rattle.vx_tree.proofs.ConditionsLemmas.{none_refused, none_unless}
use Rattle.vx_column.specs.Expanded.{expansion}
use Rattle.vx_column.specs.Grown.{GrownRows, IsGrown, grown, count, none_of, with_column, cells_read, column_refusal}
use Rattle.vx_column.proofs.GrownLemmas.{grown_typed, grown_long, grown_rows, grown_cost, with_column_type, with_column_cells, with_column_count, with_column_clean, none_grown}
use Rattle.vx_column.proofs.ValueColumnsLemmas.{column_clean}
use Rattle.vx_step.specs.Turns.{data_meets, meets, slot_target, target_of, node_potential, parent_potential}
use Rattle.vx_step.specs.Contents.{with_content, IsUsed, IsPart, IsWithout, IsAppend, IsUsedUp}
use Rattle.vx_step.specs.Steps.{HasNoShortcut, Awaits, AwaitsAt, IsDone, IsDue, IsFailed, IsStopped, IsOpen, IsStepTo}
use Rattle.vx_step.specs.declared.steps.SlotTarget.{SlotTarget}
use Rattle.vx_step.specs.declared.steps.ExecutionStep.TheVariants.{Done}
use Rattle.vx_step.proofs.ContentsLemmas.{used_not_whole, append_long, chunks_open}
use Rattle.vx_step.proofs.TurnsLemmas.{take_falls, put_falls, top_paid, top_positive}
use Rattle.vx_exec.specs.Frames.{active, wrapped, filled, Fits, IsFrame, AreFrames, frames_top, node_in, builder_in, focus_on, focus_tree, IsFocus, focus_top}
use Rattle.vx_exec.specs.Moves.{IsFaulty, FaultsIn, IsOneMove, IsMove, IsTurned, is_awaited, is_reached, is_over, Reaches, GoesOn, IsExecuted, IsGoing, IsAppendedTo, IsNotAppended, IsUnappendable, read_cells, begun, ended, MayEnd}
use Rattle.vx_exec.specs.declared.turn.Frame.{Frame}
use Rattle.vx_exec.specs.declared.turn.Turn.{Turn}
use Rattle.vx_exec.specs.declared.turn.Turn.TheVariants.{Go}
use Rattle.vx_exec.specs.declared.turn.Focus.{Focus}
use Rattle.vx_exec.specs.declared.turn.Focus.TheVariants.{Whole, Partial}
use Rattle.vx_exec.proofs.FramesLemmas.{filled_append, frames_top_append, frames_pop, frames_push, filled_firmly, frames_replace, clean_without, stopped_inside, failed_stopped, failed_fault}

type_same : (s t : DataType) → s ≡ t → same_type s t ≡ true
type_same s t e = (same_type_Decides s t).1 e

firmly_equal : (t u : Tree) → t ≡ u → KeepsFirmly t u
firmly_equal t u e = subst (λ x. KeepsFirmly t x) e (firmly_refl t)

firmly_shape : (t u : Tree) → KeepsFirmly t u → shape_of t ≡ shape_of u
firmly_shape t u h = λ i. shape (h.keeps.same_type i) (h.keeps.same_len i)

-- ---- a node that takes a step, with its builder or without

put_target : (i : ℕ) (c p : Tree) → target_of (put i c p) ≡ target_of p
put_target i c (node ty n d ss) = refl

put_parts : (i : ℕ) (c p t : Tree) → put i c p ≡ t → (dtype p ≡ dtype t) × (len p ≡ len t)
put_parts i c (node ty n d ss) t e = (ap dtype e, ap len e)

pub well_node : (t : Tree) → IsWell t → IsNodeOf t
well_node (node ty n d ss) h = h.0

pub whole_going : (fits : Tree → Bool) (fs : List Frame) (t : Tree) → AreFrames fs t → IsWell t → is_reached fits fs t ≡ false → IsGoing fits fs None t
whole_going fits fs t h well going = record { frames = h; formed = well_node t well; going = going }

pub partial_going : (fits : Tree → Bool) (fs : List Frame) (t : Tree) (r : GrownRows) → AreFrames fs (focus_tree (Partial t r)) → IsFocus (Partial t r)
    → IsGoing fits fs (Some r) t
partial_going fits fs t r h formed = record { frames = h; formed = formed; going = refl }

-- chunks that are used up in part aren't a column
pub partial_open : (t : Tree) (r : GrownRows) → IsFocus (Partial t r) → is_canonical (datum t) ≡ false
partial_open t r h = chunks_open t h.2.used

-- what holds of a result

pub ok_weaker : {A : Type 0} (r : Result A VortexError) (P Q : A → Type 0) → ((a : A) → P a → Q a) → IfOk r P → IfOk r Q
ok_weaker (Ok a) P Q f h = f a h
ok_weaker (Err e) P Q f h = tt

pub both_ok : {A : Type 0} (r : Result A VortexError) (P Q R : A → Type 0) → ((a : A) → P a → Q a → R a) → IfOk r P → IfOk r Q → IfOk r R
both_ok (Ok a) P Q R f h k = f a h k
both_ok (Err e) P Q R f h k = tt

pub err_weaker : {A : Type 0} (r : Result A VortexError) (P Q : VortexError → Type 0) → ((e : VortexError) → P e → Q e) → IfErr r P → IfErr r Q
err_weaker (Ok a) P Q f h = tt
err_weaker (Err e) P Q f h = f e h

-- what a step leads to, as a turn
pub turn_on : (fits : Tree → Bool) (fs gs : List Frame) (c : Focus) (step : Result Focus VortexError) (turn : Result Turn VortexError)
    → IfOk step (λ d. IsMove fits fs c gs d) → IfOk step (λ d. turn ≡ Ok (Go d)) → IfErr step (λ e. turn ≡ Err e) → IfOk turn (λ r. IsTurned fits fs c gs r)
turn_on fits fs gs c (Ok d) turn h e f = subst (λ x. IfOk x (λ r. IsTurned fits fs c gs r)) (sym e) h
turn_on fits fs gs c (Err x) turn h e f = subst (λ x. IfOk x (λ r. IsTurned fits fs c gs r)) (sym f) tt

pub stopped_on : (t : Tree) (step : Result Focus VortexError) (turn : Result Turn VortexError) → IfErr step (IsStopped t) → IfOk step (λ d. turn ≡ Ok (Go d))
    → IfErr step (λ e. turn ≡ Err e) → IfErr turn (IsStopped t)
stopped_on t (Ok d) turn h e f = subst (λ x. IfErr x (IsStopped t)) (sym e) tt
stopped_on t (Err x) turn h e f = subst (λ x. IfErr x (IsStopped t)) (sym f) h

pub fault_on : (X : Type 0) (step : Result Focus VortexError) (turn : Result Turn VortexError) → (step ≡ Err Fault → X) → IfOk step (λ d. turn ≡ Ok (Go d))
    → IfErr step (λ e. turn ≡ Err e) → turn ≡ Err Fault → X
fault_on X (Ok d) turn h e f same = absurd (cc (sym e ∙ same))
fault_on X (Err x) turn h e f same = let alike : x ≡ Fault = cc (sym f ∙ same) in h (λ i. Err (alike i))

-- the node takes its step
move_done : (fits : Tree → Bool) (fs : List Frame) (t u : Tree) → IsGoing fits fs None t → IsNodeOf u → IsDone t u → IsMove fits fs (Whole t) fs (Whole u)
move_done fits fs t u h formed d = record {
  one = inr (inr (inl (record { going = h.going; same = refl; before = refl; after = refl; done = d })));
  kept = filled_firmly fs t u d.kept;
  frames = frames_replace fs t u (firmly_shape t u d.kept) h.frames;
  focus = formed;
  falls = omega (arith, d.falls);
}

-- a child is taken out of the node, and becomes the current one
enter_by : (fits : Tree → Bool) (fs gs : List Frame) (e : Focus) (i : ℕ) (p c : Tree) (g : SlotTarget) → is_over fits fs e ≡ false
    → AreFrames fs (focus_tree e) → IsFocus e → IsWithout i c p (node_in e) → IsNodeOf c → HasNoShortcut (node_in e) → Awaits i (node_in e)
    → g ≡ target_of (node_in e) → gs ≡ fs ++ record { parent = p; slot = i; target = g; builder = builder_in e } ∷ [] → IsMove fits fs e gs (Whole c)
enter_by fits fs gs e i p c g going h formed without child direct w aim join =
    let f : Frame = record { parent = p; slot = i; target = g; builder = builder_in e } in
    let same : put i c p ≡ node_in e = without.1 in
    let frame : IsFrame f c =
    record { hole = without.0; fits = subst (Fits (builder_in e)) (sym same) formed; target = aim ∙ ap target_of (sym same) ∙ put_target i c p } in
    let falls : parent_potential p + node_potential c < node_potential (put i c p) = take_falls i c p without.0 (subst (λ x. Awaits i x) (sym same) w) in
    subst (λ x. IsMove fits fs e x (Whole c)) (sym join) (record {
      one = inr
          (inl
          (record { frame = f; going = going; pushed = refl; taken = same; entered = refl; builder = refl; hole = without.0; direct = direct; awaited = w; target = aim }));
      kept = firmly_equal _ _ (ap (λ x. filled fs (active (builder_in e) x)) (sym same) ∙ sym (filled_append fs f c));
      frames = frames_push fs f c (subst (λ x. AreFrames fs (active (builder_in e) x)) (sym same) h) frame;
      focus = child;
      falls = omega (arith, frames_top_append fs f, falls, ap node_potential same);
    })

pub move_enter : (fits : Tree → Bool) (fs gs : List Frame) (b : Option GrownRows) (t : Tree) (i : ℕ) (p c : Tree) (g : SlotTarget) → IsGoing fits fs b t
    → IsWithout i c p t → IsNodeOf c → HasNoShortcut t → Awaits i t → g ≡ target_of t
    → gs ≡ fs ++ record { parent = p; slot = i; target = g; builder = b } ∷ [] → IsMove fits fs (focus_on b t) gs (Whole c)
move_enter fits fs gs None t i p c g h without child direct w aim join =
    enter_by fits fs gs (Whole t) i p c g h.going h.frames h.formed without child direct w aim join
move_enter fits fs gs (Some r) t i p c g h without child direct w aim join =
    enter_by fits fs gs (Partial t r) i p c g h.going h.frames h.formed without child direct w aim join

-- ---- the rows of a slot, appended

taken_by : (r : GrownRows) (c : Tree) → dtype c ≡ r.of_type → count r + len c < 2 ^ 64 → column_refusal r c ≡ None
taken_by r c typed fit =
    none_refused _ _ (none_unless _ _ (type_same (dtype c) r.of_type typed)) (none_unless _ _ (lt-ltb (count r + len c) (2 ^ 64) fit))

-- a builder that has rows, or a new one, takes them
pub never_refused : (b : Option GrownRows) (i : ℕ) (t c p : Tree) → Fits b t → IsAppend i t → IsWithout i c p t → len c < 2 ^ 64 → len t < 2 ^ 64
    → column_refusal (begun b t) c ≡ None
never_refused None i t c p h next w short long = taken_by (none_of (dtype t)) c (next.typed c p w) (omega (arith, short))
never_refused (Some r) i t c p h next w short long =
    taken_by r c (next.typed c p w ∙ sym h.1) (omega (arith, append_long i (grown r) c p t next w h.2, grown_long r h.0, long))

module _ (fits : Tree → Bool) (fs : List Frame) (t : Tree) (i : ℕ) (next : IsAppend i t) (c p : Tree) (w : IsWithout i c p t) (told : HasNoFault (read_cells c))
    (well : IsWell c) where
  -- with these rows before
  module _ (r : GrownRows) (before : IsGrown r) (after : IsGrown (with_column r c)) (typed : r.of_type ≡ dtype t) where
    of_type : dtype c ≡ r.of_type
    of_type = next.typed c p w ∙ sym typed

    told_by : HasNoFault (cells_read r.of_type (expansion c))
    told_by = subst (λ ty. HasNoFault (cells_read ty (expansion c))) of_type told

    more_rows : rows (grown (with_column r c)) ≡ rows (grown r) ++ rows c
    more_rows = grown_rows (with_column r c) after ∙ with_column_cells r c before well of_type told_by ∙ ap (λ l. l ++ rows c) (sym (grown_rows r before))

    more_long : len (grown (with_column r c)) ≡ len (grown r) + len c
    more_long = grown_long (with_column r c) after ∙ with_column_count r c before well of_type told_by ∙ ap (λ n. n + len c) (sym (grown_long r before))

    more_typed : dtype (grown (with_column r c)) ≡ dtype t
    more_typed = grown_typed (with_column r c) after ∙ with_column_type r c ∙ typed

    more_clean : IsClean (grown r) → IsClean c → IsClean (grown (with_column r c))
    more_clean = with_column_clean r c before well of_type told_by after

  -- a step that leads to the node p with these rows in front
  append_by : (e : Focus) (r : GrownRows) → node_in e ≡ t → begun (builder_in e) t ≡ r → is_over fits fs e ≡ false → AreFrames fs (focus_tree e)
      → IsGrown r → IsGrown (with_column r c) → r.of_type ≡ dtype t → KeepsFirmly (focus_tree e) (with_content (grown (with_column r c)) p)
      → IsPart (grown (with_column r c)) p → IsMove fits fs e fs (Partial p (with_column r c))
  append_by e r here first going h before after typed firm part =
      let d : Focus = Partial p (with_column r c) in
      record {
        one = inr (inr (inr (inl (record {
          slot = i;
          child = c;
          going = going;
          same = refl;
          next = subst (IsAppend i) (sym here) next;
          taken = subst (IsWithout i c p) (sym here) w;
          grown = ap (λ x. Some (with_column x c)) (sym first ∙ ap (begun (builder_in e)) (sym here));
        }))));
        kept = filled_firmly fs (focus_tree e) (focus_tree d) firm;
        frames = frames_replace fs (focus_tree e) (focus_tree d) (firmly_shape _ _ firm) h;
        focus = (after, with_column_type r c ∙ typed ∙ sym (put_parts i c p t w.1).0, part);
        falls = omega (arith, next.falls c p w, ap node_potential here);
      }

  append_on : (b : Option GrownRows) → IsGoing fits fs b t → IsGrown (with_column (begun b t) c) → IsMove fits fs (focus_on b t) fs (Partial p (with_column (begun b t) c))
  append_on None h after =
      let r = none_of (dtype t) in
      let columns : has_columns (dtype t) ≡ true = ap has_columns (sym (with_column_type r c)) ∙ after.columns in
      let before = none_grown (dtype t) columns in
      let none : count r ≡ 0 = refl in
      let long : len (grown (with_column r c)) ≡ len c = omega (arith, more_long r before after refl, grown_long r before, none) in
      let shown : rows (grown (with_column r c)) ≡ rows c = more_rows r before after refl ∙ ap (λ l. l ++ rows c) (grown_rows r before) in
      let b = grown (with_column r c) in
      append_by (Whole t) r refl refl h.going h.frames before after refl
      (next.begins b c p w (more_clean r before after refl (column_clean (dtype t) [] columns refl)) shown)
      (next.begun b c p w h.formed (λ j. shape ((more_typed r before after refl ∙ sym (next.typed c p w)) j) (long j)))
  append_on (Some r) h after =
      let typed = h.formed.1 in
      let before = h.formed.0 in
      let b = grown (with_column r c) in
      append_by (Partial t r) r refl refl h.going h.frames before after typed
      (next.continues (grown r) b c p w (more_clean r before after typed) (more_rows r before after typed))
      (next.continued (grown r) b c p w h.formed.2 (more_typed r before after typed) (more_long r before after typed))

pub move_append : (fits : Tree → Bool) (fs : List Frame) (b : Option GrownRows) (t : Tree) (i : ℕ) (d : Focus) → IsGoing fits fs b t → IsAppend i t
    → IsAppendedTo i b t d → IsMove fits fs (focus_on b t) fs d
move_append fits fs b t i d h next m =
    subst (IsMove fits fs (focus_on b t) fs) (sym m.3) (append_on fits fs t i next m.0 m.1 m.2 m.4 m.5 b h m.6)

-- ---- a step that is over

-- the column of a builder takes its node's place
move_finish : (fits : Tree → Bool) (fs : List Frame) (t : Tree) (r : GrownRows) → IsGoing fits fs (Some r) t → IsUsedUp t → IsNodeOf (grown r)
    → IsMove fits fs (Partial t r) fs (Whole (grown r))
move_finish fits fs t r h used formed =
    let firm : KeepsFirmly (with_content (grown r) t) (grown r) = used.kept (grown r) h.formed.2 in
    record {
      one = inr (inr (inr (inr (record { content = r; going = h.going; same = refl; builder = refl; used = used; finished = refl }))));
      kept = filled_firmly fs _ _ firm;
      frames = frames_replace fs _ _ (firmly_shape _ _ firm) h.frames;
      focus = formed;
      falls = omega (arith, used.falls, top_paid (grown r), grown_cost r);
    }

-- it may end: without a builder, the node has all of its slots
pub may_end : (fits : Tree → Bool) (fs : List Frame) (b : Option GrownRows) (t u : Tree) → IsGoing fits fs b t → IsStepTo t u Done → MayEnd b u
may_end fits fs None t u h (inl m) = m.1
may_end fits fs None t u h (inr m) = absurd (used_not_whole t m.1.used h.formed)
may_end fits fs (Some r) t u h m = tt

pub move_end : (fits : Tree → Bool) (fs : List Frame) (b : Option GrownRows) (t u : Tree) (d : Focus) → IsGoing fits fs b t → IsStepTo t u Done → d ≡ ended b u
    → IsFocus d → IsMove fits fs (focus_on b t) fs d
move_end fits fs None t u d h (inl m) e formed = subst (IsMove fits fs (Whole t) fs) (sym e) (move_done fits fs t u h m.1 m.2)
move_end fits fs None t u d h (inr m) e formed = absurd (used_not_whole t m.1.used h.formed)
move_end fits fs (Some r) t u d h (inl m) e formed = absurd (used_not_whole t h.formed.2.used m.0)
move_end fits fs (Some r) t u d h (inr m) e formed =
    subst (IsMove fits fs (Partial t r) fs) (sym e) (move_finish fits fs t r h m.1 (subst IsFocus e formed))

-- a slot that is to be executed first is there
pub awaited_present : (i : ℕ) (t : Tree) → Awaits i t → IsPresent i t
awaited_present i (node ty n d ss) h = at_slot _ i ss h.1
  where
    at_slot : (g : SlotTarget) (i : ℕ) (ss : Slots) → AwaitsAt g i ss → IsPresentAt i ss
    at_slot g i no_slots h = h
    at_slot g zero (absent ss) h = h
    at_slot g zero (slot s ss) h = tt
    at_slot g (suc i) (absent ss) h = at_slot g i ss h
    at_slot g (suc i) (slot s ss) h = at_slot g i ss h.1

-- a node that takes a step can be stepped
pub going_open : (b : Option GrownRows) (t : Tree) → Fits b t → IsOpen t
going_open None t h = inl h
going_open (Some r) t h = inr h.2.used

-- ---- why a step fails

pub step_stopped : (fits : Tree → Bool) (fs : List Frame) (b : Option GrownRows) (t : Tree) (e : VortexError) → IsGoing fits fs b t → IsFailed t e
    → (IsUsed t → e ≡ OutOfMemory) → IsStopped (filled fs (active b t)) e
step_stopped fits fs None t e h failed used = stopped_inside fs t e h.frames (failed_stopped t e failed)
step_stopped fits fs (Some r) t e h failed used = inl (used h.formed.2.used)

pub append_stopped : (fits : Tree → Bool) (fs : List Frame) (b : Option GrownRows) (t : Tree) (i : ℕ) (e : VortexError) → IsGoing fits fs b t
    → IsNotAppended i t e → IsStopped (filled fs (active b t)) e
append_stopped fits fs b t i e h (inl m) = inl m
append_stopped fits fs b t i e h (inr m) =
    stopped_inside fs (active b t) e h.frames (inr (m.0, λ clean. m.5 (clean_without b i m.1 m.2 t m.3 clean)))

on_node : (b : Option GrownRows) (t : Tree) → node_in (focus_on b t) ≡ t
on_node None t = refl
on_node (Some r) t = refl

pub step_faulty : (fits : Tree → Bool) (fs : List Frame) (b : Option GrownRows) (t : Tree) (e : VortexError) → IsGoing fits fs b t → e ≡ Fault → IsFailed t e
    → IsFaulty fits fs (focus_on b t)
step_faulty fits fs b t e h same failed =
    (h.going, inl (subst (λ x. IsDue x × (¬ (IsClean x))) (sym (on_node b t)) (failed_fault t e same failed)))

pub append_faulty : (fits : Tree → Bool) (fs : List Frame) (b : Option GrownRows) (t : Tree) (i : ℕ) (e : VortexError) → IsGoing fits fs b t → IsAppend i t
    → e ≡ Fault → IsNotAppended i t e → IsFaulty fits fs (focus_on b t)
append_faulty fits fs b t i e h next same (inl m) = absurd (cc (sym m ∙ same))
append_faulty fits fs b t i e h next same (inr m) =
    (h.going, inr (subst IsUnappendable (sym (on_node b t)) (i, m.1, m.2, next, m.3, m.4)))

-- what a node is executed to

awaited_at : (fits : Tree → Bool) (fs : List Frame) (f : Frame) (n : ℕ) (t : Tree) → n + 1 ≡ length fs → Some f ≡ slice_get fs n
    → is_awaited fits fs t ≡ meets f.target t
awaited_at fits [] f n t e g = absurd (cc)
awaited_at fits (h ∷ []) f zero t e g = let q : h ≡ f = cc in ap (λ (x : Frame). meets x.target t) q
awaited_at fits (h ∷ []) f (suc n) t e g = absurd (cc)
awaited_at fits (h ∷ k ∷ fs) f zero t e g = absurd (omega arith)
awaited_at fits (h ∷ k ∷ fs) f (suc n) t e g = awaited_at fits (k ∷ fs) f n t (omega arith) g

pub reached_last : (fits : Tree → Bool) (fs : List Frame) (f : Frame) (t : Tree) → is_canonical (datum t) ≡ false → Some f ≡ slice_get fs (length fs - 1)
    → meets f.target t ≡ is_reached fits fs t
reached_last fits fs f t c e =
    let within : length fs - 1 < length fs = slice_get_within fs (length fs - 1) f (sym e) in
    sym (ap (λ b. b || is_awaited fits fs t) c ∙ awaited_at fits fs f (length fs - 1) t (omega arith) e)

awaited_append : (fits : Tree → Bool) (fs : List Frame) (f : Frame) (t : Tree) → is_awaited fits (fs ++ f ∷ []) t ≡ meets f.target t
awaited_append fits [] f t = refl
awaited_append fits (g ∷ []) f t = refl
awaited_append fits (g ∷ h ∷ fs) f t = awaited_append fits (h ∷ fs) f t

canonical_meets : (d e : Data) → is_canonical e ≡ true → data_meets (slot_target d) e ≡ true
canonical_meets (function f) e h = canonical_columnar e h
canonical_meets is_valid e h = canonical_columnar e h
canonical_meets dict e h = canonical_columnar e h
canonical_meets chunked e h = canonical_columnar e h
canonical_meets interleave e h = canonical_columnar e h
canonical_meets _ e h = h

either_true : (a b : Bool) → (a || b) ≡ true → (a ≡ true) ⊎ (b ≡ true)
either_true true b h = inl refl
either_true false b h = inr h

reached_frame : (fits : Tree → Bool) (fs gs : List Frame) (f : Frame) (t : Tree) → fs ≡ gs ++ f ∷ [] → f.target ≡ target_of f.parent → is_reached fits fs t ≡ true
    → meets (target_of f.parent) t ≡ true
reached_frame fits fs gs f t e aim h =
    elim (either_true _ _ (subst (λ x. is_reached fits x t ≡ true) e h)) [
      | inl c ↦ canonical_meets (datum f.parent) (datum t) c
      | inr m ↦ subst (λ g. meets g t ≡ true) aim (sym (awaited_append fits gs f t) ∙ m)
    ]

-- the node is put back into its parent
module _ (fits : Tree → Bool) (fs gs : List Frame) (f : Frame) (t : Tree) (reached : is_reached fits fs t ≡ true) (split : fs ≡ gs ++ f ∷ []) (w : AreFrames fs t) where
  pop_by : (d : Focus) → d ≡ focus_on f.builder (put f.slot t f.parent) → builder_in d ≡ f.builder → node_in d ≡ put f.slot t f.parent → IsMove fits fs (Whole t) gs d
  pop_by d resumed kept same =
      let h = frames_pop gs f t (subst (λ x. AreFrames x t) split w) in
      let falls = put_falls f.slot t f.parent h.1.hole (reached_frame fits fs gs f t split h.1.target reached) in
      let tree : focus_tree d ≡ wrapped f t = λ j. active (kept j) (same j) in
      record {
        one = inl (record { frame = f; reached = reached; popped = split; resumed = resumed });
        kept = firmly_equal _ _ (ap (λ x. filled x t) split ∙ filled_append gs f t ∙ ap (filled gs) (sym tree));
        frames = subst (λ x. AreFrames gs x) (sym tree) h.0;
        focus = subst (λ x. Fits x (node_in d)) (sym kept) (subst (Fits f.builder) (sym same) h.1.fits);
        falls = omega (arith, ap frames_top split, frames_top_append gs f, falls, ap node_potential same);
      }

on_builder : (b : Option GrownRows) (t : Tree) → builder_in (focus_on b t) ≡ b
on_builder None t = refl
on_builder (Some r) t = refl

pub move_pop : (fits : Tree → Bool) (fs gs : List Frame) (f : Frame) (t : Tree) (d : Focus) → is_reached fits fs t ≡ true → fs ≡ gs ++ f ∷ [] → AreFrames fs t
    → d ≡ focus_on f.builder (put f.slot t f.parent) → IsMove fits fs (Whole t) gs d
move_pop fits fs gs f t d reached split w e =
    pop_by fits fs gs f t reached split w d e (ap builder_in e ∙ on_builder f.builder (put f.slot t f.parent)) (ap node_in e ∙ on_node f.builder (put f.slot t f.parent))

-- whether the node passes the root's test, or is canonical
pub reached_root : (fits : Tree → Bool) (u : Tree) → is_reached fits [] u ≡ true → (fits u ≡ true) ⊎ (is_canonical (datum u) ≡ true)
reached_root fits u h = elim (either_true _ _ h) [ inl c ↦ inr c | inr m ↦ inl m ]

or_true : (a b : Bool) → b ≡ true → (a || b) ≡ true
or_true true b h = refl
or_true false b h = h

-- a node that isn't executed isn't canonical
pub open_data : (fits : Tree → Bool) (fs : List Frame) (t : Tree) → is_reached fits fs t ≡ false → is_canonical (datum t) ≡ false
open_data fits fs t h = neither (is_canonical (datum t)) (is_awaited fits fs t) h
  where
    neither : (a b : Bool) → (a || b) ≡ false → a ≡ false
    neither true b k = absurd (cc)
    neither false b k = refl

-- moves, counted

begins : (fits : Tree → Bool) (t : Tree) → Reaches fits t 0 [] (Whole t)
unfolding Reaches
begins fits t = (refl, refl)

moves_on : (fits : Tree → Bool) (t : Tree) (n : ℕ) (fs gs : List Frame) (u v : Focus) → Reaches fits t n fs u → IsOneMove fits fs u gs v
    → Reaches fits t (n + 1) gs v
unfolding Reaches
moves_on fits t n fs gs u v h m = rw add-one (fs, u, h, m)

pub executed : (fits : Tree → Bool) (t : Tree) (n : ℕ) (fs : List Frame) (u : Focus) (v : Tree) → Reaches fits t n fs u → fs ≡ [] → u ≡ Whole v → is_reached fits [] v ≡ true
    → IsExecuted fits t (n + 1) v
unfolding IsExecuted
executed fits t n fs u v h bare same reached =
    rw add-one (subst (λ x. Reaches fits t n [] x) same (subst (λ gs. Reaches fits t n gs u) bare h), reached)

-- a tree that is what it is executed to is answered as it is

no_frame : (gs : List Frame) (f : Frame) → [] ≡ gs ++ f ∷ [] → ⊥
no_frame [] f e = absurd (cc)
no_frame (g ∷ gs) f e = absurd (cc)

not_both : (b : Bool) → b ≡ true → b ≡ false → ⊥
not_both true h k = absurd (cc)
not_both false h k = absurd (cc)

stays : (fits : Tree → Bool) (t : Tree) (gs : List Frame) (v : Focus) → is_reached fits [] t ≡ true → IsOneMove fits [] (Whole t) gs v → ⊥
stays fits t gs v h (inl m) = no_frame gs m.frame m.popped
stays fits t gs v h (inr (inl m)) = not_both (is_reached fits [] t) h m.going
stays fits t gs v h (inr (inr (inl m))) = not_both (is_reached fits [] t) h m.going
stays fits t gs v h (inr (inr (inr (inl m)))) = not_both (is_reached fits [] t) h m.going
stays fits t gs v h (inr (inr (inr (inr m)))) = not_both (is_reached fits [] t) h m.going

stays_long : (fits : Tree → Bool) (t : Tree) (n : ℕ) (fs : List Frame) (u : Focus) → is_reached fits [] t ≡ true → Reaches fits t n fs u → (fs ≡ []) × (u ≡ Whole t)
unfolding Reaches
stays_long fits t zero fs u h r = r
stays_long fits t (suc n) fs u h r =
    let before = stays_long fits t n r.0 r.1 h r.2 in
    absurd (stays fits t fs u h (subst (λ x. IsOneMove fits [] x fs u) before.1 (subst (λ gs. IsOneMove fits gs r.1 fs u) before.0 r.3)))

pub reached_at_once : (fits : Tree → Bool) (t : Tree) (u : Focus) → fits t ≡ true → u ≡ Whole t → is_over fits [] u ≡ true
reached_at_once fits t u h same = subst (λ x. is_over fits [] x ≡ true) (sym same) (or_true (is_canonical (datum t)) (fits t) h)

-- a root that has reached its target makes no move
pub never_moves : (fits : Tree → Bool) (t : Tree) (n : ℕ) (fs : List Frame) (u : Focus) → fits t ≡ true → Reaches fits t n fs u
    → (n ≡ 0) × (fs ≡ []) × (u ≡ Whole t)
unfolding Reaches
never_moves fits t zero fs u h r = (refl, r.0, r.1)
never_moves fits t (suc n) fs u h r =
    let reached = or_true (is_canonical (datum t)) (fits t) h in
    let before = stays_long fits t n r.0 r.1 reached r.2 in
    absurd (stays fits t fs u reached (subst (λ x. IsOneMove fits [] x fs u) before.1 (subst (λ gs. IsOneMove fits gs r.1 fs u) before.0 r.3)))

pub as_it_is : (fits : Tree → Bool) (t : Tree) (n : ℕ) (u : Tree) → fits t ≡ true → IsExecuted fits t n u → u ≡ t
unfolding IsExecuted
as_it_is fits t zero u h r = absurd r
as_it_is fits t (suc n) u h r = ap node_in (stays_long fits t n [] (Whole u) (or_true (is_canonical (datum t)) (fits t) h) r.0).1

pub takes_a_turn : (fits : Tree → Bool) (t : Tree) (n : ℕ) (u : Tree) → IsExecuted fits t n u → 1 ≤ n
unfolding IsExecuted
takes_a_turn fits t zero u r = absurd r
takes_a_turn fits t (suc n) u r = omega arith

-- the loop, after n turns
pub record IsLoop (fits : Tree → Bool) (root : Tree) (fs : List Frame) (t : Focus) (n : ℕ) : Type 0 where
  pub moved : Reaches fits root n fs t
  pub kept : KeepsFirmly root (filled fs (focus_tree t))
  pub frames : AreFrames fs (focus_tree t)
  pub focus : IsFocus t
  pub turns : n + (frames_top fs + focus_top t) ≤ cost root

pub loop_begins : (fits : Tree → Bool) (root : Tree) (fs : List Frame) → IsNodeOf root → fs ≡ [] → IsLoop fits root fs (Whole root) 0
loop_begins fits root fs formed e =
    subst (λ x. IsLoop fits root x (Whole root) 0) (sym e)
    (record { moved = begins fits root; kept = firmly_refl root; frames = tt; focus = formed; turns = omega (arith, top_paid root) })

pub loop_moves : (fits : Tree → Bool) (root : Tree) (fs gs : List Frame) (t u : Focus) (n : ℕ) → IsLoop fits root fs t n → IsMove fits fs t gs u
    → IsLoop fits root gs u (n + 1)
loop_moves fits root fs gs t u n now m = record {
  moved = moves_on fits root n fs gs t u now.moved m.one;
  kept = firmly_trans root (filled fs (focus_tree t)) (filled gs (focus_tree u)) now.kept m.kept;
  frames = m.frames;
  focus = m.focus;
  turns = omega (arith, now.turns, m.falls);
}

-- while the loop goes on, a turn is left
pub loop_short : (fits : Tree → Bool) (root : Tree) (fs : List Frame) (t : Focus) (n : ℕ) → IsLoop fits root fs t n → n < cost root
loop_short fits root fs t n now = omega (arith, now.turns, top_positive (node_in t))

pub goes_on : (fits : Tree → Bool) (root : Tree) (fs : List Frame) (t : Focus) (n : ℕ) → IsLoop fits root fs t n → GoesOn fits root n
goes_on fits root fs t n now = (fs, t, now.moved)

pub returned_as_it_is : (fits : Tree → Bool) (t : Tree) (n : ℕ) (fs : List Frame) (u : Focus) (v : Tree) → Reaches fits t n fs u → fs ≡ [] → u ≡ Whole v
    → is_reached fits [] v ≡ true → fits t ≡ true → v ≡ t
returned_as_it_is fits t n fs u v moved bare same reached h =
    as_it_is fits t (n + 1) v h (executed fits t n fs u v moved bare same reached)

pub faults_in : (fits : Tree → Bool) (root : Tree) (fs : List Frame) (t : Focus) (n : ℕ) → IsLoop fits root fs t n → IsFaulty fits fs t
    → FaultsIn fits root (n + 1)
unfolding FaultsIn
faults_in fits root fs t n now faulty = rw add-one (fs, t, now.moved, faulty)
