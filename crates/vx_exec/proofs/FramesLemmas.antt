-- The stack of frames: what a push and a pop at its inner end make of it, a node replaced under it, and a fault below it.
use Rattle.std.proofs.Common.{◌≡◌, inl, inr, ℕ, zero, suc, ◌+◌, List, [], ◌∷◌, ◌++◌, Option, Some, None, refl, sym, ◌∙◌, ap, subst, arith}
use Rattle.vx_value.specs.declared.error.VortexError.{VortexError}
use Rattle.vx_value.specs.declared.error.VortexError.TheVariants.{OutOfMemory, Fault}
use Rattle.vx_tree.specs.Tree.{Tree, Slots, node, no_slots, absent, slot}
use Rattle.vx_tree.specs.Well.{IsNode, shape_of, shapes}
use Rattle.vx_tree.specs.Cells.{IsClean, AreClean}
use Rattle.vx_tree.specs.Slots.{set_slot, put, IsAbsentAt, IsHole}
use Rattle.vx_tree.specs.Firm.{KeepsFirmly}
use Rattle.vx_tree.proofs.FirmLemmas.{put_firmly}
use Rattle.vx_column.specs.Grown.{GrownRows, grown}
use Rattle.vx_step.specs.Turns.{parent_potential}
use Rattle.vx_step.specs.Contents.{IsWithout}
use Rattle.vx_step.specs.Steps.{IsStopped, IsDue, IsFailed}
use Rattle.vx_step.proofs.ContentsLemmas.{part_replaced}
use Rattle.vx_exec.specs.Frames.{active, wrapped, filled, Fits, IsFrame, AreFrames, frames_top}
use Rattle.vx_exec.specs.declared.turn.Frame.{Frame}

pub filled_append : (fs : List Frame) (f : Frame) (t : Tree) → filled (fs ++ f ∷ []) t ≡ filled fs (wrapped f t)
filled_append [] f t = refl
filled_append (g ∷ fs) f t = ap (wrapped g) (filled_append fs f t)

pub frames_top_append : (fs : List Frame) (f : Frame) → frames_top (fs ++ f ∷ []) ≡ frames_top fs + parent_potential f.parent
frames_top_append [] f = omega arith
frames_top_append (g ∷ fs) f = omega (arith, frames_top_append fs f)

pub frames_pop : (fs : List Frame) (f : Frame) (t : Tree) → AreFrames (fs ++ f ∷ []) t → AreFrames fs (wrapped f t) × IsFrame f t
frames_pop [] f t h = (tt, h.0)
frames_pop (g ∷ fs) f t h =
    let r = frames_pop fs f t h.1 in ((subst (λ x. IsFrame g x) (filled_append fs f t) h.0, r.0), r.1)

pub frame_popped : (fs gs : List Frame) (f : Frame) (t : Tree) → fs ≡ gs ++ f ∷ [] → AreFrames fs t → IsFrame f t
frame_popped fs gs f t e h = (frames_pop gs f t (subst (λ x. AreFrames x t) e h)).1

pub frames_push : (fs : List Frame) (f : Frame) (t : Tree) → AreFrames fs (wrapped f t) → IsFrame f t → AreFrames (fs ++ f ∷ []) t
frames_push [] f t h k = (k, tt)
frames_push (g ∷ fs) f t h k =
    (subst (λ x. IsFrame g x) (sym (filled_append fs f t)) h.0, frames_push fs f t h.1 k)

-- a builder's rows are one more slot in front
active_firmly : (b : Option GrownRows) (i : ℕ) (t u p : Tree) → KeepsFirmly t u → KeepsFirmly (active b (put i t p)) (active b (put i u p))
active_firmly None i t u p h = put_firmly i t u p h
active_firmly (Some b) i t u (node ty n d ss) h = put_firmly (suc i) t u (node ty n d (slot (grown b) ss)) h

pub filled_firmly : (fs : List Frame) (t u : Tree) → KeepsFirmly t u → KeepsFirmly (filled fs t) (filled fs u)
filled_firmly [] t u h = h
filled_firmly (f ∷ fs) t u h = active_firmly f.builder f.slot _ _ f.parent (filled_firmly fs t u h)

-- a node of the same type and length may take a node's place

put_shape : (b : Option GrownRows) (i : ℕ) (t u p : Tree) → shape_of (active b (put i t p)) ≡ shape_of (active b (put i u p))
put_shape None i t u (node ty n d ss) = refl
put_shape (Some b) i t u (node ty n d ss) = refl

filled_shape : (fs : List Frame) (t u : Tree) → shape_of t ≡ shape_of u → shape_of (filled fs t) ≡ shape_of (filled fs u)
filled_shape [] t u h = h
filled_shape (f ∷ fs) t u h = put_shape f.builder f.slot (filled fs t) (filled fs u) f.parent

put_shapes : (i : ℕ) (t u : Tree) (ss : Slots) → shape_of t ≡ shape_of u → shapes (set_slot i t ss) ≡ shapes (set_slot i u ss)
put_shapes i t u no_slots h = refl
put_shapes zero t u (absent ss) h = ap (λ s. Some s ∷ shapes ss) h
put_shapes zero t u (slot s ss) h = ap (λ s. Some s ∷ shapes ss) h
put_shapes (suc i) t u (absent ss) h = ap (λ l. None ∷ l) (put_shapes i t u ss h)
put_shapes (suc i) t u (slot s ss) h = ap (λ l. Some (shape_of s) ∷ l) (put_shapes i t u ss h)

put_fits : (b : Option GrownRows) (i : ℕ) (t u p : Tree) → shape_of t ≡ shape_of u → Fits b (put i t p) → Fits b (put i u p)
put_fits None i t u (node ty n d ss) h w = subst (λ l. IsNode ty n d l) (put_shapes i t u ss h) w
put_fits (Some b) i t u (node ty n d ss) h w = (w.0, w.1, part_replaced i (grown b) t u (node ty n d ss) h w.2)

pub frames_replace : (fs : List Frame) (t u : Tree) → shape_of t ≡ shape_of u → AreFrames fs t → AreFrames fs u
frames_replace [] t u h w = tt
frames_replace (f ∷ fs) t u h w = (
  record {
    hole = w.0.hole;
    fits = put_fits f.builder f.slot (filled fs t) (filled fs u) f.parent (filled_shape fs t u h) w.0.fits;
    target = w.0.target;
  },
  frames_replace fs t u h w.1,
)

-- ---- a fault of a node below suspended parents is one of the whole

clean_slot : (i : ℕ) (c : Tree) (ss : Slots) → IsAbsentAt i ss → AreClean (set_slot i c ss) → IsClean c
clean_slot i c no_slots h k = absurd h
clean_slot zero c (absent ss) h k = k.0
clean_slot zero c (slot s ss) h k = absurd h
clean_slot (suc i) c (absent ss) h k = clean_slot i c ss h k
clean_slot (suc i) c (slot s ss) h k = clean_slot i c ss h k.1

clean_hole : (b : Option GrownRows) (i : ℕ) (c p : Tree) → IsHole i p → IsClean (active b (put i c p)) → IsClean c
clean_hole None i c (node ty n d ss) h k = clean_slot i c ss h k.1
clean_hole (Some b) i c (node ty n d ss) h k = clean_slot i c ss h k.1.1

-- nor has a slot of the node that is under way
pub clean_without : (b : Option GrownRows) (i : ℕ) (c p t : Tree) → IsWithout i c p t → IsClean (active b t) → IsClean c
clean_without b i c p t w k = clean_hole b i c p w.0 (subst (λ x. IsClean (active b x)) (sym w.1) k)

clean_inside : (fs : List Frame) (t : Tree) → AreFrames fs t → IsClean (filled fs t) → IsClean t
clean_inside [] t h k = k
clean_inside (f ∷ fs) t h k = clean_inside fs t h.1 (clean_hole f.builder f.slot (filled fs t) f.parent h.0.hole k)

pub stopped_inside : (fs : List Frame) (t : Tree) (e : VortexError) → AreFrames fs t → IsStopped t e → IsStopped (filled fs t) e
stopped_inside fs t e h (inl m) = inl m
stopped_inside fs t e h (inr k) = inr (k.0, λ clean. k.1 (clean_inside fs t h clean))

-- what stops a step stops the turn
pub failed_stopped : (t : Tree) (e : VortexError) → IsFailed t e → IsStopped t e
failed_stopped t e (inl m) = inl m
failed_stopped t e (inr h) = inr (h.0, h.1)

-- a fault comes from a step that is due
pub failed_fault : (t : Tree) (e : VortexError) → e ≡ Fault → IsFailed t e → IsDue t × (¬ (IsClean t))
failed_fault t e same (inl m) = absurd (cc (sym m ∙ same))
failed_fault t e same (inr h) = (h.2, h.1)

pub stopped_before : (t u : Tree) (e : VortexError) → KeepsFirmly t u → IsStopped u e → IsStopped t e
stopped_before t u e h (inl m) = inl m
stopped_before t u e h (inr k) = inr (k.0, λ clean. k.1 (h.keeps.still_clean clean))

pub out_of_memory : (t : Tree) (e : VortexError) → e ≡ OutOfMemory → IsStopped t e
out_of_memory t e h = inl h
