-- One who is asked has at most one answer, and a constant that is the values of a dictionary has one.
use Rattle.std.proofs.Common.{◌≡◌, ℕ, ◌+◌, ◌-◌, ◌<◌, ◌≤◌, List, [], ◌∷◌, Option, Some, None, Bool, true, refl, sym, subst, ap, ◌∙◌, arith}
use Rattle.std.specs.Prelude.{◌==◌, ◌&&◌, if◌then◌else◌}
use Rattle.std.proofs.lemmas.Bool.{eq-eqb, ne_eqb}
use Rattle.vx_value.specs.Types.{DataType}
use Rattle.vx_value.specs.Values.{Value}
use Rattle.vx_value.specs.Cell.{Cell, value}
use Rattle.vx_mask.specs.Places.{IsRun}
use Rattle.vx_mask.proofs.Runs.{no_run_of_none}
use Rattle.vx_tree.specs.Tree as enc
use Rattle.vx_tree.specs.Tree.{Tree, Data, Slots, node, no_slots, absent, slot, slots_of, dtype, len, datum, constant_of, slice_of, is_constant, is_dict, is_canonical, last_tree}
use Rattle.vx_tree.specs.Slots.{map_slots, present_from, present_in, HoldsAt, HasSlot}
use Rattle.vx_tree.specs.Parts.{part_of, column_range}
use Rattle.vx_tree.specs.Columns.{empty_of}
use Rattle.vx_tree.specs.NodeValidities.{node_validity}
use Rattle.vx_tree.specs.Well.{IsWell}
use Rattle.vx_tree.proofs.SlotsLemmas.{no_shapes}
use Rattle.vx_rule.specs.Rules.{Row, IsPart, constants, named_by, item_node, mask_node, validity_column, F1, F2, F3, F4, P1, C1, N1_null, N1_valid, S_whole, S_empty, S1, S2, S3, S4, S5, S6, F5, F6, F7, F8, F9, G1, G2, G3, G4, G4_masked, M1, D1, D2, K1, K2, K3, K4}
use Rattle.vx_rule.proofs.PushedLemmas.{chosen_if, chosen_else, all_rows, not_all_rows}
use Rattle.vx_rule.proofs.QuietLemmas.{row_slot}

-- ---- the node itself

-- a run has one start and one end
run_start : (bits : List Bool) (a b s e : ℕ) → IsRun bits a b → IsRun bits s e → s ≤ a
run_start bits a b s e run other = ((other.1 a).0 ((run.1 a).1 (omega arith, run.0))).0

run_end : (bits : List Bool) (a b s e : ℕ) → IsRun bits a b → IsRun bits s e → b ≤ e
run_end bits a b s e run other =
    let some = run.0 in
    let last = ((other.1 (b - 1)).0 ((run.1 (b - 1)).1 (omega arith, omega arith))).1 in
    omega arith

one_run : (bits : List Bool) (a b s e : ℕ) (c : Tree) → IsRun bits a b → IsRun bits s e → slice_of a b c ≡ slice_of s e c
one_run bits a b s e c run other =
    let first : a ≡ s = omega (arith, run_start bits a b s e run other, run_start bits s e a b other run) in
    let last : b ≡ e = omega (arith, run_end bits a b s e run other, run_end bits s e a b other run) in
    λ i. slice_of (first i) (last i) c

own_determined : (t u v : Tree) (os ps : List ℕ) → Row None t u os → Row None t v ps → (u ≡ v) × (os ≡ ps)
own_determined t u v os ps (F1 ty n bits c e) (F1 _ _ _ _ e') = (refl, refl)
own_determined t u v os ps (F1 ty n bits c e) (F2 _ _ _ _ e' z) = absurd (cc (e, e'))
own_determined t u v os ps (F1 ty n bits c e) (F3 _ _ _ _ s' t' e' r) = absurd (cc (e, e'))
own_determined t u v os ps (F1 ty n bits c e) (F4 _ sty _ k _ ss apart some) = absurd (cc (e, apart.some_left))
own_determined t u v os ps (F2 ty n bits c e z) (F1 _ _ _ _ e') = absurd (cc (e, e'))
own_determined t u v os ps (F2 ty n bits c e z) (F2 _ _ _ _ e' z') = (refl, refl)
own_determined t u v os ps (F2 ty n bits c e z) (F3 _ _ _ _ s' t' e' r) = absurd (no_run_of_none bits z s' t' r)
own_determined t u v os ps (F2 ty n bits c e z) (F4 _ sty _ k _ ss apart some) = absurd (apart.some z)
own_determined t u v os ps (F3 ty n bits c a b e r) (F1 _ _ _ _ e') = absurd (cc (e, e'))
own_determined t u v os ps (F3 ty n bits c a b e r) (F2 _ _ _ _ e' z) = absurd (no_run_of_none bits z a b r)
own_determined t u v os ps (F3 ty n bits c a b e r) (F3 _ _ _ _ s' t' e' r') = (one_run bits a b s' t' c r r', refl)
own_determined t u v os ps (F3 ty n bits c a b e r) (F4 _ sty _ k _ ss apart some) = absurd (apart.no_run a b r)
own_determined t u v os ps (F4 ty sty n k bits ss apart some) (F1 _ _ _ _ e) = absurd (cc (e, apart.some_left))
own_determined t u v os ps (F4 ty sty n k bits ss apart some) (F2 _ _ _ _ e z) = absurd (apart.some z)
own_determined t u v os ps (F4 ty sty n k bits ss apart some) (F3 _ _ _ _ a b e r) = absurd (apart.no_run a b r)
own_determined t u v os ps (F4 ty sty n k bits ss apart some) (F4 _ _ _ _ _ _ other more) = (refl, refl)
own_determined t u v os ps (P1 ty n options ss) (P1 _ _ _ _) = (refl, refl)
own_determined t u v os ps (C1 ty n target c e) (C1 _ _ _ _ e') = (refl, refl)
own_determined t u v os ps (N1_null ty n c e) (N1_null _ _ _ e') = (refl, refl)
own_determined t u v os ps (N1_valid ty n c e) (N1_valid _ _ _ e') = (refl, refl)

-- ---- the child of a slice

-- the answer of a child for some of its rows, from a to b: a line for each encoding that lets a slice through
abbrev part_answer : ℕ → ℕ → Tree → Tree × List ℕ
part_answer a b (node ty n (enc.slice s e) (slot c no_slots)) = (slice_of (s + a) (s + b) c, [])
part_answer a b (node ty n (enc.constant v) ss) = (constant_of v (b - a), [])
part_answer a b (node ty n (enc.function f) ss) =
    (node ty (b - a) (enc.function f) (map_slots (slice_of a b) ss), present_from 0 (map_slots (slice_of a b) ss))
part_answer a b (node ty n enc.masked (slot c vs)) =
    (node ty (b - a) enc.masked (slot (slice_of a b c) (map_slots (part_of a b) vs)), 0 ∷ present_from 1 (map_slots (part_of a b) vs))
part_answer a b (node ty n enc.dict (slot c vs)) = (node ty (b - a) enc.dict (slot (slice_of a b c) vs), 0 ∷ [])
part_answer a b t = (column_range a b t, present_in (column_range a b t))

column_answer : (a b : ℕ) (ty : DataType) (n : ℕ) (d : Data) (ss : Slots) → is_canonical d ≡ true
    → (column_range a b (node ty n d ss), present_in (column_range a b (node ty n d ss))) ≡ part_answer a b (node ty n d ss)
column_answer a b ty n (enc.slice s e) ss h = absurd (cc (h))
column_answer a b ty n (enc.constant v) ss h = absurd (cc (h))
column_answer a b ty n (enc.function f) ss h = absurd (cc (h))
column_answer a b ty n enc.masked ss h = absurd (cc (h))
column_answer a b ty n enc.dict ss h = absurd (cc (h))
column_answer a b ty n d ss h = refl

abbrev slice_answer : ℕ → ℕ → Tree → Tree × List ℕ
slice_answer a b c = if (a == 0) && (b == len c) then (c, []) else (if a == b then (empty_of (dtype c), []) else part_answer a b c)

module _ (a b : ℕ) (c : Tree) where
  answer_of_whole : a ≡ 0 → b ≡ len c → (c, []) ≡ slice_answer a b c
  answer_of_whole z w = sym (chosen_if _ (c, []) _ (all_rows a b (len c) z w))

  answer_of_empty : a ≡ b → 0 < len c → (empty_of (dtype c), []) ≡ slice_answer a b c
  answer_of_empty e some =
      sym (chosen_else _ (c, []) _ (not_all_rows a b (len c) (λ z w. omega (arith, some)))
      ∙ chosen_if _ (empty_of (dtype c), []) (part_answer a b c) (eq-eqb a b e))

  answer_of_part : IsPart a b (len c) → part_answer a b c ≡ slice_answer a b c
  answer_of_part part =
      sym (chosen_else _ (c, []) _ (not_all_rows a b (len c) (λ z w. omega (arith, part.not_all)))
      ∙ chosen_else _ (empty_of (dtype c), []) (part_answer a b c) (ne_eqb a b (λ e. omega (arith, part.some_rows))))

slice_answered : (ty : DataType) (n a b : ℕ) (c u : Tree) (os : List ℕ) → Row (Some 0) (node ty n (enc.slice a b) (slot c no_slots)) u os
    → (u, os) ≡ slice_answer a b c
slice_answered ty n a b c u os (S_whole _ _ _ _ _ l z y) = answer_of_whole a b c z y
slice_answered ty n a b c u os (S_empty _ _ _ _ _ l z y) = answer_of_empty a b c z y
slice_answered ty n a b c u os (S1 _ sty _ _ _ k s e x p) = answer_of_part a b c p
slice_answered ty n a b c u os (S2 _ cty _ _ _ k v p) = answer_of_part a b c p
slice_answered ty n a b c u os (S3 _ cty _ _ _ k d ss h p) = column_answer a b cty k d ss h ∙ answer_of_part a b c p
slice_answered ty n a b c u os (S4 _ fty _ _ _ k f ss l p) = answer_of_part a b c p
slice_answered ty n a b c u os (S5 _ mty _ _ _ k x vs p) = answer_of_part a b c p
slice_answered ty n a b c u os (S6 _ dty _ _ _ k x vs p) = answer_of_part a b c p

slice_determined : (ty : DataType) (n a b : ℕ) (c u v : Tree) (os ps : List ℕ) → Row (Some 0) (node ty n (enc.slice a b) (slot c no_slots)) u os
    → Row (Some 0) (node ty n (enc.slice a b) (slot c no_slots)) v ps → (u ≡ v) × (os ≡ ps)
slice_determined ty n a b c u v os ps row other =
    let same = slice_answered ty n a b c u os row ∙ sym (slice_answered ty n a b c v ps other) in
    (λ i. (same i).0, λ i. (same i).1)

-- ---- every child

one_value : (ty : DataType) (n : ℕ) (d : Cell) (x y : Value) → d ≡ value x → d ≡ value y → constants ty x n ≡ constants ty y n
one_value ty n d x y e e' = let same : x ≡ y = cc in ap (λ w. constants ty w n) same

child_determined : (i : ℕ) (t u v : Tree) (os ps : List ℕ) → Row (Some i) t u os → Row (Some i) t v ps → (u ≡ v) × (os ≡ ps)
child_determined i t u v os ps (S_whole ty n a b c l z y) row = slice_determined ty n a b c u v os ps (S_whole ty n a b c l z y) row
child_determined i t u v os ps (S_empty ty n a b c l z y) row = slice_determined ty n a b c u v os ps (S_empty ty n a b c l z y) row
child_determined i t u v os ps (S1 ty sty n a b k s e c p) row = slice_determined ty n a b _ u v os ps (S1 ty sty n a b k s e c p) row
child_determined i t u v os ps (S2 ty cty n a b k x p) row = slice_determined ty n a b _ u v os ps (S2 ty cty n a b k x p) row
child_determined i t u v os ps (S3 ty cty n a b k d ss h p) row = slice_determined ty n a b _ u v os ps (S3 ty cty n a b k d ss h p) row
child_determined i t u v os ps (S4 ty fty n a b k f ss l p) row = slice_determined ty n a b _ u v os ps (S4 ty fty n a b k f ss l p) row
child_determined i t u v os ps (S5 ty mty n a b k c vs p) row = slice_determined ty n a b _ u v os ps (S5 ty mty n a b k c vs p) row
child_determined i t u v os ps (S6 ty dty n a b k c vs p) row = slice_determined ty n a b _ u v os ps (S6 ty dty n a b k c vs p) row
child_determined i t u v os ps (F5 ty fty n k outer inner c) (F5 _ _ _ _ _ _ _) = (refl, refl)
child_determined i t u v os ps (F6 ty cty n k bits x) (F6 _ _ _ _ _ _) = (refl, refl)
child_determined i t u v os ps (F7 ty fty n k bits f ss l) (F7 _ _ _ _ _ _ _ _) = (refl, refl)
child_determined i t u v os ps (F8 ty mty n k bits c vs) (F8 _ _ _ _ _ _ _) = (refl, refl)
child_determined i t u v os ps (F9 ty dty n k bits c vs) (F9 _ _ _ _ _ _ _) = (refl, refl)
child_determined i t u v os ps (G1 ty fty n k name bits c) (G1 _ _ _ _ _ _ _) = (refl, refl)
child_determined i t u v os ps (G2 ty sty n k a b name c) (G2 _ _ _ _ _ _ _ _) = (refl, refl)
child_determined i t u v os ps (G3 ty mty s n k name c vs e) (G3 _ _ s' _ _ _ _ _ e') =
    let same : s ≡ s' = cc in (ap (λ x. mask_node ty n (item_node name x n c) (validity_column n vs)) same, refl)
child_determined i t u v os ps (G4 ty n k name fs ss c e) (G4 _ _ _ _ _ _ c' e') = let same : c ≡ c' = cc in (same, refl)
child_determined i t u v os ps (G4_masked ty n k name fs ss c e) (G4_masked _ _ _ _ _ _ c' e') =
    let same : c ≡ c' = cc in (ap (λ x. mask_node ty n x (validity_column n (slots_of (last_tree ss ∷ [])))) same, refl)
child_determined i t u v os ps (M1 ty mty n k c m vs) (M1 _ _ _ _ _ _ _) = (refl, refl)
child_determined i t u v os ps (D1 ty s n k c x) (D1 _ _ _ _ _ _) = (refl, refl)
child_determined i t u v os ps (D2 ty mty n k codes c vs f g one) (D2 _ _ _ _ _ _ _ _ _ _) = (refl, refl)
child_determined i t u v os ps (K1 ty s n k target x w e) (K1 _ _ _ _ _ _ w' e') = (one_value ty n _ w w' e e', refl)
child_determined i t u v os ps (K2 ty s n k x w e) (K2 _ _ _ _ _ w' e') = (one_value ty n _ w w' e e', refl)
child_determined i t u v os ps (K3 ty s r q n h j k options x y z w e) (K3 _ _ _ _ _ _ _ _ _ _ _ _ w' e') = (one_value ty n _ w w' e e', refl)
child_determined i t u v os ps (K4 ty s r n j k x y w e) (K4 _ _ _ _ _ _ _ _ w' e') = (one_value ty n _ w w' e e', refl)

pub row_determined : (w : Option ℕ) (t u v : Tree) (os ps : List ℕ) → Row w t u os → Row w t v ps → (u ≡ v) × (os ≡ ps)
row_determined None t u v os ps row other = own_determined t u v os ps row other
row_determined (Some i) t u v os ps row other = child_determined i t u v os ps row other

pub row_one_child : (i j : ℕ) (t u v : Tree) (os ps : List ℕ) → Row (Some i) t u os → Row (Some j) t v ps → i ≡ j
row_one_child i j t u v os ps row other = row_slot i t u os row ∙ sym (row_slot j t v ps other)

-- ---- the values of a dictionary

-- some row of the child in slot 1 fits
abbrev HasAnswer : Tree → Type 0
HasAnswer t = (u : Tree) × (os : List ℕ) × Row (Some 1) t u os

module _ (ty : DataType) (n : ℕ) where
  constant_answer : (k v : Tree) → IsWell v → is_constant (datum v) ≡ true → HasAnswer (node ty n enc.dict (slot k (slot v no_slots)))
  constant_answer k (node s m (enc.constant x) vs) w h =
      subst (λ ss. HasAnswer (node ty n enc.dict (slot k (slot (node s m (enc.constant x) ss) no_slots)))) (sym (no_shapes vs w.0.2))
      (named_by ty n x.value (node_validity k), [], D1 ty s n m k x)
  constant_answer k (node s m _ vs) w h = absurd (cc (h))

  slots_answer : (ss : Slots) (c : Tree) → IsWell (node ty n enc.dict ss) → HoldsAt 1 c ss → is_constant (datum c) ≡ true → HasAnswer (node ty n enc.dict ss)
  slots_answer no_slots c w held h = absurd held
  slots_answer (absent ss) c w held h = absurd (cc (w.0.3))
  slots_answer (slot k no_slots) c w held h = absurd held
  slots_answer (slot k (absent ss)) c w held h = absurd held
  slots_answer (slot k (slot v no_slots)) c w held h = constant_answer k v w.1.1.0 (subst (λ y. is_constant (datum y) ≡ true) (sym held) h)
  slots_answer (slot k (slot v (absent ss))) c w held h = absurd (cc (w.0.3))
  slots_answer (slot k (slot v (slot x ss))) c w held h = absurd (cc (w.0.3))

pub values_answer : (t c : Tree) → IsWell t → is_dict (datum t) ≡ true → HasSlot 1 c t → is_constant (datum c) ≡ true → HasAnswer t
values_answer (node ty n enc.dict ss) c w d held h = slots_answer ty n ss c w held h
values_answer (node ty n _ ss) c w d held h = absurd (cc (d))
