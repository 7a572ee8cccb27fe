-- What asking does to a registry's entries, and to what they have spent.
use Rattle.std.proofs.Common.{◌≡◌, ℕ, zero, suc, ◌+◌, ◌<◌, ◌≤◌, List, [], ◌∷◌, length, map, Bool, true, false, cond, Option, Some, None, Result, Ok, Err, refl, sym, ap, subst, ◌∙◌, arith, inl, inr, min}
use Rattle.std.specs.Prelude.{◌⊎◌, ◌&&◌, slice_index}
use Rattle.std.proofs.Math.Nat.{min-le_left}
use Rattle.vx_value.specs.Ids.{same_id}
use Rattle.vx_value.specs.declared.id.Id.{Id}
use Rattle.vx_value.specs.declared.error.SessionKind.{SessionKind}
use Rattle.vx_value.specs.declared.error.SessionKind.TheVariants.{Rule}
use Rattle.vx_value.specs.declared.error.VortexError.{VortexError}
use Rattle.vx_value.specs.declared.error.VortexError.TheVariants.{OutOfMemory, Refused}
use Rattle.vx_rule.specs.Counts.{last, capped, Rose, price, IsUnanswered}
use Rattle.vx_rule.specs.declared.raw_node.RawNode.{RawNode}
use Rattle.vx_opt.specs.Entries.{Entry, is_for, of_pair, refusals_at, IsLater, AreLater, spent_in, HasLast, IsSpent, SpentNothing, IsAsked, IsRefusal, IsFailure, cost_of}
use Rattle.vx_opt.specs.Entries.{Asks, all_declined, other, declined, answered, out_of_memory, refused}

-- ---- later entries

later_refl : (e : Entry) → IsLater e e
later_refl e = record { same_parent = refl; same_child = refl; refusals = omega arith; spent = omega arith }

later_trans : (a b c : Entry) → IsLater a b → IsLater b c → IsLater a c
later_trans a b c h k = record {
  same_parent = k.same_parent ∙ h.same_parent;
  same_child = k.same_child ∙ h.same_child;
  refusals = omega (arith, h.refusals, k.refusals);
  spent = omega (arith, h.spent, k.spent);
}

pub all_later_refl : (es : List Entry) → AreLater es es
all_later_refl [] = tt
all_later_refl (e ∷ es) = (later_refl e, all_later_refl es)

pub all_later_trans : (xs ys zs : List Entry) → AreLater xs ys → AreLater ys zs → AreLater xs zs
all_later_trans [] [] [] h k = tt
all_later_trans [] [] (c ∷ zs) h k = absurd k
all_later_trans [] (b ∷ ys) zs h k = absurd h
all_later_trans (a ∷ xs) [] zs h k = absurd h
all_later_trans (a ∷ xs) (b ∷ ys) [] h k = absurd k
all_later_trans (a ∷ xs) (b ∷ ys) (c ∷ zs) h k = (later_trans a b c h.0 k.0, all_later_trans xs ys zs h.1 k.1)

last_kept : (es fs : List Entry) → AreLater es fs → HasLast es → HasLast fs
last_kept [] [] h l = l
last_kept [] (f ∷ fs) h l = absurd h
last_kept (e ∷ es) [] h l = absurd h
last_kept (e ∷ es) (f ∷ fs) h (inl l) = inl (omega (arith, h.0.spent, l))
last_kept (e ∷ es) (f ∷ fs) h (inr l) = inr (last_kept es fs h.1 l)

-- ---- what was spent

pub spent_refl : (es : List Entry) → IsSpent 0 es es
spent_refl es = record { later = all_later_refl es; at_most = omega arith; exactly = inl (omega arith) }

pub spent_trans : (s q : ℕ) (xs ys zs : List Entry) → IsSpent s xs ys → IsSpent q ys zs → IsSpent (s + q) xs zs
spent_trans s q xs ys zs h k = record {
  later = all_later_trans xs ys zs h.later k.later;
  at_most = omega (arith, h.at_most, k.at_most);
  exactly = by_both h.exactly k.exactly;
}
  where
    by_both : (spent_in ys ≡ spent_in xs + s) ⊎ HasLast ys → (spent_in zs ≡ spent_in ys + q) ⊎ HasLast zs
        → (spent_in zs ≡ spent_in xs + (s + q)) ⊎ HasLast zs
    by_both (inl a) (inl b) = inl (omega (arith, a, b))
    by_both (inr a) b = inr (last_kept ys zs k.later a)
    by_both a (inr b) = inr b

pub spent_as : (s q : ℕ) (xs ys : List Entry) → IsSpent s xs ys → s ≡ q → IsSpent q xs ys
spent_as s q xs ys h e = subst (λ n. IsSpent n xs ys) e h

-- nothing, if the counts say so
pub nothing_spent : (s : ℕ) (xs ys : List Entry) → IsSpent s xs ys → SpentNothing xs ys → s ≡ 0
nothing_spent s xs ys h k = by_count h.exactly
  where
    by_count : (spent_in ys ≡ spent_in xs + s) ⊎ HasLast ys → s ≡ 0
    by_count (inl a) = omega (arith, a, k.same)
    by_count (inr a) = absurd (k.none_last a)

-- nothing, if there are no entries
pub none_spend : (s : ℕ) (ys : List Entry) → IsSpent s [] ys → s ≡ 0
none_spend s [] h = by_count h.exactly
  where
    by_count : (0 ≡ 0 + s) ⊎ HasLast [] → s ≡ 0
    by_count (inl a) = omega (arith, a)
    by_count (inr a) = absurd a
none_spend s (y ∷ ys) h = absurd h.later

-- ---- asking

pub asks_later : (p c : Id) (k : ℕ) (es fs : List Entry) (r : Result (Option RawNode) VortexError) → Asks p c k es fs r → AreLater es fs
asks_later p c _ _ _ _ (all_declined k) = tt
asks_later p c _ _ _ _ (other k e es fs r t h) = (later_refl e, asks_later p c k es fs r h)
asks_later p c _ _ _ _ (declined k e f es fs r t a h) = (a.later, asks_later p c (suc k) es fs r h)
asks_later p c _ _ _ _ (answered k e f es raw t a) = (a.later, all_later_refl es)
asks_later p c _ _ _ _ (out_of_memory k e f es t a) = (a.later, all_later_refl es)
asks_later p c _ _ _ _ (refused k e f es kind q d j t a) = (a.later, all_later_refl es)

-- an entry in front that spent nothing
spent_behind : (n : ℕ) (e f : Entry) (es fs : List Entry) → IsLater e f → f.spent ≡ e.spent → IsSpent n es fs → IsSpent n (e ∷ es) (f ∷ fs)
spent_behind n e f es fs l s h = record {
  later = (l, h.later);
  at_most = omega (arith, s, h.at_most);
  exactly = by_rest h.exactly;
}
  where
    by_rest : (spent_in fs ≡ spent_in es + n) ⊎ HasLast fs → (f.spent + spent_in fs ≡ e.spent + spent_in es + n) ⊎ ((last ≤ f.spent) ⊎ HasLast fs)
    by_rest (inl a) = inl (omega (arith, s, a))
    by_rest (inr a) = inr (inr a)

capped_cases : (n : ℕ) → (capped n ≡ n) ⊎ (last ≤ capped n)
capped_cases n = grind arith

-- an entry that spent n
spent_first : (n : ℕ) (e f : Entry) (es : List Entry) → IsLater e f → f.spent ≡ capped (e.spent + n) → IsSpent n (e ∷ es) (f ∷ es)
spent_first n e f es l s = record {
  later = (l, all_later_refl es);
  at_most = omega (arith, s, min-le_left (e.spent + n) last);
  exactly = by_cap (capped_cases (e.spent + n));
}
  where
    by_cap : (capped (e.spent + n) ≡ e.spent + n) ⊎ (last ≤ capped (e.spent + n))
        → (f.spent + spent_in es ≡ e.spent + spent_in es + n) ⊎ ((last ≤ f.spent) ⊎ HasLast es)
    by_cap (inl a) = inl (omega (arith, s, a))
    by_cap (inr a) = inr (inl (omega (arith, s, a)))

pub asks_spent : (p c : Id) (k : ℕ) (es fs : List Entry) (r : Result (Option RawNode) VortexError) → Asks p c k es fs r → IsSpent (cost_of r) es fs
asks_spent p c _ _ _ _ (all_declined k) = spent_refl []
asks_spent p c _ _ _ _ (other k e es fs r t h) = spent_behind (cost_of r) e e es fs (later_refl e) refl (asks_spent p c k es fs r h)
asks_spent p c _ _ _ _ (declined k e f es fs r t a h) = spent_behind (cost_of r) e f es fs a.later a.spent (asks_spent p c (suc k) es fs r h)
asks_spent p c _ _ _ _ (answered k e f es raw t a) = spent_first (price raw.tree) e f es a.later a.spent
asks_spent p c _ _ _ _ (out_of_memory k e f es t a) = spent_behind 0 e f es es a.later a.spent (spent_refl es)
asks_spent p c _ _ _ _ (refused k e f es kind q d j t a) = spent_behind 0 e f es es a.later a.spent (spent_refl es)

-- ---- a refusal

-- the entry at place i of one list is that of the other, with more refusals
abbrev RoseAt : ℕ → List Entry → List Entry → Type 0
RoseAt i xs ys = (i < length xs) × Rose (slice_index (map (λ e. e.refusals) xs) i) (slice_index (map (λ e. e.refusals) ys) i)

-- of the entries of a pair, of which k came before
abbrev IsRefusedBy : Id → Id → ℕ → List Entry → List Entry → Result (Option RawNode) VortexError → Type 0
IsRefusedBy p c k es fs (Ok o) = Unit {0}
IsRefusedBy p c k es fs (Err OutOfMemory) = Unit {0}
IsRefusedBy p c k es fs (Err (Refused kind q d j)) =
    (kind ≡ Rule) × (q ≡ p) × (d ≡ c) × (i : ℕ) × (j ≡ k + i) × RoseAt i (of_pair p c es) (of_pair p c fs)
IsRefusedBy p c k es fs (Err e) = ⊥

module _ (p c : Id) (k : ℕ) (e f : Entry) (es fs : List Entry) where
  passed_over : (r : Result (Option RawNode) VortexError) → is_for p c e ≡ false → IsRefusedBy p c k es fs r → IsRefusedBy p c k (e ∷ es) (e ∷ fs) r
  passed_over (Ok o) t h = tt
  passed_over (Err OutOfMemory) t h = tt
  passed_over (Err (Refused kind q d j)) t h = (
    h.0,
    h.1,
    h.2,
    h.3,
    h.4,
    subst (λ b. RoseAt h.3 (cond b (e ∷ of_pair p c es) (of_pair p c es)) (cond b (e ∷ of_pair p c fs) (of_pair p c fs))) (sym t) h.5,
  )
  passed_over (Err _) t h = absurd h

  same_pair : is_for p c e ≡ true → IsLater e f → is_for p c f ≡ true
  same_pair t l = (λ i. same_id (l.same_parent i) p && same_id (l.same_child i) c) ∙ t

  in_front : (i : ℕ) → is_for p c e ≡ true → is_for p c f ≡ true → RoseAt i (e ∷ of_pair p c es) (f ∷ of_pair p c fs)
      → RoseAt i (of_pair p c (e ∷ es)) (of_pair p c (f ∷ fs))
  in_front i t u h =
      subst (λ b. RoseAt i (cond b (e ∷ of_pair p c es) (of_pair p c es)) (of_pair p c (f ∷ fs))) (sym t)
      (subst (λ b. RoseAt i (e ∷ of_pair p c es) (cond b (f ∷ of_pair p c fs) (of_pair p c fs))) (sym u) h)

  asked_before : (r : Result (Option RawNode) VortexError) → is_for p c e ≡ true → IsLater e f → IsRefusedBy p c (suc k) es fs r
      → IsRefusedBy p c k (e ∷ es) (f ∷ fs) r
  asked_before (Ok o) t l h = tt
  asked_before (Err OutOfMemory) t l h = tt
  asked_before (Err (Refused kind q d j)) t l h =
      let place : j ≡ k + suc h.3 = omega (arith, h.4) in
      (h.0, h.1, h.2, suc h.3, place, in_front (suc h.3) t (same_pair t l) (omega (arith, h.5.0), h.5.1))
  asked_before (Err _) t l h = absurd h

refused_by : (p c : Id) (k : ℕ) (es fs : List Entry) (r : Result (Option RawNode) VortexError) → Asks p c k es fs r → IsRefusedBy p c k es fs r
refused_by p c _ _ _ _ (all_declined k) = tt
refused_by p c _ _ _ _ (other k e es fs r t h) = passed_over p c k e e es fs r t (refused_by p c k es fs r h)
refused_by p c _ _ _ _ (declined k e f es fs r t a h) = asked_before p c k e f es fs r t a.later (refused_by p c (suc k) es fs r h)
refused_by p c _ _ _ _ (answered k e f es raw t a) = tt
refused_by p c _ _ _ _ (out_of_memory k e f es t a) = tt
refused_by p c _ _ _ _ (refused k e f es kind q d j t a) =
    let place : k ≡ k + 0 = omega arith in
    let some : 0 < length (e ∷ of_pair p c es) = omega arith in
    (refl, refl, refl, 0, place, in_front p c k e f es es 0 t (same_pair p c k e f es es t a.later) (some, a.refused))

pub asks_failed : (p c : Id) (es fs : List Entry) (e : VortexError) → Asks p c 0 es fs (Err e) → IsFailure es fs e
asks_failed p c es fs e h = by_error e (refused_by p c 0 es fs (Err e) h)
  where
    by_error : (e : VortexError) → IsRefusedBy p c 0 es fs (Err e) → IsFailure es fs e
    by_error OutOfMemory h = tt
    by_error (Refused kind q d j) h =
        let place : h.3 ≡ j = omega (arith, h.4) in
        let at : RoseAt j (of_pair p c es) (of_pair p c fs) = subst (λ i. RoseAt i (of_pair p c es) (of_pair p c fs)) place h.5 in
        subst (λ x. IsRefusal kind x d j es fs) (sym h.1)
        (subst (λ x. IsRefusal kind p x j es fs) (sym h.2) (record { of_rule = h.0; in_list = at.0; rose = at.1 }))
    by_error _ h = absurd h

-- ---- a failure after other calls

for_later : (p c : Id) (e f : Entry) → IsLater e f → is_for p c f ≡ is_for p c e
for_later p c e f l = λ i. same_id (l.same_parent i) p && same_id (l.same_child i) c

picked_later : (b : Bool) (e f : Entry) (es fs : List Entry) → IsLater e f → AreLater es fs → AreLater (cond b (e ∷ es) es) (cond b (f ∷ fs) fs)
picked_later true e f es fs l ls = (l, ls)
picked_later false e f es fs l ls = ls

pair_later : (p c : Id) (es fs : List Entry) → AreLater es fs → AreLater (of_pair p c es) (of_pair p c fs)
pair_later p c [] [] l = tt
pair_later p c [] (f ∷ fs) l = absurd l
pair_later p c (e ∷ es) [] l = absurd l
pair_later p c (e ∷ es) (f ∷ fs) l =
    subst (λ b. AreLater (of_pair p c (e ∷ es)) (cond b (f ∷ of_pair p c fs) (of_pair p c fs))) (sym (for_later p c e f l.0))
    (picked_later (is_for p c e) e f (of_pair p c es) (of_pair p c fs) l.0 (pair_later p c es fs l.1))

later_length : (es fs : List Entry) → AreLater es fs → length fs ≡ length es
later_length [] [] l = refl
later_length [] (f ∷ fs) l = absurd l
later_length (e ∷ es) [] l = absurd l
later_length (e ∷ es) (f ∷ fs) l = ap suc (later_length es fs l.1)

later_refusals : (es fs : List Entry) (i : ℕ) → AreLater es fs → slice_index (map (λ e. e.refusals) es) i ≤ slice_index (map (λ e. e.refusals) fs) i
later_refusals [] [] i l = omega arith
later_refusals [] (f ∷ fs) i l = absurd l
later_refusals (e ∷ es) [] i l = absurd l
later_refusals (e ∷ es) (f ∷ fs) zero l = l.0.refusals
later_refusals (e ∷ es) (f ∷ fs) (suc i) l = later_refusals es fs i l.1

rose_from : (a b c : ℕ) → a ≤ b → Rose b c → Rose a c
rose_from a b c h (inl r) = inl (omega (arith, h, r))
rose_from a b c h (inr r) = inr r

pub failed_after : (xs ys zs : List Entry) (e : VortexError) → AreLater xs ys → IsFailure ys zs e → IsFailure xs zs e
failed_after xs ys zs OutOfMemory l h = tt
failed_after xs ys zs (Refused kind p c k) l h =
    let pair = pair_later p c xs ys l in
    record {
      of_rule = h.of_rule;
      in_list = omega (arith, h.in_list, later_length (of_pair p c xs) (of_pair p c ys) pair);
      rose = rose_from (refusals_at p c k xs) (refusals_at p c k ys) (refusals_at p c k zs) (later_refusals (of_pair p c xs) (of_pair p c ys) k pair) h.rose;
    }
failed_after xs ys zs _ l h = absurd h
