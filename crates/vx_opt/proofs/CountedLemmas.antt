-- What the loops keep, and what a slot that is optimized gives its node.
use Rattle.std.proofs.Common.{◌≡◌, ℕ, zero, suc, ◌+◌, ◌≤◌, ◌<◌, List, [], ◌∷◌, ◌++◌, length, get_or, take, drop, arith, refl, sym, ◌∙◌, ap, subst, inl, inr, Some, None, Result, Ok, Err}
use Rattle.std.specs.Prelude.{◌⊎◌, MatchResult}
use Rattle.std.specs.Result.{IsErrAnd}
use Rattle.std.proofs.Math.Seq.{take-suc}
use Rattle.vx_value.specs.declared.error.VortexError.{VortexError}
use Rattle.vx_value.specs.declared.error.VortexError.TheVariants.{OutOfMemory, RewriteLimit, Refused}
use Rattle.vx_tree.specs.Tree.{Tree, slots}
use Rattle.vx_tree.specs.Slots.{HasSlot, put, IsHole, IsPresent, count_slots}
use Rattle.vx_tree.specs.Keeps.{Keeps}
use Rattle.vx_tree.specs.Well.{IsWell, IsNodeOf}
use Rattle.vx_tree.proofs.SlotsLemmas.{put_node, put_same, put_twice, put_present}
use Rattle.vx_rule.specs.Rules.{ArePresent}
use Rattle.vx_rule.specs.declared.raw_node.RawNode.{RawNode}
use Rattle.vx_opt.specs.Derives.{InSlot}
use Rattle.vx_opt.specs.Entries.{Entry, AreLater, IsSpent, IsFailure}
use Rattle.vx_opt.specs.Limits.{root_limit, call_limit}
use Rattle.vx_opt.specs.Pass.{Runs, RunsIn, Optimizes, ComesTo, ComesToIn, start, pass, none, one_more, ends, here, within, in_slot}
use Rattle.vx_opt.specs.Progress.{IsEnd, IsLimitOf, FitsIn, IsWithin}
use Rattle.vx_opt.specs.Descends.{Descends, DescendsIn, DescendsTo, DescendsToIn, first, over, into}
use Rattle.vx_opt.specs.Descends as down
use Rattle.vx_opt.specs.Counted.{IsCounted, IsCutShort, Fails, HasCome, IsPassed, GivesUp, OptimizesAt, ComesToAt, IsUnderWay, IsBetween, DescendsAt, DescendsToAt}
use Rattle.vx_opt.specs.declared.progress.Progress.{Progress}
use Rattle.vx_opt.specs.declared.progress.Progress.TheVariants.{Settled, Stopped}
use Rattle.vx_opt.proofs.PassLemmas.{optimizes_keeps, comes_keeps}
use Rattle.vx_opt.proofs.EntriesLemmas.{all_later_refl, all_later_trans, spent_refl, spent_trans, spent_as, failed_after}

-- the error of a call is passed on
pub passed_on : {T : Type 0} (r : Result T VortexError) (P : T → Type 0) (Q : VortexError → Type 0) (e : VortexError)
    → IsErrAnd r (λ y. y ≡ e) → Q e → MatchResult r P Q
passed_on (Ok v) P Q e h q = absurd h
passed_on (Err y) P Q e h q = subst Q (sym h) q

-- ---- failures

pub fails_here : (xs : List Entry) (e : VortexError) → e ≡ OutOfMemory → Fails xs xs e
fails_here xs e h = record { later = all_later_refl xs; failure = subst (IsFailure xs xs) (sym h) tt }

-- want of memory after a call
pub fails_late : (xs ys : List Entry) (e : VortexError) → AreLater xs ys → e ≡ OutOfMemory → Fails xs ys e
fails_late xs ys e l h = record { later = l; failure = subst (IsFailure xs ys) (sym h) tt }

pub fails_after : (xs ys zs : List Entry) (e : VortexError) → AreLater xs ys → Fails ys zs e → Fails xs zs e
fails_after xs ys zs e l h = record { later = all_later_trans xs ys zs l h.later; failure = failed_after xs ys zs e l h.failure }

-- a failure is no limit
pub given_up : (comes : ℕ → ℕ → ℕ → Type 0) (a : ℕ) (xs ys : List Entry) (e : VortexError) → Fails xs ys e → GivesUp comes a xs ys e
given_up comes a xs ys (RewriteLimit k n) h = absurd h.failure
given_up comes a xs ys _ h = h

-- however far a call came, no count fell
pub come_later : (made : Tree → ℕ → ℕ → Type 0) (comes : Tree → ℕ → ℕ → ℕ → Type 0) (a b : ℕ) (xs ys : List Entry) (p : Progress)
    → HasCome made comes a b xs ys p → AreLater xs ys
come_later made comes a b xs ys (Settled u) h = h.paid.later
come_later made comes a b xs ys (Stopped u k n) h = h.paid.later

-- it came to an end with this tree
pub come_settled : (made : Tree → ℕ → ℕ → Type 0) (comes : Tree → ℕ → ℕ → ℕ → Type 0) (a b : ℕ) (xs ys : List Entry) (p : Progress) (u : Tree)
    → HasCome made comes a b xs ys p → p ≡ Settled u → IsCounted (made u) a b xs ys
come_settled made comes a b xs ys p u h e = subst (HasCome made comes a b xs ys) e h

-- ---- calls that follow one another

counted_refl : (made : ℕ → ℕ → Type 0) (a : ℕ) (xs : List Entry) → made 0 0 → a < call_limit → IsCounted made a a xs xs
counted_refl made a xs h l = record { count = 0; spent = 0; done = h; counted = omega arith; room = l; paid = spent_refl xs }

-- the second is counted from where the first ends, and both make this
counted_then : (P Q R : ℕ → ℕ → Type 0) (a b c : ℕ) (xs ys zs : List Entry) → ((n s m q : ℕ) → P n s → Q m q → R (n + m) (s + q))
    → IsCounted P a b xs ys → IsCounted Q b c ys zs → IsCounted R a c xs zs
counted_then P Q R a b c xs ys zs f h g = record {
  count = h.count + g.count;
  spent = h.spent + g.spent;
  done = f h.count h.spent g.count g.spent h.done g.done;
  counted = omega (arith, h.counted, g.counted);
  room = g.room;
  paid = spent_trans h.spent g.spent xs ys zs h.paid g.paid;
}

-- the second meets a limit
cut_then : (P : ℕ → ℕ → Type 0) (Q R : ℕ → ℕ → ℕ → Type 0) (a b : ℕ) (xs ys zs : List Entry) (k n : ℕ)
    → ((k n s m q : ℕ) → P n s → Q k m q → R k (n + m) (s + q)) → IsCounted P a b xs ys → IsCutShort Q b ys zs k n → IsCutShort R a xs zs k n
cut_then P Q R a b xs ys zs k n f h g = record {
  count = h.count + g.count;
  spent = h.spent + g.spent;
  done = f k h.count h.spent g.count g.spent h.done g.done;
  counted = omega (arith, h.counted, g.counted);
  last = g.last;
  paid = spent_trans h.spent g.spent xs ys zs h.paid g.paid;
}

-- the same limit, met on the way to something else
cut_as : (P Q : ℕ → ℕ → ℕ → Type 0) (a : ℕ) (xs ys : List Entry) (k n : ℕ) → ((k n s : ℕ) → P k n s → Q k n s) → IsCutShort P a xs ys k n → IsCutShort Q a xs ys k n
cut_as P Q a xs ys k n f h = record {
  count = h.count;
  spent = h.spent;
  done = f k h.count h.spent h.done;
  counted = h.counted;
  last = h.last;
  paid = h.paid;
}

counted_as : (P Q : ℕ → ℕ → Type 0) (a b : ℕ) (xs ys : List Entry) → ((n s : ℕ) → P n s → Q n s) → IsCounted P a b xs ys → IsCounted Q a b xs ys
counted_as P Q a b xs ys f h = record {
  count = h.count;
  spent = h.spent;
  done = f h.count h.spent h.done;
  counted = h.counted;
  room = h.room;
  paid = h.paid;
}

-- ---- the loop at one root

pub way_start : (t : Tree) (a : ℕ) (xs : List Entry) → a < call_limit → IsUnderWay t t a a 0 xs xs
way_start t a xs l = record { runs = counted_refl (Runs t t 0) a xs (start t) l; few = omega arith }

-- an answer more, at u
module _ (t u : Tree) (raw : RawNode) (a b r : ℕ) (xs ys zs : List Entry) (w : IsWell u) (h : IsUnderWay t u a b r xs ys) (p : IsPassed u ys zs (Some raw)) where
  abbrev n : ℕ
  n = h.runs.count

  abbrev s : ℕ
  s = h.runs.spent

  both_paid : IsSpent (s + p.0) xs zs
  both_paid = spent_trans s p.0 xs ys zs h.runs.paid p.3

  pub way_later : AreLater xs zs
  way_later = both_paid.later

  pub way_go : (x : Tree) (c : ℕ) (ws : List Entry) → r + 1 ≤ root_limit → IsCounted (RunsIn raw.optimize.items raw.tree x) (b + 1) c zs ws
      → IsUnderWay t x a c (r + 1) xs ws
  way_go x c ws f m =
      let e : suc r ≡ r + 1 = omega arith in
      record {
        runs = record {
          count = suc (n + m.count);
          spent = s + p.0 + m.spent;
          done = subst (λ k. Runs t x k (suc (n + m.count)) (s + p.0 + m.spent)) e
              (pass t u raw.tree x raw.optimize.items r n s p.0 m.count m.spent h.runs.done w p.1 m.done);
          counted = omega (arith, h.runs.counted, m.counted);
          room = m.room;
          paid = spent_trans (s + p.0) m.spent xs zs ws both_paid m.paid;
        };
        few = f;
      }

  pub way_limit : (r + 1 ≡ root_limit + 1) ⊎ (b + 1 ≡ call_limit) → IsCutShort (ComesTo t raw.tree) a xs zs (r + 1) (b + 1)
  way_limit l =
      let e : suc r ≡ r + 1 = omega arith in
      record {
        count = suc n;
        spent = s + p.0;
        done = subst (λ k. ComesTo t raw.tree k (suc n) (s + p.0)) e (here t u raw.tree raw.optimize.items r n s p.0 h.runs.done w p.1);
        counted = omega (arith, h.runs.counted);
        last = record { of_root = omega (arith, h.few); of_call = omega (arith, h.runs.room); either = l };
        paid = both_paid;
      }

  pub way_stopped : (x : Tree) (k m : ℕ) (ws : List Entry) → r + 1 ≤ root_limit
      → IsCutShort (ComesToIn raw.optimize.items raw.tree x) (b + 1) zs ws k m → IsCutShort (ComesTo t x) a xs ws k m
  way_stopped x k m ws f g =
      let room : suc r ≤ root_limit = omega arith in
      record {
        count = suc (n + g.count);
        spent = s + p.0 + g.spent;
        done = within t u raw.tree x raw.optimize.items r n s p.0 k g.count g.spent h.runs.done room w p.1 g.done;
        counted = omega (arith, h.runs.counted, g.counted);
        last = g.last;
        paid = spent_trans (s + p.0) g.spent xs zs ws both_paid g.paid;
      }

-- a pass without an answer
pub way_end : (t u : Tree) (a b r : ℕ) (xs ys zs : List Entry) → IsUnderWay t u a b r xs ys → IsPassed u ys zs None → IsCounted (Optimizes t u) a b xs zs
way_end t u a b r xs ys zs h p =
    let same : h.runs.spent + 0 ≡ h.runs.spent = omega arith in
    record {
      count = h.runs.count;
      spent = h.runs.spent;
      done = ends t u r h.runs.count h.runs.spent h.runs.done h.few p.0;
      counted = h.runs.counted;
      room = h.runs.room;
      paid = spent_as (h.runs.spent + 0) h.runs.spent xs zs (spent_trans h.runs.spent 0 xs ys zs h.runs.paid p.1) same;
    }

-- ---- below a slot

-- c is taken out of slot i of t, of which p is left
abbrev pub IsTaken : ℕ → Tree → Tree → Tree → Type 0
IsTaken i c p t = (put i c p ≡ t) × IsHole i p × IsNodeOf t × HasSlot i c t

module _ (i : ℕ) (c p t : Tree) (taken : IsTaken i c p t) where
  put_back : (d : Tree) → put i d t ≡ put i d p
  put_back d = ap (put i d) (sym taken.0) ∙ put_twice i c d p

  pub slot_fits : (d : Tree) → Keeps c d → IsNodeOf (put i d p)
  slot_fits d k = subst IsNodeOf (put_back d) (put_node i c d t taken.3 k.same_type k.same_len taken.2)

  pub slot_by : (relates : Tree → Tree → Type 0) (d : Tree) → relates c d → InSlot i relates t (put i d p)
  slot_by relates d h = (c, d, taken.3, h, sym (put_back d))

  module _ (d : Tree) (a : ℕ) (xs ys : List Entry) where
    pub slot_optimized : (b : ℕ) → IsCounted (Optimizes c d) a b xs ys → IsCounted (OptimizesAt i t (put i d p)) a b xs ys
    slot_optimized b h = counted_as _ (OptimizesAt i t (put i d p)) a b xs ys (λ n s. slot_by (λ x y. Optimizes x y n s) d) h

    pub slot_descended : (b : ℕ) → IsCounted (Descends c d) a b xs ys → IsCounted (DescendsAt i t (put i d p)) a b xs ys
    slot_descended b h = counted_as _ (DescendsAt i t (put i d p)) a b xs ys (λ n s x. inr (slot_by (λ x y. Descends x y n s) d x)) h

    pub slot_stopped : (k m : ℕ) → IsCutShort (ComesTo c d) a xs ys k m → IsCutShort (ComesToAt i t (put i d p)) a xs ys k m
    slot_stopped k m h = cut_as (ComesTo c d) (ComesToAt i t (put i d p)) a xs ys k m (λ k n s. slot_by (λ x y. ComesTo x y k n s) d) h

-- what the child came to fits
pub slot_progress_fits : (i : ℕ) (c p t : Tree) → IsTaken i c p t → (a b : ℕ) (xs ys : List Entry) (q : Progress)
    → HasCome (Optimizes c) (ComesTo c) a b xs ys q → FitsIn i p q
slot_progress_fits i c p t k a b xs ys (Settled d) h = slot_fits i c p t k d (optimizes_keeps c d h.count h.spent h.done)
slot_progress_fits i c p t k a b xs ys (Stopped d r n) h = slot_fits i c p t k d (comes_keeps c d r h.count h.spent h.done)

pub slot_passed : (i : ℕ) (t : Tree) (a : ℕ) (xs : List Entry) → a < call_limit → (IsPresent i t → ⊥) → IsCounted (DescendsAt i t t) a a xs xs
slot_passed i t a xs l h = counted_refl (DescendsAt i t t) a xs (inl (h, refl, refl, refl)) l

pub slot_given_up : (i : ℕ) (c t : Tree) (a : ℕ) (xs ys : List Entry) (e : VortexError) → HasSlot i c t → GivesUp (DescendsTo c) a xs ys e
    → GivesUp (DescendsToAt i t) a xs ys e
slot_given_up i c t a xs ys (RewriteLimit k n) w h = cut_as (DescendsTo c) (DescendsToAt i t) a xs ys k n (λ k n s x. (c, w, x)) h
slot_given_up i c t a xs ys _ w h = h

-- ---- the loop over the named slots

pub present_at : (os : List ℕ) (i d : ℕ) (t : Tree) → i < length os → ArePresent os t → IsPresent (get_or os i d) t
present_at [] i d t l h = absurd (omega arith)
present_at (o ∷ os) zero d t l h = h.0
present_at (o ∷ os) (suc i) d t l h = present_at os i d t (omega arith) h.1

are_present : (os : List ℕ) (t u : Tree) → ((j : ℕ) → IsPresent j t → IsPresent j u) → ArePresent os t → ArePresent os u
are_present [] t u f h = tt
are_present (o ∷ os) t u f h = (f o h.0, are_present os t u f h.1)

-- a slot that is replaced stays present, and so do the others
still_present : (i j : ℕ) (relates : Tree → Tree → Type 0) (t u : Tree) → InSlot i relates t u → IsPresent j t → IsPresent j u
still_present i j relates t u h p =
    subst (IsPresent j) (sym h.4) (put_present i j h.0 h.1 t (subst (IsPresent j) (sym (put_same i h.0 t h.2)) p))

pub between_start : (os : List ℕ) (t : Tree) (a : ℕ) (xs : List Entry) → ArePresent os t → a < call_limit → IsBetween os (take 0 os) t t a a xs xs
between_start os t a xs p l = record { runs = counted_refl (RunsIn [] t t) a xs (none t) l; present = p }

one_more_at : (os : List ℕ) (i k : ℕ) (t u v : Tree) (n s m q : ℕ) → i < length os → RunsIn (take i os) t u n s → OptimizesAt (get_or os i k) u v m q
    → RunsIn (take (i + 1) os) t v (n + m) (s + q)
one_more_at os i k t u v n s m q w h o =
    let e : suc i ≡ i + 1 = omega arith in
    subst (λ j. RunsIn (take j os) t v (n + m) (s + q)) e
    (subst (λ ps. RunsIn ps t v (n + m) (s + q)) (sym (take-suc os i k w))
    (subst (λ x. RunsIn (take i os ++ (get_or os i k ∷ [])) t x (n + m) (s + q)) (sym o.4)
    (one_more (take i os) (get_or os i k) t u o.0 o.1 n s m q h o.2 o.3)))

split_at : (os : List ℕ) (i k : ℕ) → i < length os → take i os ++ (get_or os i k ∷ drop (suc i) os) ≡ os
split_at [] i k w = absurd (omega arith)
split_at (o ∷ os) zero k w = refl
split_at (o ∷ os) (suc i) k w = ap (λ l. o ∷ l) (split_at os i k (omega arith))

module _ (os : List ℕ) (i k : ℕ) (t u v : Tree) (a b : ℕ) (xs ys zs : List Entry) (w : i < length os) (h : IsBetween os (take i os) t u a b xs ys) where
  pub between_go : (c : ℕ) → IsCounted (OptimizesAt (get_or os i k) u v) b c ys zs → IsBetween os (take (i + 1) os) t v a c xs zs
  between_go c m = record {
    runs = counted_then (RunsIn (take i os) t u) (OptimizesAt (get_or os i k) u v) (RunsIn (take (i + 1) os) t v) a b c xs ys zs
        (λ n s m q. one_more_at os i k t u v n s m q w) h.runs m;
    present = are_present os u v (λ j. still_present (get_or os i k) j (λ c d. Optimizes c d m.count m.spent) u v m.done) h.present;
  }

  pub between_stopped : (r m : ℕ) → IsCutShort (ComesToAt (get_or os i k) u v) b ys zs r m → IsCutShort (ComesToIn os t v) a xs zs r m
  between_stopped r m g =
      cut_then (RunsIn (take i os) t u) (ComesToAt (get_or os i k) u v) (ComesToIn os t v) a b xs ys zs r m
      (λ r n s m q x o.
      subst (λ l. ComesToIn l t v r (n + m) (s + q)) (split_at os i k w)
      (subst (λ y. ComesToIn (take i os ++ (get_or os i k ∷ drop (suc i) os)) t y r (n + m) (s + q)) (sym o.4)
      (in_slot (take i os) (drop (suc i) os) (get_or os i k) t u o.0 o.1 n s r m q x o.2 o.3)))
      h.runs g

pub between_end : (os : List ℕ) (i : ℕ) (t u : Tree) (a b : ℕ) (xs ys : List Entry) → take i os ≡ os → IsBetween os (take i os) t u a b xs ys
    → IsCounted (RunsIn os t u) a b xs ys
between_end os i t u a b xs ys e h = subst (λ ps. IsCounted (RunsIn ps t u) a b xs ys) e h.runs

-- ---- the loop over the named slots, within that at the root

-- the child in a named slot met a limit: so did the root
module _ (t u : Tree) (raw : RawNode) (a b r : ℕ) (xs ys zs : List Entry) (w : IsWell u) (h : IsUnderWay t u a b r xs ys) (p : IsPassed u ys zs (Some raw))
    (room : r + 1 ≤ root_limit) (i k : ℕ) (v : Tree) (c : ℕ) (vs : List Entry) (l : i < length raw.optimize.items)
    (m : IsBetween raw.optimize.items (take i raw.optimize.items) raw.tree v (b + 1) c zs vs) where
  pub named_later : AreLater xs vs
  named_later = all_later_trans xs zs vs (way_later t u raw a b r xs ys zs w h p) m.runs.paid.later

  pub named_halted : (j : ℕ) (d q : Tree) → j ≡ get_or raw.optimize.items i k → IsTaken j d q v → (x : ℕ) (ws : List Entry) (s o : Progress)
      → ((y : Tree) → s ≡ Settled y → ⊥) → HasCome (Optimizes d) (ComesTo d) c x vs ws s → IsWithin j q s o
      → HasCome (Optimizes t) (ComesTo t) a x xs ws o
  named_halted j d q e taken x ws (Settled y) o not come is = absurd (not y refl)
  named_halted j d q e taken x ws (Stopped y n z) o not come is =
      let here : IsCutShort (ComesToAt j v (put j y q)) c vs ws n z = slot_stopped j d q v taken y c vs ws n z come in
      let named = subst (λ g. IsCutShort (ComesToAt g v (put j y q)) c vs ws n z) e here in
      let between = between_stopped raw.optimize.items i k raw.tree v (put j y q) (b + 1) c zs vs ws l m n z named in
      subst (HasCome (Optimizes t) (ComesTo t) a x xs ws) (sym is) (way_stopped t u raw a b r xs ys zs w h p (put j y q) n z ws room between)

  pub named_settled : (j : ℕ) (d q y o : Tree) → j ≡ get_or raw.optimize.items i k → IsTaken j d q v → (x : ℕ) (ws : List Entry)
      → IsCounted (Optimizes d y) c x vs ws → o ≡ put j y q
      → IsBetween raw.optimize.items (take (i + 1) raw.optimize.items) raw.tree o (b + 1) x zs ws
  named_settled j d q y o e taken x ws done is =
      let here : IsCounted (OptimizesAt j v (put j y q)) c x vs ws = slot_optimized j d q v taken y c vs ws x done in
      let named = subst (λ g. IsCounted (OptimizesAt g v (put j y q)) c x vs ws) e here in
      subst (λ g. IsBetween raw.optimize.items (take (i + 1) raw.optimize.items) raw.tree g (b + 1) x zs ws) (sym is)
      (between_go raw.optimize.items i k raw.tree v (put j y q) (b + 1) c zs vs ws l m x named)

-- ---- the loop over every slot

pub sink_start : (t : Tree) (a : ℕ) (xs : List Entry) → a < call_limit → IsCounted (DescendsIn 0 t t) a a xs xs
sink_start t a xs l = counted_refl (DescendsIn 0 t t) a xs (first t) l

sunk : (i : ℕ) (t u v : Tree) (n s m q : ℕ) → DescendsIn i t u n s → DescendsAt i u v m q → DescendsIn (suc i) t v (n + m) (s + q)
sunk i t u v n s m q h (inl g) =
    let e : n ≡ n + m = omega (arith, g.2) in
    let f : s ≡ s + q = omega (arith, g.3) in
    subst (λ x. DescendsIn (suc i) t v x (s + q)) e
    (subst (λ x. DescendsIn (suc i) t v n x) f (subst (λ x. DescendsIn (suc i) t x n s) (sym g.1) (over i t u n s h g.0)))
sunk i t u v n s m q h (inr g) =
    subst (λ x. DescendsIn (suc i) t x (n + m) (s + q)) (sym g.4) (into i t u g.0 g.1 n s m q h g.2 g.3)

module _ (i : ℕ) (t u : Tree) (a b : ℕ) (xs ys zs : List Entry) (h : IsCounted (DescendsIn i t u) a b xs ys) where
  pub sink_go : (v : Tree) (c : ℕ) → IsCounted (DescendsAt i u v) b c ys zs → IsCounted (DescendsIn (i + 1) t v) a c xs zs
  sink_go v c m =
      let e : suc i ≡ i + 1 = omega arith in
      subst (λ j. IsCounted (DescendsIn j t v) a c xs zs) e
      (counted_then (DescendsIn i t u) (DescendsAt i u v) (DescendsIn (suc i) t v) a b c xs ys zs (sunk i t u v) h m)

  pub sink_given_up : (e : VortexError) → GivesUp (DescendsToAt i u) b ys zs e → GivesUp (DescendsToIn t) a xs zs e
  sink_given_up (RewriteLimit k n) g =
      cut_then (DescendsIn i t u) (DescendsToAt i u) (DescendsToIn t) a b xs ys zs k n
      (λ k n s m q x o. down.in_slot i t u o.0 k n s m q x o.1 o.2) h g
  sink_given_up OutOfMemory g = fails_after xs ys zs OutOfMemory h.paid.later g
  sink_given_up (Refused kind p c j) g = fails_after xs ys zs (Refused kind p c j) h.paid.later g
  sink_given_up _ g = absurd g.failure

pub sink_end : (i : ℕ) (t u : Tree) (a b : ℕ) (xs ys : List Entry) → i ≡ count_slots (slots t) → IsCounted (DescendsIn i t u) a b xs ys
    → IsCounted (DescendsIn (count_slots (slots t)) t u) a b xs ys
sink_end i t u a b xs ys e h = subst (λ j. IsCounted (DescendsIn j t u) a b xs ys) e h

-- ---- a root, and then its slots

module _ (t : Tree) (a b : ℕ) (xs ys : List Entry) where
  -- the root came to an end
  pub root_ended : (p : Progress) (r : Tree) → IsEnd p r → HasCome (Optimizes t) (ComesTo t) a b xs ys p → IsCounted (Optimizes t r) a b xs ys
  root_ended p r e h = subst (HasCome (Optimizes t) (ComesTo t) a b xs ys) e h

  -- it met a limit
  pub root_limited : (p : Progress) (e : VortexError) → IsLimitOf p e → HasCome (Optimizes t) (ComesTo t) a b xs ys p → GivesUp (DescendsTo t) a xs ys e
  root_limited p e l h =
      let cut = subst (HasCome (Optimizes t) (ComesTo t) a b xs ys) l.3 h in
      subst (GivesUp (DescendsTo t) a xs ys) (sym l.4)
      (cut_as (ComesTo t l.0) (DescendsTo t) a xs ys l.1 l.2 (λ k n s x. down.at_root t l.0 k n s x) cut)

-- the slots came to an end, too
pub descended : (t r u : Tree) (a b c : ℕ) (xs ys zs : List Entry) → IsCounted (Optimizes t r) a b xs ys
    → IsCounted (DescendsIn (count_slots (slots r)) r u) b c ys zs → IsCounted (Descends t u) a c xs zs
descended t r u a b c xs ys zs h g =
    counted_then (Optimizes t r) (DescendsIn (count_slots (slots r)) r u) (Descends t u) a b c xs ys zs
    (λ n s m q x y. down.descends t r u n s m q x y) h g

-- a slot gave up
pub descending_given_up : (t r : Tree) (a b : ℕ) (xs ys zs : List Entry) (e : VortexError) → IsCounted (Optimizes t r) a b xs ys
    → GivesUp (DescendsToIn r) b ys zs e → GivesUp (DescendsTo t) a xs zs e
descending_given_up t r a b xs ys zs (RewriteLimit k n) h g =
    cut_then (Optimizes t r) (DescendsToIn r) (DescendsTo t) a b xs ys zs k n (λ k n s m q x y. down.below t r k n s m q x y) h g
descending_given_up t r a b xs ys zs OutOfMemory h g = fails_after xs ys zs OutOfMemory h.paid.later g
descending_given_up t r a b xs ys zs (Refused kind p d j) h g = fails_after xs ys zs (Refused kind p d j) h.paid.later g
descending_given_up t r a b xs ys zs _ h g = absurd g.failure

-- the same, by other names for where it ends
pub ending_as : (made : ℕ → ℕ → Type 0) (b x y : ℕ) (xs ys zs : List Entry) → y ≡ x → zs ≡ ys → IsCounted made b x xs ys → IsCounted made b y xs zs
ending_as made b x y xs ys zs e f h = subst (λ n. IsCounted made b n xs zs) (sym e) (subst (IsCounted made b x xs) (sym f) h)

-- ---- the loop over every slot, with its root

module _ (t r : Tree) (a b : ℕ) (xs ys : List Entry) (root : IsCounted (Optimizes t r) a b xs ys) (i : ℕ) (u : Tree) (c : ℕ) (zs : List Entry)
    (h : IsCounted (DescendsIn i r u) b c ys zs) where
  pub sunk_failed : (e : VortexError) → e ≡ OutOfMemory → GivesUp (DescendsTo t) a xs zs e
  sunk_failed e m = descending_given_up t r a b xs ys zs e root (given_up (DescendsToIn r) b ys zs e (fails_late ys zs e h.paid.later m))

  pub child_given_up : (e : VortexError) (d : Tree) (ws : List Entry) → HasSlot i d u → GivesUp (DescendsTo d) c zs ws e → GivesUp (DescendsTo t) a xs ws e
  child_given_up e d ws held g =
      descending_given_up t r a b xs ys ws e root (sink_given_up i r u b c ys zs ws h e (slot_given_up i d u c zs ws e held g))

  pub put_failed : (e : VortexError) (d f : Tree) (x : ℕ) (ws : List Entry) → IsCounted (Descends d f) c x zs ws → e ≡ OutOfMemory → GivesUp (DescendsTo t) a xs ws e
  put_failed e d f x ws k m =
      descending_given_up t r a b xs ys ws e root
      (given_up (DescendsToIn r) b ys ws e (fails_late ys ws e (all_later_trans ys zs ws h.paid.later k.paid.later) m))

  pub sunk_taken : (d p f v : Tree) → IsTaken i d p u → (x : ℕ) (ws : List Entry) → IsCounted (Descends d f) c x zs ws → v ≡ put i f p
      → IsCounted (DescendsIn (i + 1) r v) b x ys ws
  sunk_taken d p f v taken x ws k e =
      subst (λ y. IsCounted (DescendsIn (i + 1) r y) b x ys ws) (sym e)
      (sink_go i r u b c ys zs ws h (put i f p) x (slot_descended i d p u taken f c zs ws x k))

  pub sunk_passed : (v : Tree) → v ≡ u → (IsPresent i u → ⊥) → IsCounted (DescendsIn (i + 1) r v) b c ys zs
  sunk_passed v e absent =
      subst (λ y. IsCounted (DescendsIn (i + 1) r y) b c ys zs) (sym e) (sink_go i r u b c ys zs zs h u c (slot_passed i u c zs h.room absent))

  pub sunk_end : i ≡ count_slots (slots r) → IsCounted (Descends t u) a c xs zs
  sunk_end e = descended t r u a b c xs ys zs root (sink_end i r u b c ys zs e h)
