-- A pass over a root, and what passes make.
use Rattle.std.proofs.Common.{◌≡◌, ℕ, zero, suc, ◌+◌, ◌<◌, ◌≤◌, List, [], ◌∷◌, Some, None, refl, arith, below_more}
use Rattle.vx_tree.specs.Tree.{Tree, Slots, node, no_slots, absent, slot, slots}
use Rattle.vx_tree.specs.Slots.{put, IsPresent, IsPresentAt, count_slots}
use Rattle.vx_tree.specs.Keeps.{Keeps}
use Rattle.vx_tree.specs.Well.{IsWell}
use Rattle.vx_tree.specs.Weight.{weight}
use Rattle.vx_rule.specs.Rules.{Rewrites, IsSettled, IsQuiet}
use Rattle.vx_rule.proofs.LighterLemmas.{row_asked}
use Rattle.vx_opt.specs.Limits.{root_limit}
use Rattle.vx_opt.specs.Derives.{at_here, IsDerived, ReachesAt}
use Rattle.vx_opt.specs.Pass.{IsFirst, Answered, Runs, RunsIn, Optimizes, ComesTo, ComesToIn, start, pass, none, one_more, ends, here, within, in_slot}
use Rattle.vx_opt.proofs.DerivesLemmas.{reaches_row, reaches_answer, derived_refl, derived_trans, derived_inside, derived_as, reaches_here, reaches_after, reaches_below, reaches_as}

below_count : (j : ℕ) (ss : Slots) → IsPresentAt j ss → j < count_slots ss
below_count j no_slots h = absurd h
below_count zero (absent ss) h = absurd h
below_count zero (slot t ss) h = omega arith
below_count (suc j) (absent ss) h = omega (arith, below_count j ss h)
below_count (suc j) (slot t ss) h = omega (arith, below_count j ss h)

present_below : (j : ℕ) (t : Tree) → IsPresent j t → j < count_slots (slots t)
present_below j (node ty n d ss) h = below_count j ss h

pub quiet_all : (t : Tree) (n : ℕ) → n ≡ count_slots (slots t) → IsQuiet None t → ((j : ℕ) → j < n → IsQuiet (Some j) t) → IsSettled t
quiet_all t n e h g None = h
quiet_all t n e h g (Some j) = λ u os r. let b : j < count_slots (slots t) = present_below j t (row_asked j t u os r) in g j (omega arith) u os r

pub quiet_more : (t : Tree) (i : ℕ) → ((j : ℕ) → j < i → IsQuiet (Some j) t) → IsQuiet (Some i) t → (j : ℕ) → j < i + 1 → IsQuiet (Some j) t
quiet_more t i h g = below_more (λ j. IsQuiet (Some j) t) i h g

pub first_row : (t u : Tree) (os : List ℕ) → IsFirst t u os → Rewrites t u os
first_row t u os h = (h.0, h.1)

-- ---- what passes make

answer_derived : (t u : Tree) (os : List ℕ) (r : ℕ) → IsWell t → Answered t u os r → IsDerived t u 1 1 r
answer_derived t u os zero w h = record {
  steps = at_here ∷ [];
  reaches = reaches_row t u os w (first_row t u os h);
  at_top = refl;
  counted = refl;
  by_answers = refl;
}
answer_derived t u os (suc n) w h = record {
  steps = record { place = []; spent = suc (weight u) } ∷ [];
  reaches = reaches_answer t u h.0.3;
  at_top = refl;
  counted = refl;
  by_answers = omega (arith, h.1);
}

next_derived : (t u v : Tree) (os : List ℕ) (k n s r : ℕ) → IsDerived t u k n s → IsWell u → Answered u v os r → IsDerived t v (suc k) (suc n) (s + r)
next_derived t u v os k n s r h w a = derived_as t v (k + 1) (n + 1) (s + r) (suc k) (suc n) (s + r)
    (derived_trans t u v k n s 1 1 r h (answer_derived u v os r w a)) (omega arith) (omega arith) refl

pass_derived : (t u v w : Tree) (os : List ℕ) (k n s r m q : ℕ) → IsDerived t u k n s → IsWell u → Answered u v os r → IsDerived v w 0 m q
    → IsDerived t w (suc k) (suc (n + m)) (s + r + q)
pass_derived t u v w os k n s r m q h g a i = derived_as t w (suc k + 0) (suc n + m) (s + r + q) (suc k) (suc (n + m)) (s + r + q)
    (derived_trans t v w (suc k) (suc n) (s + r) 0 m q (next_derived t u v os k n s r h g a) i) (omega arith) (omega arith) refl

mutual
  pub runs_derived : (t u : Tree) (k n s : ℕ) → Runs t u k n s → IsDerived t u k n s
  runs_derived _ _ _ _ _ (start t) = derived_refl t
  runs_derived _ _ _ _ _ (pass t u v w os k n s r m q h g a i) =
      pass_derived t u v w os k n s r m q (runs_derived t u k n s h) g a (runs_in_derived os v w m q i)

  pub runs_in_derived : (os : List ℕ) (t u : Tree) (n s : ℕ) → RunsIn os t u n s → IsDerived t u 0 n s
  runs_in_derived _ _ _ _ _ (none t) = derived_refl t
  runs_in_derived _ _ _ _ _ (one_more os i t u c d m q n s h w g) =
      let o = optimizes_rewritten c d n s g in
      derived_trans t u (put i d u) 0 m q 0 n s (runs_in_derived os t u m q h) (derived_inside i c d u o.0 n s w o.1)

  pub optimizes_rewritten : (t u : Tree) (n s : ℕ) → Optimizes t u n s → (k : ℕ) × IsDerived t u k n s × (k ≤ root_limit)
  optimizes_rewritten _ _ _ _ (ends t u k n s h l g) = (k, runs_derived t u k n s h, l)

mutual
  pub comes_at : (t u : Tree) (k n s : ℕ) → ComesTo t u k n s → ReachesAt t u k n s
  comes_at _ _ _ _ _ (here t u v os k n s r h w a) =
      reaches_here t v (suc k) (suc n) (s + r) (next_derived t u v os k n s r (runs_derived t u k n s h) w a)
  comes_at _ _ _ _ _ (within t u v x os j n s r k m q h l w a i) = reaches_as t x k (suc n + m) (s + r + q) (suc (n + m)) (s + r + q)
      (reaches_after t v x (suc j) (suc n) (s + r) k m q (next_derived t u v os j n s r (runs_derived t u j n s h) w a) (comes_in os v x k m q i))
      (omega arith) refl

  pub comes_in : (os : List ℕ) (t u : Tree) (k n s : ℕ) → ComesToIn os t u k n s → ReachesAt t u k n s
  comes_in _ _ _ _ _ _ (in_slot os ps i t u c d m q k n s h w g) =
      reaches_after t u (put i d u) 0 m q k n s (runs_in_derived os t u m q h) (reaches_below i c d u k n s w (comes_at c d k n s g))

pub optimizes_keeps : (t u : Tree) (n s : ℕ) → Optimizes t u n s → Keeps t u
optimizes_keeps t u n s h = (optimizes_rewritten t u n s h).1.reaches.keeps

pub comes_keeps : (t u : Tree) (k n s : ℕ) → ComesTo t u k n s → Keeps t u
comes_keeps t u k n s h = (comes_at t u k n s h).reaches.keeps
