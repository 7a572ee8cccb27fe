-- What the public calls give.
use Rattle.std.proofs.Common.{◌≡◌, ℕ, ◌+◌, ◌≤◌, List, [], arith, refl, sym, ◌∙◌, subst, inl, inr, zero-add, Result, Ok, Err, IfErr, IfOk}
use Rattle.std.specs.Prelude.{◌⊎◌, MatchResult}
use Rattle.vx_value.specs.declared.error.VortexError.{VortexError}
use Rattle.vx_value.specs.declared.error.VortexError.TheVariants.{OutOfMemory, RewriteLimit, Refused}
use Rattle.vx_tree.specs.Tree.{Tree}
use Rattle.vx_tree.specs.Weight.{weight}
use Rattle.vx_rule.specs.Rules.{IsSettled}
use Rattle.vx_opt.specs.Entries.{Entry, AreLater, IsSpent, SpentNothing, IsFailure}
use Rattle.vx_opt.specs.Limits.{root_limit, call_limit, IsLast}
use Rattle.vx_opt.specs.Derives.{IsDerived, ReachesAt, IsAtPlace}
use Rattle.vx_opt.specs.Pass.{Optimizes, ComesTo, ends}
use Rattle.vx_opt.specs.Descends.{Descends, DescendsTo}
use Rattle.vx_opt.specs.Progress.{IsTree, IsEnd, IsLimitOf}
use Rattle.vx_opt.specs.Counted.{IsCounted, IsCutShort, Fails, HasCome, GivesUp, GivesDescending}
use Rattle.vx_opt.specs.Answers.{IsRewritten, IsOptimized, IsDescended, IsHalted, IsSoFar, IsLimited, Spending, IsStopped, IsStoppedBelow, IsNoLimit}
use Rattle.vx_opt.specs.declared.progress.Progress.{Progress}
use Rattle.vx_opt.specs.declared.progress.Progress.TheVariants.{Settled, Stopped}
use Rattle.vx_opt.proofs.DerivesLemmas.{count_le_length}
use Rattle.vx_opt.proofs.EntriesLemmas.{nothing_spent, none_spend}
use Rattle.vx_opt.proofs.PassLemmas.{optimizes_rewritten, comes_at}
use Rattle.vx_opt.proofs.DescendsLemmas.{descends_rewritten, descends_at}

rewritten_by : (t u : Tree) (n s k : ℕ) → IsDerived t u k n s → k ≤ root_limit → IsRewritten t u n s
rewritten_by t u n s k h l = record {
  top = k;
  derived = h;
  few = l;
  keeps = h.reaches.keeps;
  lighter = λ z. omega (arith, h.counted, h.reaches.lighter (subst (λ x. x ≡ 0) (sym h.by_answers) z));
}

pub optimizing : (t u : Tree) (n s : ℕ) → Optimizes t u n s → IsRewritten t u n s
optimizing t u n s h = let o = optimizes_rewritten t u n s h in rewritten_by t u n s o.0 o.1 o.2

pub descending : (t u : Tree) (n s : ℕ) → Descends t u n s → IsRewritten t u n s
descending t u n s h = let o = descends_rewritten t u n s h in rewritten_by t u n s o.0 o.1 o.2

pub is_settled : (t u : Tree) (n s : ℕ) → Optimizes t u n s → IsSettled u
is_settled _ _ _ _ (ends t u k n s h l g) = g

pub halting : (t u : Tree) (k n s : ℕ) → ComesTo t u k n s → IsLast k n → IsHalted t u s k n
halting t u k n s h l =
    let r = comes_at t u k n s h in
    record {
      comes = h;
      last = l;
      derives = r;
      keeps = r.reaches.keeps;
      lighter = λ z. omega (arith, r.counted, r.reaches.lighter (subst (λ x. x ≡ 0) (sym r.by_answers) z));
    }

-- ---- the limit only comes to heavy trees

heavy : (r n w : ℕ) → (r ≡ root_limit + 1) ⊎ (n ≡ call_limit) → r ≤ n → n ≤ w → 101 ≤ w
heavy r n w (inl e) a b = omega arith
heavy r n w (inr e) a b = omega arith

place_heavy : (t u : Tree) (r n s : ℕ) → ReachesAt t u r n s → IsLast r n → s ≡ 0 → 101 ≤ weight t
place_heavy t u r n s h l z =
    heavy r n (weight t) l.either (omega (arith, h.at_one, h.counted, count_le_length h.place h.steps))
    (omega (arith, h.counted, h.reaches.lighter (h.by_answers ∙ z)))

-- ---- a call, whose counter begins at 0

module _ (t : Tree) (xs ys : List Entry) where
  call_ended : (u : Tree) (b : ℕ) → IsCounted (Optimizes t u) 0 b xs ys → Spending (IsOptimized t u) xs ys
  call_ended u b h = (
    h.spent,
    h.paid,
    record {
      total = h.count;
      passes = h.done;
      room = omega (arith, h.counted, h.room);
      settled = is_settled t u h.count h.spent h.done;
      rewritten = optimizing t u h.count h.spent h.done;
    },
  )

  call_halted : (u : Tree) (k n : ℕ) → IsCutShort (ComesTo t u) 0 xs ys k n → Spending (λ s. IsHalted t u s k n) xs ys
  call_halted u k n h =
      let same : h.count ≡ n = omega (arith, h.counted) in
      (h.spent, h.paid, halting t u k n h.spent (subst (λ x. ComesTo t u k x h.spent) same h.done) h.last)

  -- ---- what the root came to

  module _ (p : Progress) (b : ℕ) (h : HasCome (Optimizes t) (ComesTo t) 0 b xs ys p) where
    come_later : (q : Progress) → HasCome (Optimizes t) (ComesTo t) 0 b xs ys q → AreLater xs ys
    come_later (Settled u) g = g.paid.later
    come_later (Stopped u k n) g = g.paid.later

    pub root_later : AreLater xs ys
    root_later = come_later p h

    pub root_given : (u : Tree) → IsEnd p u → Spending (IsOptimized t u) xs ys
    root_given u e = call_ended u b (subst (HasCome (Optimizes t) (ComesTo t) 0 b xs ys) e h)

    pub root_stopped : (e : VortexError) → IsLimitOf p e → IsStopped t xs ys e
    root_stopped e l =
        let cut = call_halted l.0 l.1 l.2 (subst (HasCome (Optimizes t) (ComesTo t) 0 b xs ys) l.3 h) in
        subst (IsStopped t xs ys) (sym l.4) (cut.0, cut.1, record { tree = l.0; halted = cut.2 })

    pub root_so_far : (u : Tree) → IsTree p u → Spending (IsSoFar t u) xs ys
    root_so_far u e = by_progress p h e
      where
        by_progress : (q : Progress) → HasCome (Optimizes t) (ComesTo t) 0 b xs ys q → IsTree q u → Spending (IsSoFar t u) xs ys
        by_progress (Settled v) g e =
            let o = call_ended v b g in subst (λ x. Spending (IsSoFar t x) xs ys) (sym e) (o.0, o.1, inl o.2)
        by_progress (Stopped v k n) g e =
            let o = call_halted v k n g in subst (λ x. Spending (IsSoFar t x) xs ys) (sym e) (o.0, o.1, inr (k, n, o.2))

  pub failed_stopped : (e : VortexError) → IsFailure xs ys e → IsStopped t xs ys e
  failed_stopped (RewriteLimit k n) h = absurd h
  failed_stopped _ h = h

  pub stopped_light : (e : VortexError) → IsStopped t xs ys e → weight t ≤ 100 → SpentNothing xs ys → IsNoLimit e
  stopped_light (RewriteLimit k n) h l z =
      let none : h.0 ≡ 0 = nothing_spent h.0 xs ys h.1 z in
      let w : 101 ≤ weight t = place_heavy t h.2.tree k n h.0 h.2.halted.derives h.2.halted.last none in
      absurd (omega arith)
  stopped_light _ h l z = tt

  pub below_light : (e : VortexError) → IsStoppedBelow t xs ys e → weight t ≤ 100 → SpentNothing xs ys → IsNoLimit e
  below_light (RewriteLimit k n) h l z =
      let none : h.0 ≡ 0 = nothing_spent h.0 xs ys h.1 z in
      let w : 101 ≤ weight t = place_heavy t h.2.derives.0 k n h.0 h.2.derives.1 h.2.last none in
      absurd (omega arith)
  below_light _ h l z = tt

  -- ---- the same of a result

  module _ (p : Progress) (b : ℕ) (h : HasCome (Optimizes t) (ComesTo t) 0 b xs ys p) where
    pub call_given : (r : Result Tree VortexError) → MatchResult r (IsEnd p) (IsLimitOf p) → IfOk r (λ u. Spending (IsOptimized t u) xs ys)
    call_given (Ok u) m = root_given p b h u m
    call_given (Err e) m = tt

    pub call_stopped : (r : Result Tree VortexError) → MatchResult r (IsEnd p) (IsLimitOf p) → IfErr r (IsStopped t xs ys)
    call_stopped (Ok u) m = tt
    call_stopped (Err e) m = root_stopped p b h e m

    pub call_light : (r : Result Tree VortexError) → MatchResult r (IsEnd p) (IsLimitOf p) → weight t ≤ 100 → SpentNothing xs ys → IfErr r IsNoLimit
    call_light (Ok u) m l z = tt
    call_light (Err e) m l z = stopped_light e (root_stopped p b h e m) l z

  -- ---- descending

  pub call_descended : (r : Result Tree VortexError) (b : ℕ) → GivesDescending t 0 b xs ys r → IfOk r (λ u. Spending (IsDescended t u) xs ys)
  call_descended (Ok u) b h = (
    h.spent,
    h.paid,
    record {
      total = h.count;
      descends = h.done;
      room = omega (arith, h.counted, h.room);
      rewritten = descending t u h.count h.spent h.done;
    },
  )
  call_descended (Err e) b h = tt

  gives_below : (e : VortexError) → GivesUp (DescendsTo t) 0 xs ys e → IsStoppedBelow t xs ys e
  gives_below (RewriteLimit k n) h =
      let same : h.count ≡ n = omega (arith, h.counted) in
      let comes = subst (λ x. DescendsTo t k x h.spent) same h.done in
      (h.spent, h.paid, record { comes = comes; last = h.last; derives = descends_at t k n h.spent comes })
  gives_below _ h = h.failure

  pub call_stopped_below : (r : Result Tree VortexError) (b : ℕ) → GivesDescending t 0 b xs ys r → IfErr r (IsStoppedBelow t xs ys)
  call_stopped_below (Ok u) b h = tt
  call_stopped_below (Err e) b h = gives_below e h

  later_below : (e : VortexError) → GivesUp (DescendsTo t) 0 xs ys e → AreLater xs ys
  later_below (RewriteLimit k n) h = h.paid.later
  later_below _ h = h.later

  pub call_later_below : (r : Result Tree VortexError) (b : ℕ) → GivesDescending t 0 b xs ys r → AreLater xs ys
  call_later_below (Ok u) b h = h.paid.later
  call_later_below (Err e) b h = later_below e h

  pub call_light_below : (r : Result Tree VortexError) (b : ℕ) → GivesDescending t 0 b xs ys r → weight t ≤ 100 → SpentNothing xs ys → IfErr r IsNoLimit
  call_light_below (Ok u) b h l z = tt
  call_light_below (Err e) b h l z = below_light e (gives_below e h) l z

pub ruleset optimized = (root_later, call_given, call_stopped, call_light, failed_stopped, stopped_light)

pub ruleset so_far = (root_later, root_so_far)

pub ruleset descended = (call_descended, call_stopped_below, call_later_below, call_light_below)

-- ---- without entries

module _ (t : Tree) (ys : List Entry) where
  pub alone_optimized : (r : Result Tree VortexError) → IfOk r (λ u. Spending (IsOptimized t u) [] ys) → IfOk r (λ u. IsOptimized t u 0)
  alone_optimized (Ok u) h = subst (IsOptimized t u) (none_spend h.0 ys h.1) h.2
  alone_optimized (Err e) h = tt

  alone_stopped : (e : VortexError) → IsStopped t [] ys e → IsLimited t 0 e
  alone_stopped OutOfMemory h = tt
  alone_stopped (RewriteLimit k n) h =
      subst (λ s. IsLimited t s (RewriteLimit k n)) (none_spend h.0 ys h.1) h.2
  alone_stopped (Refused kind p c k) h = absurd (omega (arith, h.in_list))
  alone_stopped _ h = absurd h

  pub alone_limited : (r : Result Tree VortexError) → IfErr r (IsStopped t [] ys) → IfErr r (IsLimited t 0)
  alone_limited (Ok u) h = tt
  alone_limited (Err e) h = alone_stopped e h

  limited_light : (e : VortexError) → IsLimited t 0 e → weight t ≤ 100 → e ≡ OutOfMemory
  limited_light OutOfMemory h l = refl
  limited_light (RewriteLimit k n) h l =
      let w : 101 ≤ weight t = place_heavy t h.tree k n 0 h.halted.derives h.halted.last refl in absurd (omega arith)
  limited_light _ h l = absurd h

  pub alone_light : (r : Result Tree VortexError) → IfErr r (IsStopped t [] ys) → weight t ≤ 100 → IfErr r (λ e. e ≡ OutOfMemory)
  alone_light (Ok u) h l = tt
  alone_light (Err e) h l = limited_light e (alone_stopped e h) l

pub ruleset alone = (alone_optimized, alone_limited, alone_light)
