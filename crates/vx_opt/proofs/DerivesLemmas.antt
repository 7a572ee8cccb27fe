-- Rewrites, one after another and below a slot.
use Rattle.std.proofs.Common.{◌≡◌, ℕ, suc, ◌+◌, ◌≤◌, ◌<◌, List, [], ◌∷◌, ◌++◌, length, Bool, true, false, cond, ◌==◌, ◌&&◌, arith, refl, sym, ◌∙◌, ap, subst, length-append}
use Rattle.std.proofs.lemmas.Bool.{eq-eqb}
use Rattle.vx_tree.specs.Tree.{Tree}
use Rattle.vx_tree.specs.Slots.{HasSlot, put}
use Rattle.vx_tree.specs.Keeps.{Keeps}
use Rattle.vx_tree.specs.Well.{IsWell}
use Rattle.vx_tree.specs.Weight.{weight}
use Rattle.vx_tree.proofs.WeightLemmas.{put_lighter}
use Rattle.vx_tree.proofs.KeepsLemmas.{keeps_refl, keeps_trans, put_keeps}
use Rattle.vx_tree.proofs.SlotsLemmas.{put_same, put_twice, put_has, has_present}
use Rattle.vx_rule.specs.Rules.{Rewrites}
use Rattle.vx_rule.proofs.KeepsLemmas.{row_keeps}
use Rattle.vx_rule.proofs.LighterLemmas.{row_lighter}
use Rattle.vx_opt.specs.Derives.{Step, Derives, Reaches, at_here, below_all, spent_by, count_at, same_place, IsDerived, ReachesAt}

-- ---- steps

pub below-length : (i : ℕ) (ps : List Step) → length (below_all i ps) ≡ length ps
below-length i [] = refl
below-length i (p ∷ ps) = ap suc (below-length i ps)

pub below-spent : (i : ℕ) (ps : List Step) → spent_by (below_all i ps) ≡ spent_by ps
below-spent i [] = refl
below-spent i (p ∷ ps) = ap (λ n. p.spent + n) (below-spent i ps)

pub spent-append : (ps qs : List Step) → spent_by (ps ++ qs) ≡ spent_by ps + spent_by qs
spent-append [] qs = omega arith
spent-append (p ∷ ps) qs = omega (arith, spent-append ps qs)

same_self : (i : ℕ) → (i == i) ≡ true
same_self i = eq-eqb i i refl

pub count_inside : (i : ℕ) (q : List ℕ) (ps : List Step) → count_at (i ∷ q) (below_all i ps) ≡ count_at q ps
count_inside i q [] = refl
count_inside i q (p ∷ ps) = ap (λ b. cond (b && same_place q p.place) 1 0 + count_at (i ∷ q) (below_all i ps)) (same_self i)
    ∙ ap (λ n. cond (same_place q p.place) 1 0 + n) (count_inside i q ps)

pub count_below : (i : ℕ) (ps : List Step) → count_at [] (below_all i ps) ≡ 0
count_below i [] = refl
count_below i (p ∷ ps) = omega (arith, count_below i ps)

pub count_append : (q : List ℕ) (ps qs : List Step) → count_at q (ps ++ qs) ≡ count_at q ps + count_at q qs
count_append q [] qs = omega arith
count_append q (p ∷ ps) qs = omega (arith, count_append q ps qs)

cond_small : (b : Bool) → cond b 1 0 ≤ 1
cond_small true = omega arith
cond_small false = omega arith

pub count_le_length : (q : List ℕ) (ps : List Step) → count_at q ps ≤ length ps
count_le_length q [] = omega arith
count_le_length q (p ∷ ps) = let b : cond (same_place q p.place) 1 0 ≤ 1 = cond_small (same_place q p.place) in omega (arith, count_le_length q ps)

-- ---- rewrites

pub derives_trans : (t u v : Tree) (ps qs : List Step) → Derives t u ps → Derives u v qs → Derives t v (ps ++ qs)
derives_trans t u v [] qs h g = subst (λ x. Derives x v qs) (sym h) g
derives_trans t u v (p ∷ ps) qs h g = (h.0, h.1, derives_trans h.0 u v ps qs h.2 g)

pub derives_inside : (i : ℕ) (c d t : Tree) (ps : List Step) → HasSlot i c t → Derives c d ps → Derives t (put i d t) (below_all i ps)
derives_inside i c d t [] h e = sym (put_same i c t h) ∙ ap (λ x. put i x t) e
derives_inside i c d t (p ∷ ps) h e = (
  put i e.0 t,
  (c, e.0, h, e.1, refl),
  subst (λ x. Derives (put i e.0 t) x (below_all i ps)) (put_twice i e.0 d t)
      (derives_inside i e.0 d (put i e.0 t) ps (put_has i e.0 t (has_present i c t h)) e.2),
)

pub reaches_refl : (t : Tree) → Reaches t t []
reaches_refl t = record { derives = refl; keeps = keeps_refl t; lighter = λ z. omega arith }

pub reaches_row : (t u : Tree) (os : List ℕ) → IsWell t → Rewrites t u os → Reaches t u (at_here ∷ [])
reaches_row t u os g r = record {
  derives = (u, (os, r), refl);
  keeps = row_keeps r.0 t u os g r.1;
  lighter = λ z. let l : weight u < weight t = row_lighter
      r.0 t u os r.1 in omega arith;
}

-- the answer of an entry that was handed in
pub reaches_answer : (t u : Tree) → Keeps t u → Reaches t u (record { place = []; spent = suc (weight u) } ∷ [])
reaches_answer t u k = record { derives = (u, (k, refl), refl); keeps = k; lighter = λ z. absurd (omega arith) }

pub reaches_trans : (t u v : Tree) (ps qs : List Step) → Reaches t u ps → Reaches u v qs → Reaches t v (ps ++ qs)
reaches_trans t u v ps qs h g = record {
  derives = derives_trans t u v ps qs h.derives g.derives;
  keeps = keeps_trans t u v h.keeps g.keeps;
  lighter = λ z.
      let a : spent_by ps ≡ 0 = omega (arith, spent-append ps qs) in
      let b : spent_by qs ≡ 0 = omega (arith, spent-append ps qs) in
      omega (arith, h.lighter a, g.lighter b, length-append ps qs);
}

pub reaches_inside : (i : ℕ) (c d t : Tree) (ps : List Step) → HasSlot i c t → Reaches c d ps → Reaches t (put i d t) (below_all i ps)
reaches_inside i c d t ps h r = record {
  derives = derives_inside i c d t ps h r.derives;
  keeps = subst (λ x. Keeps x (put i d t)) (put_same i c t h) (put_keeps i c d t r.keeps);
  lighter = λ z.
      let l : length ps + weight (put i d t) ≤ weight t = put_lighter i (length ps) c d t h (r.lighter (sym (below-spent i ps) ∙ z)) in
      omega (arith, below-length i ps);
}

-- ---- with their numbers

pub derived_refl : (t : Tree) → IsDerived t t 0 0 0
derived_refl t = record { steps = []; reaches = reaches_refl t; at_top = refl; counted = refl; by_answers = refl }

pub derived_trans : (t u v : Tree) (x n s y m q : ℕ) → IsDerived t u x n s → IsDerived u v y m q → IsDerived t v (x + y) (n + m) (s + q)
derived_trans t u v x n s y m q h g = record {
  steps = h.steps ++ g.steps;
  reaches = reaches_trans t u v h.steps g.steps h.reaches g.reaches;
  at_top = omega (arith, count_append [] h.steps g.steps, h.at_top, g.at_top);
  counted = omega (arith, length-append h.steps g.steps, h.counted, g.counted);
  by_answers = omega (arith, spent-append h.steps g.steps, h.by_answers, g.by_answers);
}

pub derived_inside : (i : ℕ) (c d t : Tree) (x n s : ℕ) → HasSlot i c t → IsDerived c d x n s → IsDerived t (put i d t) 0 n s
derived_inside i c d t x n s w h = record {
  steps = below_all i h.steps;
  reaches = reaches_inside i c d t h.steps w h.reaches;
  at_top = count_below i h.steps;
  counted = below-length i h.steps ∙ h.counted;
  by_answers = below-spent i h.steps ∙ h.by_answers;
}

pub derived_as : (t u : Tree) (x n s y m q : ℕ) → IsDerived t u x n s → x ≡ y → n ≡ m → s ≡ q → IsDerived t u y m q
derived_as t u x n s y m q h a b c = record {
  steps = h.steps;
  reaches = h.reaches;
  at_top = h.at_top ∙ a;
  counted = h.counted ∙ b;
  by_answers = h.by_answers ∙ c;
}

pub reaches_here : (t u : Tree) (x n s : ℕ) → IsDerived t u x n s → ReachesAt t u x n s
reaches_here t u x n s h = record {
  steps = h.steps;
  reaches = h.reaches;
  counted = h.counted;
  by_answers = h.by_answers;
  place = [];
  at_one = omega (arith, h.at_top);
}

pub reaches_after : (t u v : Tree) (x n s k m q : ℕ) → IsDerived t u x n s → ReachesAt u v k m q → ReachesAt t v k (n + m) (s + q)
reaches_after t u v x n s k m q h g = record {
  steps = h.steps ++ g.steps;
  reaches = reaches_trans t u v h.steps g.steps h.reaches g.reaches;
  counted = omega (arith, length-append h.steps g.steps, h.counted, g.counted);
  by_answers = omega (arith, spent-append h.steps g.steps, h.by_answers, g.by_answers);
  place = g.place;
  at_one = omega (arith, count_append g.place h.steps g.steps, g.at_one);
}

pub reaches_below : (i : ℕ) (c d t : Tree) (k n s : ℕ) → HasSlot i c t → ReachesAt c d k n s → ReachesAt t (put i d t) k n s
reaches_below i c d t k n s w h = record {
  steps = below_all i h.steps;
  reaches = reaches_inside i c d t h.steps w h.reaches;
  counted = below-length i h.steps ∙ h.counted;
  by_answers = below-spent i h.steps ∙ h.by_answers;
  place = i ∷ h.place;
  at_one = omega (arith, h.at_one, count_inside i h.place h.steps);
}

pub reaches_as : (t u : Tree) (k n s m q : ℕ) → ReachesAt t u k n s → n ≡ m → s ≡ q → ReachesAt t u k m q
reaches_as t u k n s m q h b c = record {
  steps = h.steps;
  reaches = h.reaches;
  counted = h.counted ∙ b;
  by_answers = h.by_answers ∙ c;
  place = h.place;
  at_one = h.at_one;
}
