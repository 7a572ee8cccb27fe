-- What descending makes.
use Rattle.std.proofs.Common.{ℕ, ◌+◌, ◌≤◌, arith, refl}
use Rattle.vx_tree.specs.Tree.{Tree, slots}
use Rattle.vx_tree.specs.Slots.{put, count_slots}
use Rattle.vx_tree.specs.Keeps.{Keeps}
use Rattle.vx_opt.specs.Limits.{root_limit}
use Rattle.vx_opt.specs.Derives.{IsDerived, IsAtPlace}
use Rattle.vx_opt.specs.Descends.{Descends, DescendsIn, DescendsTo, DescendsToIn, descends, first, over, into, at_root, below, in_slot}
use Rattle.vx_opt.proofs.DerivesLemmas.{derived_refl, derived_trans, derived_inside, derived_as, reaches_after, reaches_below}
use Rattle.vx_opt.proofs.PassLemmas.{optimizes_rewritten, comes_at}

mutual
  pub descends_rewritten : (t u : Tree) (n s : ℕ) → Descends t u n s → (k : ℕ) × IsDerived t u k n s × (k ≤ root_limit)
  descends_rewritten _ _ _ _ (descends t r u n s m q h g) =
      let o = optimizes_rewritten t r n s h in
      let all : IsDerived t u (o.0 + 0) (n + m) (s + q) = derived_trans t r u o.0 n s 0 m q o.1 (descends_in_derived (count_slots (slots r)) r u m q g) in
      (o.0, derived_as t u (o.0 + 0) (n + m) (s + q) o.0 (n + m) (s + q) all (omega arith) refl refl, o.2)

  descends_in_derived : (i : ℕ) (t u : Tree) (n s : ℕ) → DescendsIn i t u n s → IsDerived t u 0 n s
  descends_in_derived _ _ _ _ _ (first t) = derived_refl t
  descends_in_derived _ _ _ _ _ (over i t u m q h g) = descends_in_derived i t u m q h
  descends_in_derived _ _ _ _ _ (into i t u c d m q n s h w g) =
      let o = descends_rewritten c d n s g in
      derived_trans t u (put i d u) 0 m q 0 n s (descends_in_derived i t u m q h) (derived_inside i c d u o.0 n s w o.1)

mutual
  pub descends_at : (t : Tree) (k n s : ℕ) → DescendsTo t k n s → IsAtPlace t k n s
  descends_at _ _ _ _ (at_root t u k n s h) = (u, comes_at t u k n s h)
  descends_at _ _ _ _ (below t r k n s m q h g) =
      let o = optimizes_rewritten t r n s h in
      let i = descends_in_at r k m q g in
      (i.0, reaches_after t r i.0 o.0 n s k m q o.1 i.1)

  descends_in_at : (t : Tree) (k n s : ℕ) → DescendsToIn t k n s → IsAtPlace t k n s
  descends_in_at _ _ _ _ (in_slot i t u c k m q n s h w g) =
      let o = descends_at c k n s g in
      (put i o.0 u, reaches_after t u (put i o.0 u) 0 m q k n s (descends_in_derived i t u m q h) (reaches_below i c o.0 u k n s w o.1))

pub descends_keeps : (t u : Tree) (n s : ℕ) → Descends t u n s → Keeps t u
descends_keeps t u n s h = (descends_rewritten t u n s h).1.reaches.keeps
