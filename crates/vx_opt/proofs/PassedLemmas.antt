-- What the entries for a child and its own rows give, and what one pass gives.
use Rattle.std.proofs.Common.{◌≡◌, ℕ, zero, suc, ◌+◌, ◌<◌, List, [], ◌∷◌, Option, Some, None, Result, Ok, Err, refl, sym, ap, subst, ◌∙◌, arith, inl, inr}
use Rattle.std.specs.Prelude.{◌⊎◌, IfOk}
use Rattle.vx_value.specs.declared.error.VortexError.{VortexError}
use Rattle.vx_value.specs.declared.error.VortexError.TheVariants.{OutOfMemory}
use Rattle.vx_tree.specs.Tree.{Tree, datum, id_of}
use Rattle.vx_tree.specs.Slots.{HasSlot, IsPresent}
use Rattle.vx_tree.specs.Keeps.{Keeps}
use Rattle.vx_tree.specs.Weight.{weight}
use Rattle.vx_tree.proofs.SlotsLemmas.{has_present}
use Rattle.vx_rule.specs.Answers.{IsAnswer, Answers}
use Rattle.vx_rule.specs.Counts.{MayStand, price}
use Rattle.vx_rule.specs.Rules.{Row, IsQuiet, ArePresent}
use Rattle.vx_rule.specs.declared.raw_node.RawNode.{RawNode}
use Rattle.vx_rule.proofs.LighterLemmas.{row_asked, row_present}
use Rattle.vx_opt.specs.Entries.{Entry, IsSpent, Asks, cost_of}
use Rattle.vx_opt.specs.Pass.{AreQuietBefore, IsFirst, IsHandedIn, Answered}
use Rattle.vx_opt.specs.Counted.{Fails, ThenOwn, AsksSlot, AsksIn, IsPassed}
use Rattle.vx_opt.proofs.EntriesLemmas.{spent_refl, spent_trans, spent_as, asks_later, asks_spent, asks_failed}
use Rattle.vx_opt.proofs.CountedLemmas.{fails_late, fails_after}

-- the two results of a call that is one
ok_not_err : {A : Type 0} (o : A) (e : VortexError) → Ok o ≡ Err e → ⊥
ok_not_err o e h = cc

none_not_some : (q : Result (Option RawNode) VortexError) (r : RawNode) → q ≡ Ok None → q ≡ Ok (Some r) → ⊥
none_not_some q r e f = cc (e, f)

module _ (i : ℕ) (t c : Tree) (es fs : List Entry) where
  abbrev at : Result (Option RawNode) VortexError → Type 0
  at q = Asks (id_of (datum t)) (id_of (datum c)) 0 es fs q

  -- no answer
  child_declined : (q : Result (Option RawNode) VortexError) → at q → ThenOwn i t q (Ok None) → IsQuiet (Some i) t × IsSpent 0 es fs
  child_declined (Ok None) a h = (h, asks_spent (id_of (datum t)) (id_of (datum c)) 0 es fs (Ok None) a)
  child_declined (Ok (Some r)) a h = absurd (none_not_some (Ok None) r refl (sym h))
  child_declined (Err e) a h = absurd (ok_not_err None e (sym h))

  -- an error
  child_failed : (q : Result (Option RawNode) VortexError) (e : VortexError) → at q → ThenOwn i t q (Err e) → Fails es fs e
  child_failed (Ok None) e a h = fails_late es fs e (asks_later (id_of (datum t)) (id_of (datum c)) 0 es fs (Ok None) a) h
  child_failed (Ok (Some r)) e a h = absurd (ok_not_err (Some r) e h)
  child_failed (Err x) e a h =
      let same : x ≡ e = cc in
      subst (Fails es fs) same (record {
        later = asks_later (id_of (datum t)) (id_of (datum c)) 0 es fs (Err x) a;
        failure = asks_failed (id_of (datum t)) (id_of (datum c)) es fs x a;
      })

  -- an answer, when those before have none
  child_answered : (q : Result (Option RawNode) VortexError) (raw : RawNode) → HasSlot i c t → at q → IfOk q (MayStand t) → ThenOwn i t q (Ok (Some raw))
      → AreQuietBefore (Some i) t → IsPassed t es fs (Some raw)
  child_answered (Ok None) raw w a s h b =
      (0, (Some i, h, b), row_present (Some i) t raw.tree raw.optimize.items h, asks_spent (id_of (datum t)) (id_of (datum c)) 0 es fs (Ok None) a)
  child_answered (Ok (Some r)) raw w a s h b =
      let same : r ≡ raw = cc in
      let one : price r.tree ≡ suc (weight r.tree) = omega arith in
      subst (λ x. IsPassed t es fs (Some x)) same (
        suc (weight r.tree),
        ((i, has_present i c t w, b, s.0), refl),
        s.1,
        spent_as (price r.tree) (suc (weight r.tree)) es fs (asks_spent (id_of (datum t)) (id_of (datum c)) 0 es fs (Ok (Some r)) a) one,
      )
  child_answered (Err e) raw w a s h b = absurd (ok_not_err (Some raw) e (sym h))

module _ (i : ℕ) (t : Tree) (es fs : List Entry) where
  declined_in : AsksIn i t es fs (Ok None) → IsQuiet (Some i) t × IsSpent 0 es fs
  declined_in (inl h) = ((λ u os r. h.0 (row_asked i t u os r)), subst (IsSpent 0 es) (sym h.1) (spent_refl es))
  declined_in (inr h) = child_declined i t h.0 es fs h.1.result h.1.asked h.1.own

  pub slot_declined : (o : Option RawNode) → AsksIn i t es fs (Ok o) → o ≡ None → IsQuiet (Some i) t × IsSpent 0 es fs
  slot_declined o h e = declined_in (subst (λ x. AsksIn i t es fs (Ok x)) e h)

  pub slot_failed : (e : VortexError) → AsksIn i t es fs (Err e) → Fails es fs e
  slot_failed e (inl h) = absurd (ok_not_err None e (sym h.2))
  slot_failed e (inr h) = child_failed i t h.0 es fs h.1.result e h.1.asked h.1.own

  answered_in : (raw : RawNode) → AsksIn i t es fs (Ok (Some raw)) → AreQuietBefore (Some i) t → IsPassed t es fs (Some raw)
  answered_in raw (inl h) b = absurd (none_not_some (Ok None) raw refl (sym h.2))
  answered_in raw (inr h) b = child_answered i t h.0 es fs h.1.result raw h.1.child h.1.asked h.1.stands h.1.own b

  pub slot_answered : (o : Option RawNode) (raw : RawNode) → AsksIn i t es fs (Ok o) → o ≡ Some raw → AreQuietBefore (Some i) t
      → IsPassed t es fs (Some raw)
  slot_answered o raw h e b = answered_in raw (subst (λ x. AsksIn i t es fs (Ok x)) e h) b

-- after slots that spent nothing
pub passed_after : (t : Tree) (xs ys zs : List Entry) (raw : RawNode) → IsSpent 0 xs ys → IsPassed t ys zs (Some raw) → IsPassed t xs zs (Some raw)
passed_after t xs ys zs raw h p =
    let none : 0 + p.0 ≡ p.0 = omega arith in
    (p.0, p.1, p.2, spent_as (0 + p.0) p.0 xs zs (spent_trans 0 p.0 xs ys zs h p.3) none)

pub declined_after : (xs ys zs : List Entry) → IsSpent 0 xs ys → IsSpent 0 ys zs → IsSpent 0 xs zs
declined_after xs ys zs h k = spent_trans 0 0 xs ys zs h k

-- the node's own answer
pub own_answered : (t : Tree) (es : List Entry) (raw : RawNode) → Row None t raw.tree raw.optimize.items → IsPassed t es es (Some raw)
own_answered t es raw h = (0, (None, h, tt), row_present None t raw.tree raw.optimize.items h, spent_refl es)

-- the answer of a pass, if it is known whether there is one
pub passed_as : (t : Tree) (es fs : List Entry) (o q : Option RawNode) → IsPassed t es fs o → o ≡ q → IsPassed t es fs q
passed_as t es fs o q h e = subst (IsPassed t es fs) e h
