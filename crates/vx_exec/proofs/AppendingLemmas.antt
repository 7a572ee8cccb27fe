-- A tree that is executed to a column, whose rows are appended to a builder.
use Rattle.std.proofs.Common.{◌≡◌, ◌⊎◌, inl, inr, ℕ, Bool, true, false, length, Option, Some, None, Ok, Err, sym, ◌∙◌, ap, subst, arith}
use Rattle.vx_value.specs.declared.error.VortexError.{VortexError}
use Rattle.vx_value.specs.declared.error.VortexError.TheVariants.{OutOfMemory, Fault, IterationLimit, InvalidArgument, TooLong}
use Rattle.vx_value.specs.declared.error.ArgKind.TheVariants.{BadType}
use Rattle.vx_tree.specs.Conditions.{first_of_both, unless}
use Rattle.vx_tree.specs.Tree.{Tree, dtype, len, datum, is_columnar}
use Rattle.vx_tree.specs.Cells.{rows, HasNoFault, IsClean}
use Rattle.vx_tree.specs.Firm.{KeepsFirmly}
use Rattle.vx_tree.specs.Canonicals.{columnar_tree}
use Rattle.vx_tree.specs.declared.canonical.columnar.Columnar.{Columnar}
use Rattle.vx_tree.proofs.ConditionsLemmas.{none_refused}
use Rattle.vx_column.specs.Built.{length_refusal}
use Rattle.vx_column.specs.Grown.{GrownRows, count, with_column, type_refusal, column_refusal}
use Rattle.vx_step.specs.Steps.{IsStopped}
use Rattle.vx_exec.specs.Budgets.{Budget}
use Rattle.vx_exec.specs.Executions.{IsExecution, IsAppending}
use Rattle.vx_exec.specs.Moves.{IsUnread, read_cells}

-- what a refusal is
refusal_by : (a b : Bool) (n k : ℕ) (e : VortexError) → first_of_both (unless a (InvalidArgument BadType)) (unless b (TooLong n k)) ≡ Some e
    → (e ≡ InvalidArgument BadType) ⊎ (e ≡ TooLong n k)
refusal_by false b n k e h = inl (cc)
refusal_by true false n k e h = inr (cc)
refusal_by true true n k e h = absurd (cc)

some_same : (d e : VortexError) → Some d ≡ Some e → d ≡ e
some_same d e h = cc

none_some : (o : Option VortexError) (e : VortexError) → o ≡ None → o ≡ Some e → ⊥
none_some o e h k = cc (sym h ∙ k)

-- ---- the checks

pub both_taken : (b : GrownRows) (t : Tree) → type_refusal b (dtype t) ≡ None → length_refusal (count b) (len t) ≡ None → column_refusal b t ≡ None
both_taken b t h k = none_refused _ _ h k

pub type_refused : (b : GrownRows) (t : Tree) (e : VortexError) → type_refusal b (dtype t) ≡ Some e → column_refusal b t ≡ Some e
type_refused b t e h = ap (λ o. first_of_both o (length_refusal (count b) (len t))) h

pub length_refused : (b : GrownRows) (t : Tree) (e : VortexError) → type_refusal b (dtype t) ≡ None → length_refusal (count b) (len t) ≡ Some e
    → column_refusal b t ≡ Some e
length_refused b t e h k = ap (λ o. first_of_both o (length_refusal (count b) (len t))) h ∙ k

-- a column of the tree's type and length is refused if the tree is
pub column_taken : (b : GrownRows) (t u : Tree) → KeepsFirmly t u → column_refusal b t ≡ None → column_refusal b u ≡ None
column_taken b t u same h =
    subst (λ ty. first_of_both (type_refusal b ty) (length_refusal (count b) (len u)) ≡ None) same.keeps.same_type
    (subst (λ n. first_of_both (type_refusal b (dtype t)) (length_refusal (count b) n) ≡ None) same.keeps.same_len h)

module _ (t : Tree) (b : GrownRows) (old new : Budget) where
  pub refused_at_once : (e : VortexError) → column_refusal b t ≡ Some e → new ≡ record { limit = old.limit; turns = 0 } → IsAppending t b old new (Err e)
  refused_at_once e h at =
      let kind = refusal_by _ _ _ _ e h in
      record {
        ok = tt;
        valid = tt;
        refused = λ d k. (ap Err (some_same e d (sym h ∙ k)), ap (λ (x : Budget). x.turns) at);
        bound = tt;
        within = tt;
        limit = λ l k. elim kind [ inl m ↦ absurd (cc) | inr m ↦ absurd (cc) ];
        err = inl h;
        fault = λ k. elim kind [ inl m ↦ absurd (cc) | inr m ↦ absurd (cc) ];
        told = omega (arith, ap (λ (x : Budget). x.turns) at);
        kept = ap (λ (x : Budget). x.limit) at;
      }

  module _ (from : Budget) (same : from.limit ≡ old.limit) (takes : column_refusal b t ≡ None) where
    pub not_executed : (e : VortexError) → IsExecution (λ x. is_columnar (datum x)) columnar_tree t from new (Err e) → IsAppending t b old new (Err e)
    not_executed e h = record {
      ok = tt;
      valid = tt;
      refused = λ d k. absurd (none_some (column_refusal b t) d takes k);
      bound = tt;
      within = tt;
      limit = λ l k. let e_same : e ≡ IterationLimit l = cc in let m = h.limit l (λ i. Err (e_same i)) in (m.0 ∙ same, m.1, m.2, m.3);
      err = inr (subst (λ l. (e ≡ IterationLimit l) ⊎ IsStopped t e) same h.err);
      fault = λ k. let e_same : e ≡ Fault = cc in inl (h.fault (λ i. Err (e_same i)));
      told = omega (arith, h.told, same);
      kept = h.kept ∙ same;
    }

    pub not_read : (c : Columnar) (e : VortexError) → IsExecution (λ x. is_columnar (datum x)) columnar_tree t from new (Ok c) → IsUnread (columnar_tree c) e
        → IsAppending t b old new (Err e)
    not_read c e h bad = record {
      ok = tt;
      valid = tt;
      refused = λ d k. absurd (none_some (column_refusal b t) d takes k);
      bound = tt;
      within = tt;
      limit = λ l k. let e_same : e ≡ IterationLimit l = cc in absurd (never bad l e_same);
      err = inr (inr (stopped bad));
      fault = λ k. let e_same : e ≡ Fault = cc in inr (columnar_tree c, h.executed, faulty bad e_same);
      told = omega (arith, h.told, same);
      kept = h.kept ∙ same;
    }
      where
        never : IsUnread (columnar_tree c) e → (l : ℕ) → e ≡ IterationLimit l → ⊥
        never (inl m) l k = cc (sym m ∙ k)
        never (inr m) l k = cc (sym m.0 ∙ k)

        stopped : IsUnread (columnar_tree c) e → (e ≡ OutOfMemory) ⊎ ((e ≡ Fault) × (¬ (IsClean t)))
        stopped (inl m) = inl m
        stopped (inr m) = inr (m.0, λ clean. m.2 (h.ok.keeps.still_clean clean))

        faulty : IsUnread (columnar_tree c) e → e ≡ Fault → ¬ (HasNoFault (read_cells (columnar_tree c)))
        faulty (inl m) k = absurd (cc (sym m ∙ k))
        faulty (inr m) k = m.1

    pub all_appended : (c : Columnar) (d : GrownRows) → IsExecution (λ x. is_columnar (datum x)) columnar_tree t from new (Ok c)
        → d ≡ with_column b (columnar_tree c) → HasNoFault (read_cells (columnar_tree c)) → IsAppending t b old new (Ok d)
    all_appended c d h is clean = record {
      ok = (columnar_tree c, h.executed, h.ok, clean, is);
      valid = takes;
      refused = λ e k. absurd (none_some (column_refusal b t) e takes k);
      bound = h.bound;
      within = (h.within.0, omega (arith, h.within.1, same));
      limit = λ l k. absurd (cc);
      err = tt;
      fault = λ k. absurd (cc);
      told = omega (arith, h.told, same);
      kept = h.kept ∙ same;
    }
