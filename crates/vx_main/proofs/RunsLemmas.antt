-- The answer of a run.
use Rattle.std.specs.Prelude.{IfSome, length}
use Rattle.std.proofs.Common.{◌≡◌, ◌⊎◌, inl, inr, ℕ, ◌≤◌, ◌<◌, List, Option, Some, None, true, refl, arith, sym, subst, ◌∙◌}
use Rattle.std.proofs.lemmas.Option.{same_Some}
use Rattle.vx_value.specs.declared.error.SessionKind.{SessionKind}
use Rattle.vx_value.specs.declared.error.VortexError.{VortexError}
use Rattle.vx_value.specs.declared.id.Id.{Id}
use Rattle.vx_value.specs.declared.error.VortexError.TheVariants as error
use Rattle.vx_tree.specs.Tree.{Tree, dtype, datum, id_of}
use Rattle.vx_tree.specs.Cells.{rows, IsClean}
use Rattle.vx_tree.specs.Cost.{cost}
use Rattle.vx_tree.specs.Keeps.{Keeps}
use Rattle.vx_tree.specs.Firm.{KeepsFirmly}
use Rattle.vx_tree.proofs.KeepsLemmas.{keeps_refl}
use Rattle.vx_tree.proofs.ValiditiesLemmas.{whole}
use Rattle.vx_tree.specs.Columns.{IsLawful}
use Rattle.vx_exec.specs.Steps.{IsStopped}
use Rattle.vx_exec.specs.Moves.{IsExecuted, GoesOn}
use Rattle.vx_exec.specs.declared.session.VortexSession.{VortexSession}
use Rattle.vx_rule.specs.declared.handed_in.DynReduceParentRule as rule
use Rattle.vx_json.specs.Spelled.{Spells, SpellsNone}
use Rattle.vx_main.specs.Limits.{input_limit}
use Rattle.vx_main.specs.Streams.{TakesAll}
use Rattle.vx_main.specs.Commands.{limit_of, reads_tree}
use Rattle.vx_json.specs.Output.{Shows, IsUnread}
use Rattle.vx_main.specs.Runs.{Rules, rules_of, Answers, IsSource, IsUnprepared, IsStuck, IsRefused, HasNoAnswer, Owes, Suffices, is_column}
use Rattle.vx_main.specs.Statuses.{status_of, has_no_tree}
use Rattle.vx_main.specs.declared.top.status.Status.{Status}
use Rattle.vx_main.specs.declared.top.status.Status.TheVariants as status
use Rattle.vx_main.specs.declared.top.words.Command.{Command}
use Rattle.vx_main.specs.declared.top.words.Command.TheVariants.{Run, Optimize, Help, Version}

-- a command's source may stand for the tree
pub source_keeps : (c : Command) (r : Rules) (t s : Tree) → IsSource c r t s → Keeps t s
source_keeps (Run limit) r t s e = subst (Keeps t) (sym e) (keeps_refl t)
source_keeps (Optimize limit) r t s e = e.2.rewritten.keeps
source_keeps Help r t s e = absurd e
source_keeps Version r t s e = absurd e

-- a session that is put back is the one that was taken
pub put_back : {X : Type 0} {F : X → Type 0} (counts : (v : X) → rule.Ghosts (F v)) (old taken new : VortexSession X F) (P : Rules → Type 0) → new ≡ taken
    → P (rules_of counts old taken) → P (rules_of counts old new)
put_back counts old taken new P same h = subst (λ s. P (rules_of counts old s)) (sym same) h

-- the column that a command's source is executed to shows the answer for the bytes that spell the tree
pub answers_of : (c : Command) (r : Rules) (bytes text : List ℕ) (turns : ℕ) (t s u : Tree) → Spells bytes t → IsSource c r t s → KeepsFirmly s u
    → IsExecuted is_column s turns u
    → (1 ≤ turns) × (turns ≤ limit_of c) → (is_column s ≡ true → u ≡ s)
    → Shows (dtype u) (id_of (datum u)) (rows u) text → IsLawful (id_of (datum u)) (dtype u) (rows u) → Answers c r bytes text
answers_of c r bytes text turns t s u spelled from k executed within as_it_is shown lawful =
    let kept = source_keeps c r t s from in
    let typed : dtype u ≡ dtype t = sym (kept.same_type ∙ k.keeps.same_type) in
    record {
      tree = t;
      spelled = spelled;
      source = s;
      from = from;
      rows_kept = kept.same_rows;
      column = u;
      turns = turns;
      executed = executed;
      within = within;
      as_it_is = as_it_is;
      column_kept = k.keeps.same_rows;
      exact = k.equal;
      lawful = subst (λ ty. IsLawful (id_of (datum u)) ty (rows u)) typed lawful;
      shown = subst (λ ty. Shows ty (id_of (datum u)) (rows u) text) typed shown;
    }

-- a source that isn't clean comes of a tree that isn't
pub unclean_source : (c : Command) (r : Rules) (t s : Tree) → IsSource c r t s → (IsClean s → ⊥) → IsClean t → ⊥
unclean_source c r t s from h clean = h ((source_keeps c r t s from).still_clean clean)

-- a command that can't prepare the tree has no answer
pub unprepared : (c : Command) (r : Rules) (bytes : List ℕ) (t : Tree) (e : VortexError) → Spells bytes t → IsUnprepared c r t e
    → HasNoAnswer c r bytes (status_of e)
unprepared c r bytes t error.OutOfMemory s h = tt
unprepared c r bytes t (error.RewriteLimit at_root total) s h = record { tree = t; spelled = s; stuck = h.0; heavy = h.1 }
unprepared c r bytes t (error.Refused kind parent child k) s h = record { tree = t; spelled = s; refused = h }
unprepared c r bytes t _ s h = absurd h

-- nor has one whose source faults, or isn't executed within the turns
pub stopped : (c : Command) (r : Rules) (bytes : List ℕ) (t s : Tree) (e : VortexError) → Spells bytes t → IsSource c r t s → IsStopped s e
    → HasNoAnswer c r bytes (status_of e)
stopped c r bytes t s e spelled from (inl m) = subst (λ x. HasNoAnswer c r bytes (status_of x)) (sym m) tt
stopped c r bytes t s e spelled from (inr f) =
    subst (λ x. HasNoAnswer c r bytes (status_of x)) (sym f.0) (record { tree = t; spelled = spelled; unclean = unclean_source c r t s from f.1 })

pub overrun : (c : Command) (r : Rules) (bytes : List ℕ) (t s : Tree) (l : ℕ) → Spells bytes t → IsSource c r t s → l ≡ limit_of c → l < cost s
    → GoesOn is_column s l → HasNoAnswer c r bytes (status_of (error.IterationLimit l))
overrun c r bytes t s l spelled from e above going_on = (
  e,
  e,
  record {
    tree = t;
    spelled = spelled;
    source = s;
    from = from;
    above = omega (arith, e, above);
    going_on = subst (GoesOn is_column s) e going_on;
  },
)

-- one or the other
pub unexecuted : (c : Command) (r : Rules) (bytes : List ℕ) (t s : Tree) (limit : ℕ) (e : VortexError) → Spells bytes t → IsSource c r t s → limit ≡ limit_of c
    → (e ≡ error.IterationLimit limit) ⊎ IsStopped s e → ((l : ℕ) → e ≡ error.IterationLimit l → (l < cost s) × GoesOn is_column s l)
    → HasNoAnswer c r bytes (status_of e)
unexecuted c r bytes t s limit e spelled from is (inl m) h =
    let over = h limit m in
    subst (λ x. HasNoAnswer c r bytes (status_of x)) (sym m) (overrun c r bytes t s limit spelled from is over.0 over.1)
unexecuted c r bytes t s limit e spelled from is (inr m) h = stopped c r bytes t s e spelled from m

-- nor has one whose column can't be printed
pub unprinted : (c : Command) (r : Rules) (bytes : List ℕ) (t s u : Tree) (e : VortexError) → Spells bytes t → IsSource c r t s → KeepsFirmly s u → IsUnread u e
    → HasNoAnswer c r bytes (status_of e)
unprinted c r bytes t s u e spelled from k (inl m) = subst (λ x. HasNoAnswer c r bytes (status_of x)) (sym m) tt
unprinted c r bytes t s u e spelled from k (inr f) =
    stopped c r bytes t s e spelled from (inr (f.0, λ clean. f.1 (whole u (k.keeps.still_clean clean))))

-- where the input and the session suffice, only memory is wanting
pub wanting : (named : Option Command) (c d : Command) (r : Rules) (old new : Option (List ℕ)) (bytes read : List ℕ) (s : Status) → named ≡ Some c → named ≡ Some d
    → reads_tree (Some c) ≡ true → TakesAll old new bytes → read ≡ bytes → HasNoAnswer c r read s → Suffices d r old → (s ≡ status.Done) ⊎ (s ≡ status.Memory)
wanting named c d r old new bytes read s is_c is_d reads taken is_read h enough =
    let same = same_Some d c (sym is_d ∙ is_c) in
    by c old new taken reads (subst (λ bs. HasNoAnswer c r bs s) is_read h) (subst (λ x. Suffices x r old) same enough)
  where
    -- bytes spell one tree at most
    one : (bs : List ℕ) (t u : Tree) → Spells bs t → Spells bs u → t ≡ u
    one bs t u p q = same_Some t u (sym p.1 ∙ q.1)

    of : (c : Command) (bs : List ℕ) (t : Tree) → Spells bs t → IsClean t → ((u : Tree) → IsSource c r t u → cost u ≤ limit_of c)
        → ((at_root total : ℕ) → IsStuck c r t at_root total → ⊥) → ((kind : SessionKind) (p q : Id) (k : ℕ) → IsRefused c r kind p q k → ⊥)
        → (s : Status) → HasNoAnswer c r bs s → (s ≡ status.Done) ⊎ (s ≡ status.Memory)
    of c bs t spelled clean cheap free willing status.Memory h = inr refl
    of c bs t spelled clean cheap free willing status.BadInput h = absurd (h t spelled)
    of c bs t spelled clean cheap free willing status.Fault h = absurd (h.unclean (subst IsClean (one bs t h.tree spelled h.spelled) clean))
    of c bs t spelled clean cheap free willing (status.TurnLimit n turns) h =
        let costly = h.2 in
        let least = cheap costly.source (subst (λ x. IsSource c r x costly.source) (one bs costly.tree t costly.spelled spelled) costly.from) in
        absurd (omega (arith, least, costly.above))
    of c bs t spelled clean cheap free willing (status.RewriteLimit at_root total) h =
        absurd (free at_root total (subst (λ x. IsStuck c r x at_root total) (one bs h.tree t h.spelled spelled) h.stuck))
    of c bs t spelled clean cheap free willing (status.Refused kind p q k) h = absurd (willing kind p q k h.refused)
    of c bs t spelled clean cheap free willing _ h = absurd h

    by : (c : Command) (old new : Option (List ℕ)) → TakesAll old new bytes → reads_tree (Some c) ≡ true → HasNoAnswer c r bytes s → Suffices c r old
        → (s ≡ status.Done) ⊎ (s ≡ status.Memory)
    by Help old new t reads h enough = absurd (cc (reads))
    by Version old new t reads h enough = absurd (cc (reads))
    by (Run limit) None new t reads h enough = absurd enough
    by (Run limit) (Some xs) None t reads h enough = absurd t
    by (Run limit) (Some xs) (Some ys) t reads h enough =
        of (Run limit) xs enough.1 enough.2 enough.3 enough.4 enough.5 enough.6 s (subst (λ bs. HasNoAnswer (Run limit) r bs s) (sym t.0) h)
    by (Optimize limit) None new t reads h enough = absurd enough
    by (Optimize limit) (Some xs) None t reads h enough = absurd t
    by (Optimize limit) (Some xs) (Some ys) t reads h enough =
        of (Optimize limit) xs enough.1 enough.2 enough.3 enough.4 enough.5 enough.6 s (subst (λ bs. HasNoAnswer (Optimize limit) r bs s) (sym t.0) h)

-- the text of an answer for the bytes that were taken of the source is owed, for the command that is named
pub owed : (named : Option Command) (c d : Command) (r : Rules) (old new : Option (List ℕ)) (bytes read text written : List ℕ) → named ≡ Some c → named ≡ Some d
    → reads_tree (Some c) ≡ true → TakesAll old new bytes → read ≡ bytes → Answers c r read text → written ≡ text → Owes d r old written
owed named c d r old new bytes read text written is_c is_d reads taken is_read a is_written =
    let same = same_Some c d (sym is_c ∙ is_d) in
    let answered = subst (λ bs. Answers c r bs text) is_read a in
    subst (λ x. Owes x r old written) same (subst (Owes c r old) (sym is_written) (by c old new taken answered reads))
  where
    by : (c : Command) (old new : Option (List ℕ)) → TakesAll old new bytes → Answers c r bytes text → reads_tree (Some c) ≡ true → Owes c r old text
    by Help old new t a h = absurd (cc (h))
    by Version old new t a h = absurd (cc (h))
    by (Run limit) None new t a h = tt
    by (Run limit) (Some xs) None t a h = absurd t
    by (Run limit) (Some xs) (Some ys) t a h = subst (λ b. Answers (Run limit) r b text) (sym t.0) a
    by (Optimize limit) None new t a h = tt
    by (Optimize limit) (Some xs) None t a h = absurd t
    by (Optimize limit) (Some xs) (Some ys) t a h = subst (λ b. Answers (Optimize limit) r b text) (sym t.0) a

-- bytes that were taken of the source and have an answer spell a tree
pub never_unspelled : (s : Status) (c : Command) (r : Rules) (old new : Option (List ℕ)) (bytes read text : List ℕ) → TakesAll old new bytes → read ≡ bytes
    → Answers c r read text → IfSome old (λ bs. SpellsNone bs → has_no_tree s ≡ true)
never_unspelled s c r None new bytes read text taken is_read a = tt
never_unspelled s c r (Some xs) None bytes read text taken is_read a = absurd taken
never_unspelled s c r (Some xs) (Some ys) bytes read text taken is_read a =
    λ none. absurd (none a.tree (subst (λ bs. Spells bs a.tree) (is_read ∙ sym taken.0) a.spelled))

-- nor do they if they have no answer, unless the status says that there is no tree
pub unspelled : (s : Status) (c : Command) (r : Rules) (old new : Option (List ℕ)) (bytes read : List ℕ) → TakesAll old new bytes → read ≡ bytes
    → HasNoAnswer c r read s → IfSome old (λ bs. SpellsNone bs → has_no_tree s ≡ true)
unspelled s c r None new bytes read taken is_read h = tt
unspelled s c r (Some xs) None bytes read taken is_read h = absurd taken
unspelled s c r (Some xs) (Some ys) bytes read taken is_read h =
    λ none. by s (subst (λ bs. HasNoAnswer c r bs s) (is_read ∙ sym taken.0) h) none
  where
    by : (s : Status) → HasNoAnswer c r xs s → SpellsNone xs → has_no_tree s ≡ true
    by status.Memory h none = refl
    by status.BadInput h none = refl
    by status.Fault h none = absurd (none h.tree h.spelled)
    by (status.TurnLimit n turns) h none = absurd (none h.2.tree h.2.spelled)
    by (status.RewriteLimit at_root total) h none = absurd (none h.tree h.spelled)
    by (status.Refused kind parent child k) h none = absurd (none h.tree h.spelled)
    by _ h none = absurd h

-- what is bad input fits, and spells no tree
pub bad : (s : Status) (c : Command) (r : Rules) (old new : Option (List ℕ)) (bytes read : List ℕ) → TakesAll old new bytes → read ≡ bytes → length bytes ≤ input_limit
    → HasNoAnswer c r read s → s ≡ status.BadInput → IfSome old (λ bs. (length bs ≤ input_limit) × SpellsNone bs)
bad s c r None new bytes read taken is_read fits h is = tt
bad s c r (Some xs) None bytes read taken is_read fits h is = absurd taken
bad s c r (Some xs) (Some ys) bytes read taken is_read fits h is =
    subst (λ bs. (length bs ≤ input_limit) × SpellsNone bs) (sym taken.0)
    (fits, subst (λ bs. HasNoAnswer c r bs status.BadInput) is_read (subst (λ x. HasNoAnswer c r read x) is h))
