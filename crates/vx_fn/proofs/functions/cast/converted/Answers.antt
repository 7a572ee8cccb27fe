use Rattle.std.proofs.Common.{◌≡◌, ◌⊎◌, inl, inr, Some, Ok, Err, ap, sym, ◌∙◌}
use Rattle.std.proofs.lemmas.Bool.{false≢true}
use Rattle.std.proofs.lemmas.Option.{same_Some}
use Rattle.std.proofs.lemmas.Result.{IfOk-weaker, IfErr-weaker}
use Rattle.std.specs.Prelude.{Result, IfErr}
use Rattle.vx_value.specs.Types.{DataType}
use Rattle.vx_value.specs.Cell.{value, fault}
use Rattle.vx_value.specs.View.{type_of}
use Rattle.vx_value.specs.declared.error.VortexError.{VortexError}
use Rattle.vx_value.specs.declared.error.VortexError.TheVariants as error
use Rattle.vx_value.specs.Casts.{cast_to, cast_value}
use Rattle.vx_value.proofs.CastsLemmas.{cast_by_target}
use Rattle.vx_fn.specs.Cast.{cast_type}
use Rattle.vx_fn.proofs.CastLemmas.{cast_taken, by_result}
use Rattle.vx_fn.proofs.functions.cast.converted.Goals as goal
use Rattle.vx_fn.proofs.functions.cast.converted.Goals.{After-cast}

-- the cast is the one to the target
by_target : (c : After-cast) → let i = c.args.input.now in
    let t = type_of c.args.target.now in cast_value i.of_type t i.value ≡ cast_to t i.value
by_target c =
    let i = c.args.input.now in
    let t = type_of c.args.target.now in
    cast_by_target i.of_type t i.value c.cast.ensures.typed c.cast.ensures.fits (cast_taken t i.of_type c.requires).0

pub returns-clause-typed : goal.returns-clause-typed
returns-clause-typed c =
    let taken = cast_taken (type_of c.args.target.now) c.args.input.now.of_type c.requires in
    IfOk-weaker c.cast.result _ _ (λ s e. taken.1 ∙ ap Some (sym e.0)) c.cast.ensures.ok

pub returns-clause-ok : goal.returns-clause-ok
returns-clause-ok c =
    let v = c.args.input.now.value in
    let t = type_of c.args.target.now in
    IfOk-weaker c.cast.result _ _ (λ s e. by_result s.of_type t v _ (value s.value) e.0 (by_target c) e.1) c.cast.ensures.ok

-- a row that isn't refused is short of memory, or faults
not_refused : {T : Type 0} (r : Result T VortexError) (refused : VortexError) (P : VortexError → Type 0) → ¬ (r ≡ Err refused)
    → IfErr r (λ e. (e ≡ error.OutOfMemory) ⊎ (e ≡ refused) ⊎ P e)
    → IfErr r (λ e. (e ≡ error.OutOfMemory) ⊎ P e)
not_refused (Ok x) refused P taken h = tt
not_refused (Err e) refused P taken (inl memory) = inl memory
not_refused (Err e) refused P taken (inr (inl f)) = absurd (taken (ap Err f))
not_refused (Err e) refused P taken (inr (inr p)) = inr p

pub returns-clause-fault : goal.returns-clause-fault
returns-clause-fault c =
    let v = c.args.input.now.value in
    let taken = cast_taken (type_of c.args.target.now) c.args.input.now.of_type c.requires in
    let faults = not_refused c.cast.result _ _ (λ e. false≢true (sym (c.cast.ensures.no_row.0 e) ∙ taken.0)) c.cast.ensures.err in
    IfErr-weaker c.cast.result _ _ (λ e h. elim h as (λ _. (e ≡ error.OutOfMemory) ⊎ ((e ≡ error.Fault) × ((t : DataType)
    → cast_type (type_of c.args.target.now) c.args.input.now.of_type ≡ Some t → cast_to t v ≡ fault))) [
      | inl memory ↦ inl memory
      | inr f ↦ inr (f.0, λ t known. by_result t (type_of c.args.target.now) v _ fault (same_Some _ _ (sym known ∙ taken.1)) (by_target c) f.2)
    ]) faults
