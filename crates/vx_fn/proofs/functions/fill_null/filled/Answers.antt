use Rattle.std.proofs.Common.{◌≡◌, false, Some, ap, sym, ◌∙◌}
use Rattle.std.proofs.lemmas.Result.{IfOk-weaker}
use Rattle.vx_value.specs.View.{type_of}
use Rattle.vx_value.specs.Cell.{value}
use Rattle.vx_value.specs.IsOf.{is_of, is_null}
use Rattle.vx_value.specs.Fits.{list_overflow}
use Rattle.vx_value.proofs.CastsLemmas.{same_typed}
use Rattle.vx_fn.specs.FillNull.{filled}
use Rattle.vx_fn.proofs.RetypedLemmas.{lists_alike}
use Rattle.vx_fn.proofs.FillNullLemmas.{fill_taken, fill_typed, value_there, filled_there}
use Rattle.vx_fn.proofs.functions.fill_null.filled.Goals as goal

pub retyped-requires-clause-fits : goal.retyped-requires-clause-fits
retyped-requires-clause-fits c =
    let i = c.args.input.now in
    let f = c.args.fill_value.now in
    ap (λ t. list_overflow t i.value) (ap type_of c.in_ok-clone-in-Some.ensures.cases ∙ c.dtype.ensures.dtype)
    ∙ sym (lists_alike i.of_type f.of_type i.value (fill_taken i.of_type f.of_type c.requires)) ∙ c.value.ensures.fits

pub retyped-requires-clause-typed : goal.retyped-requires-clause-typed
retyped-requires-clause-typed c =
    let i = c.args.input.now in
    let f = c.args.fill_value.now in
    let there : is_null i.value ≡ false = ap is_null (sym c.in-Some.ensures.value) ∙ value_there c.in-Some.field-0.now in
    ap (λ t. is_of (type_of t) i.value) c.in_ok-clone-in-Some.ensures.cases ∙ ap (λ t. is_of t i.value) c.dtype.ensures.dtype
    ∙ same_typed i.of_type f.of_type i.value (fill_taken i.of_type f.of_type c.requires) there c.value.ensures.typed

pub returns-in_ok-clone-in-Some-clause-typed : goal.returns-in_ok-clone-in-Some-clause-typed
returns-in_ok-clone-in-Some-clause-typed c =
    let same = ap type_of c.in_ok-clone-in-Some.ensures.cases ∙ c.dtype.ensures.dtype in
    let typed = fill_typed c.args.input.now.of_type c.args.fill_value.now.of_type c.requires in
    IfOk-weaker c.retyped.result _ _ (λ s e. typed ∙ ap Some (sym (ap (λ u. u.of_type) e ∙ same))) c.retyped.ensures.ok

pub returns-in_ok-clone-in-Some-clause-value : goal.returns-in_ok-clone-in-Some-clause-value
returns-in_ok-clone-in-Some-clause-value c =
    let w = c.args.fill_value.now.value in
    let x = c.in-Some.field-0.now in
    IfOk-weaker c.retyped.result _ _ (λ s e. ap (λ v. filled v w) (sym c.in-Some.ensures.value) ∙ filled_there x w
    ∙ ap value c.in-Some.ensures.value ∙ ap (λ u. value u.value) (sym e)) c.retyped.ensures.ok

pub returns-in_ok-clone-in-Some-clause-err : goal.returns-in_ok-clone-in-Some-clause-err
returns-in_ok-clone-in-Some-clause-err c = c.retyped.ensures.err

pub returns-in_ok-clone-in-None-clause-typed : goal.returns-in_ok-clone-in-None-clause-typed
returns-in_ok-clone-in-None-clause-typed c =
    fill_typed c.args.input.now.of_type c.args.fill_value.now.of_type c.requires
    ∙ ap (λ s. Some s.of_type) (sym c.in_ok-clone-in-None.ensures.cases)

pub returns-in_ok-clone-in-None-clause-value : goal.returns-in_ok-clone-in-None-clause-value
returns-in_ok-clone-in-None-clause-value c =
    ap (λ v. filled v c.args.fill_value.now.value) (sym c.in-None.ensures.value) ∙ ap (λ s. value s.value) (sym c.in_ok-clone-in-None.ensures.cases)
