use Rattle.std.proofs.Common.{◌≡◌, rules, true, Some, None, ap, sym, ◌∙◌}
use Rattle.std.proofs.lemmas.Result.{IfOk-weaker}
use Rattle.vx_value.specs.Types.{nullability_of}
use Rattle.vx_value.specs.Nullabilities.{with_nullability, union}
use Rattle.vx_value.specs.IsOf.{is_of}
use Rattle.vx_value.specs.Fits.{list_overflow}
use Rattle.vx_value.specs.View.{type_of}
use Rattle.vx_value.proofs.NullabilitiesLemmas.{first_typed, second_typed, fits_either}
use Rattle.vx_fn.proofs.RetypedLemmas.{lists_alike}
use Rattle.vx_fn.proofs.ZipLemmas.{zip_taken}
use Rattle.vx_fn.proofs.functions.zip.zipped.Goals as goal
use Rattle.vx_fn.proofs.functions.zip.zipped.Goals.{In_ok-dtype, in-Some-true, in_default, in_default-2}

-- the result's type
typed : (c : In_ok-dtype) → let s = c.args.if_true.now.of_type in
    type_of c.in_ok-dtype.dtype ≡ with_nullability (union (nullability_of s) (nullability_of c.args.if_false.now.of_type)) s
typed c =
    let s = c.dtype.ensures.dtype in
    c.in_ok-dtype.ensures.ok
    ∙ (λ i. with_nullability (union (nullability_of (s i)) ((c.nullability.ensures ∙ ap nullability_of c.dtype-2.ensures.dtype) i)) (s i))

pub retyped-requires-clause-fits : goal.retyped-requires-clause-fits
retyped-requires-clause-fits c =
    let s = c.args.if_true.now in
    let t = c.args.if_false.now in
    let n = union (nullability_of s.of_type) (nullability_of t.of_type) in
    let taken = zip_taken s.of_type t.of_type c.args.choice.now.of_type c.requires in
    let of_second : list_overflow s.of_type t.value ≡ None = lists_alike s.of_type t.of_type t.value taken.0 ∙ c.dtype-2.ensures.fits in
    ap (λ u. list_overflow u c.match-as_bool.chosen.now.value) (typed (goal.at.retyped-requires-clause-fits c).In_ok-dtype)
    ∙ fits_either n s.of_type c.match-as_bool.chosen.now.value
    ∙ elim c.match-as_bool.branch [
      | in-Some-true w ↦ ap (λ b. list_overflow s.of_type b.now.value) w.chosen-is ∙ c.dtype.ensures.fits
      | in_default w ↦ ap (λ b. list_overflow s.of_type b.now.value) w.chosen-is ∙ of_second
      | in_default-2 w ↦ ap (λ b. list_overflow s.of_type b.now.value) w.chosen-is ∙ of_second
    ]

pub retyped-requires-clause-typed : goal.retyped-requires-clause-typed
retyped-requires-clause-typed c =
    let s = c.args.if_true.now in
    let t = c.args.if_false.now in
    let both = with_nullability (union (nullability_of s.of_type) (nullability_of t.of_type)) s.of_type in
    let taken = zip_taken s.of_type t.of_type c.args.choice.now.of_type c.requires in
    let of_second : is_of both t.value ≡ true = second_typed s.of_type t.of_type t.value taken.0 c.dtype-2.ensures.typed in
    ap (λ u. is_of u c.match-as_bool.chosen.now.value) (typed (goal.at.retyped-requires-clause-typed c).In_ok-dtype)
    ∙ elim c.match-as_bool.branch [
      | in-Some-true w ↦ ap (λ b. is_of both b.now.value) w.chosen-is ∙ first_typed s.of_type t.of_type s.value c.dtype.ensures.typed
      | in_default w ↦ ap (λ b. is_of both b.now.value) w.chosen-is ∙ of_second
      | in_default-2 w ↦ ap (λ b. is_of both b.now.value) w.chosen-is ∙ of_second
    ]

pub returns-clause-typed : goal.returns-clause-typed
returns-clause-typed c =
    let taken = zip_taken c.args.if_true.now.of_type c.args.if_false.now.of_type c.args.choice.now.of_type c.requires in
    let same = typed (goal.at.returns-clause-typed c).In_ok-dtype in
    IfOk-weaker c.retyped.result _ _ (λ s e. taken.1 ∙ ap Some (sym (ap (λ u. u.of_type) e ∙ same))) c.retyped.ensures.ok

pub returns-clause-value : goal.returns-clause-value
returns-clause-value c = search rules

pub returns-clause-err : goal.returns-clause-err
returns-clause-err c = c.retyped.ensures.err
