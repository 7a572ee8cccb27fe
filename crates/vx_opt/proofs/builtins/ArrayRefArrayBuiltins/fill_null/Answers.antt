use Rattle.std.proofs.Common.{◌≡◌, ◌∷◌, [], false, sym, ap, subst, ◌∙◌}
use Rattle.vx_value.specs.Supported.{has_columns}
use Rattle.vx_value.specs.View.{type_of}
use Rattle.vx_fn.specs.declared.function.ScalarFnRef.TheVariants as fn_of
use Rattle.vx_tree.specs.Tree.{len, constant_of}
use Rattle.vx_opt.specs.Builtins.{Calls}
use Rattle.vx_opt.proofs.BuiltinsLemmas.{no_columns_fill}
use Rattle.vx_opt.proofs.builtins.ArrayRefArrayBuiltins.fill_null.Goals as goal

pub returns-then-not-is_nullable-clause-filled : goal.returns-then-not-is_nullable-clause-filled
returns-then-not-is_nullable-clause-filled c = λ nullable. absurd (cc)

pub returns-then-not-is_nullable-clause-cast : goal.returns-then-not-is_nullable-clause-cast
returns-then-not-is_nullable-clause-cast c =
    let typed : type_of c.in_ok-target.target ≡ c.args.fill_value.of_type =
    ap type_of c.in_ok-target.ensures.cases ∙ c.dtype-then-not-is_nullable.ensures.dtype in
    λ _. (c.in_ok-target.target, typed, c.cast_to.ensures)

pub returns-then-not-is_nullable-clause-same : goal.returns-then-not-is_nullable-clause-same
returns-then-not-is_nullable-clause-same c =
    let typed : type_of c.in_ok-target.target ≡ c.args.fill_value.of_type =
    ap type_of c.in_ok-target.ensures.cases ∙ c.dtype-then-not-is_nullable.ensures.dtype in
    λ _ own. c.cast_to.ensures.same (typed ∙ own)

pub returns-then-not-has_columns-clause-filled : goal.returns-then-not-has_columns-clause-filled
returns-then-not-has_columns-clause-filled c =
    let none : has_columns c.args.fill_value.of_type ≡ false =
    sym (ap has_columns c.dtype-2.ensures.dtype) ∙ sym c.has_columns.ensures ∙ c.if-not-has_columns.true in
    λ _. no_columns_fill c.args.self.now c.args.fill_value c.dtype.ensures.columns none

pub returns-clause-filled : goal.returns-clause-filled
returns-clause-filled c =
    let t = c.args.self.now in
    let fill : c.into_array.result ≡ constant_of c.args.fill_value (len t) =
    c.into_array.ensures ∙ c.in_ok-fill.ensures.ok ∙ ap (constant_of c.args.fill_value) c.len.ensures in
    λ _. subst (λ v. Calls fn_of.FillNull (t ∷ v ∷ []) (len t) c.call_of_two.result) fill c.call_of_two.ensures

pub returns-clause-cast : goal.returns-clause-cast
returns-clause-cast c = λ fixed. absurd (cc)

pub returns-clause-same : goal.returns-clause-same
returns-clause-same c = λ fixed own. absurd (cc)
