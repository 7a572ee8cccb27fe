use Rattle.std.proofs.Common.{rules, ◌≡◌, ◌∙◌, Some, ap, inl, inr, true, subst}
use Rattle.std.specs.Prelude.{is_some}
use Rattle.vx_value.specs.Supported.{has_columns}
use Rattle.vx_tree.specs.Tree.{dtype, len, datum, slots_of}
use Rattle.vx_rule.specs.Tags.{applies}
use Rattle.vx_rule.specs.Constants.{constant_values, folds}
use Rattle.vx_rule.proofs.ConstantsLemmas.{folded_type, folded_same, folded_value, folded_none, folded_quiet, fit_folded}
use Rattle.vx_rule.proofs.encodings.constant.fold_constants.Goals as goal

pub apply_row-requires : goal.apply_row-requires
apply_row-requires c =
    let t = c.args.parent.now in
    let p = c.function_parts in
    let vs : constant_values (slots_of p.result.1.now) ≡ Some c.as_slice.result.now = search rules in
    ap is_some
    (folded_type (dtype t) (len t) p.result.0.now (slots_of p.result.1.now) t c.as_slice.result.now p.ensures.well p.ensures.shape p.ensures.node vs)

pub new_unchecked-requires : goal.new_unchecked-requires
new_unchecked-requires c =
    let t = c.args.parent.now in
    let p = c.function_parts in
    let vs : constant_values (slots_of p.result.1.now) ≡ Some c.as_slice.result.now = search rules in
    let same = folded_same (dtype t) (len t) p.result.0.now (slots_of p.result.1.now) t c.as_slice.result.now p.ensures.well p.ensures.shape
    p.ensures.node vs c.in-Ok.scalar c.in-Ok.ensures.typed in
    ap has_columns same ∙ c.well_formed_tree.ensures.supported

pub returns-in-Ok : goal.returns-in-Ok
returns-in-Ok c =
    let t = c.args.parent.now in
    let p = c.function_parts in
    let f = p.result.0.now in
    let ss = slots_of p.result.1.now in
    let u = c.into_array.result in
    let vs : constant_values ss ≡ Some c.as_slice.result.now = search rules in
    let folded = folded_value (dtype t) (len t) f ss t c.as_slice.result.now p.ensures.well p.ensures.shape p.ensures.node vs c.in-Ok.scalar u
    c.in-Ok.ensures.typed c.in-Ok.ensures.ok (search rules) in
    fit_folded (dtype t) (len t) f ss t c.done.result.tree u c.done.result.optimize.items p.ensures.well p.ensures.shape p.ensures.node
    (subst (λ x. applies folds (datum x) ≡ true) p.ensures.shape c.requires) folded c.done.ensures.tree c.done.ensures.optimize

pub returns-in-Err-Fault : goal.returns-in-Err-Fault
returns-in-Err-Fault c =
    let t = c.args.parent.now in
    let p = c.function_parts in
    let f = p.result.0.now in
    let ss = slots_of p.result.1.now in
    let vs : constant_values ss ≡ Some c.as_slice.result.now = search rules in
    let none = folded_none (dtype t) (len t) f ss t c.as_slice.result.now p.ensures.well p.ensures.shape p.ensures.node vs
    (elim c.in-Err-Fault.ensures.fault [
      | inl memory ↦ absurd (cc (memory, c.in-Err-Fault.field-0-is))
      | inr failed ↦ failed.1
    ]) in
    folded_quiet (dtype t) (len t) f ss t p.ensures.shape (subst (λ x. applies folds (datum x) ≡ true) p.ensures.shape c.requires) none
