use Rattle.std.proofs.Common.{true, refl, ap, ◌∙◌}
use Rattle.std.proofs.Math.Bool.{not}
use Rattle.std.specs.Ordering.{bool_cmp, is_ne}
use Rattle.std.proofs.lemmas.Result.{IfOk-weaker}
use Rattle.vx_value.specs.Values.{boolean}
use Rattle.vx_value.specs.Cell.{value}
use Rattle.vx_mask.proofs.Lists.{same_below}
use Rattle.vx_mask.proofs.Operations.{differs_from_true}
use Rattle.vx_fn.specs.declared.function.ScalarFnRef.TheVariants.{IsNull}
use Rattle.vx_tree.specs.Canonicals.{canonical_tree}
use Rattle.vx_column.specs.ValidRows.{is_valid}
use Rattle.vx_column.proofs.NullFunctionsLemmas.{tested}
use Rattle.vx_column.proofs.functions.select.nulls.is_null.Goals as goal

pub returns-clause-ok : goal.returns-clause-ok
returns-clause-ok c =
    let a = c.args.input.now in
    let made = c.in_ok-bits.ensures ∙ same_below c.args.len _ (λ i. not (is_valid a.valid i))
    (λ i lt. ap (λ v. is_ne (bool_cmp v true)) (c.as_operand-valid.ensures.bits i) ∙ differs_from_true (is_valid a.valid i)) in
    IfOk-weaker c.valid_bools.result _ _
    (λ u h. tested IsNull not (λ s. refl) (λ s ty. refl) (λ s ty x k. ap (λ b. value (boolean b)) k) a c.args.len c.in_ok-bits.bits
    (canonical_tree u) c.requires made h)
    c.valid_bools.ensures.ok
