use Rattle.std.proofs.Common.{◌&&◌, ap, ◌∙◌}
use Rattle.std.proofs.lemmas.Result.{IfOk-weaker}
use Rattle.vx_mask.specs.Operands.{bit_in}
use Rattle.vx_mask.proofs.Lists.{same_below}
use Rattle.vx_tree.specs.Canonicals.{canonical_tree}
use Rattle.vx_column.specs.ValidRows.{is_valid}
use Rattle.vx_column.proofs.NullFunctionsLemmas.{masked}
use Rattle.vx_column.proofs.functions.select.nulls.mask.Goals as goal

pub returns-clause-ok : goal.returns-clause-ok
returns-clause-ok c =
    let a = c.args.input.now in
    let keep = c.in-Bits.keep in
    let made = c.in_ok-bits.ensures ∙ same_below c.args.len _ (λ i. is_valid a.valid i && bit_in keep i)
    (λ i lt. ap (λ v. v && bit_in keep i) (c.as_operand.ensures.bits i)) in
    IfOk-weaker c.stored_column.result _ _
    (λ u h. masked c.args.len a c.args.mask.now c.requires keep c.in_ok-bits.bits (canonical_tree u) c.in-Bits.is made h)
    c.stored_column.ensures.ok
