use Rattle.std.proofs.Common.{ap, ◌∙◌}
use Rattle.std.proofs.lemmas.Result.{IfOk-weaker}
use Rattle.vx_mask.specs.Operands.{bit_in}
use Rattle.vx_mask.proofs.Lists.{same_below}
use Rattle.vx_column.specs.Truths.{row_over}
use Rattle.vx_column.proofs.LogicLemmas.{logic_taken, over_joined}
use Rattle.vx_column.proofs.functions.operator.logic.join_over.Goals as goal

pub operate_bits-requires-clause-taken : goal.operate_bits-requires-clause-taken
operate_bits-requires-clause-taken g c = logic_taken c.args.operator c.requires.logical

pub returns : goal.returns
returns g c =
    let n = c.args.len in
    let f = g.N.BitOperation.bit in
    let l = c.args.lhs in
    let r = c.args.rhs in
    let left = c.in_ok-first.ensures ∙ same_below n _ (row_over f l) (λ i lt. ap (λ v. f v (bit_in l.bits i)) (c.as_operand.ensures.bits i)) in
    let right = c.in_ok-second.ensures ∙ same_below n _ (row_over f r) (λ i lt. ap (λ v. f v (bit_in r.bits i)) (c.as_operand-2.ensures.bits i)) in
    IfOk-weaker c.operate_bits.result _ _
    (λ b made. over_joined c.args.operator c.requires.logical l r n f c.in_ok-first.first c.in_ok-second.second b left right made)
    c.operate_bits.ensures
