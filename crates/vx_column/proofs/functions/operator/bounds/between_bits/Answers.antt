use Rattle.std.proofs.Common.{map, ◌∙◌}
use Rattle.std.proofs.lemmas.Result.{IfOk-weaker}
use Rattle.std.specs.List.{range_with_len}
use Rattle.vx_mask.specs.Operands.{bit_in}
use Rattle.vx_column.specs.ValidRows.{is_valid}
use Rattle.vx_column.specs.Bits.{bit_by}
use Rattle.vx_column.proofs.BetweenLemmas.{words_between}
use Rattle.vx_column.proofs.functions.operator.bounds.between_bits.Goals as goal

pub returns : goal.returns
returns c =
    let n = c.args.len in
    let x = c.args.array in
    let l = c.args.lower in
    let u = c.args.upper in
    let above = c.in_ok-above.ensures ∙ (λ j. map (λ i. bit_by (c.bound_operator.ensures j) (bit_in l i) (bit_in x i)) (range_with_len 0 n)) in
    let below = c.in_ok-below.ensures ∙ (λ j. map (λ i. bit_by (c.bound_operator-2.ensures j) (bit_in x i) (bit_in u i)) (range_with_len 0 n)) in
    IfOk-weaker c.keep_valid.result _ _
    (λ b kept. record {
      made = kept
          ∙ words_between c.args.options x l u (is_valid c.args.valid.now) n c.in_ok-above.above c.in_ok-below.below c.in_ok-bits.bits above below
          c.in_ok-bits.ensures;
    })
    c.keep_valid.ensures
