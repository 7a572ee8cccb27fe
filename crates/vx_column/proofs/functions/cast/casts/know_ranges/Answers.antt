use Rattle.std.proofs.Common.{◌≡◌, true, sym, ap, ◌∙◌}
use Rattle.vx_value.specs.IsOf.{in_range}
use Rattle.vx_column.specs.Arguments.{integer_in}
use Rattle.vx_column.proofs.CastsLemmas.{below_more}
use Rattle.vx_column.proofs.functions.cast.casts.know_ranges.Goals as goal

pub loop-index-preserved : goal.loop-index-preserved
loop-index-preserved g c =
    let kind = g.T.NativeInteger.kind in
    let i = c.loop-index.index in
    let same = c.row.ensures ∙ ap (λ f. f i) c.operand_of-numbers.ensures.numbers in
    below_more (λ j. in_range kind (integer_in c.args.integers j) ≡ true) i c.loop-index.invariant (ap (in_range kind) (sym same) ∙ c.number_in_range.ensures)
