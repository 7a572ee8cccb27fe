use Rattle.std.proofs.Common.{false, true, sym, ◌∙◌, arith}
use Rattle.vx_value.proofs.SamesLemmas.{variants_at}
use Rattle.vx_value.proofs.equality.+equality.Goals as goal

pub same_variants-returns-then-not-same_variant : goal.same_variants-returns-then-not-same_variant
same_variants-returns-then-not-same_variant t c =
    let l = c.loop-i in let v = c.index-left-i in let w = c.index-right-i in
    let e = variants_at c.args.left.now c.args.right.now l.i v.result w.result false (omega arith) (omega arith) v.is w.is c.if-not-same_variant.ensures in
    sym (l.invariant.1 ∙ e)

pub same_variants-loop-i-preserved : goal.same_variants-loop-i-preserved
same_variants-loop-i-preserved t c =
    let l = c.loop-i in let v = c.index-left-i in let w = c.index-right-i in
    let e = variants_at c.args.left.now c.args.right.now l.i v.result w.result true (omega arith) (omega arith) v.is w.is c.if-not-same_variant.ensures in
    (l.invariant.0, l.invariant.1 ∙ e)
