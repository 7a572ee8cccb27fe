use Rattle.vx_column.proofs.ComparisonLemmas.{kept_more}
use Rattle.vx_column.proofs.functions.operator.checks.check_valid.Goals as goal

pub loop-index-preserved : goal.loop-index-preserved
loop-index-preserved g c =
    rw c.in_ok-push.ensures.ok
    (kept_more (g.C.RowCheck.answer c.args.check) c.args.valid.now c.loop-index.bits c.loop-index.index c.check_unless_null.result
    c.value-is_valid.result c.value-is_valid.ensures c.check_unless_null.ensures c.loop-index.invariant)
