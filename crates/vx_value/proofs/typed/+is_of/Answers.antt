use Rattle.std.proofs.Common.{false, true, sym, ◌∙◌, arith}
use Rattle.vx_value.proofs.TypedLemmas.{are_at}
use Rattle.vx_value.proofs.typed.+is_of.Goals as goal

pub are_of-returns-then-not-is_of : goal.are_of-returns-then-not-is_of
are_of-returns-then-not-is_of t c =
    let l = c.loop-i in let f = c.index-fields-i in let v = c.index-values-i in
    sym (l.invariant.1 ∙ are_at c.args.fields.now c.args.values.now l.i f.result v.result false (omega arith) (omega arith) v.is c.if-not-is_of.ensures)

pub are_of-loop-i-preserved : goal.are_of-loop-i-preserved
are_of-loop-i-preserved t c =
    let l = c.loop-i in let f = c.index-fields-i in let v = c.index-values-i in
    let e = are_at c.args.fields.now c.args.values.now l.i f.result v.result true (omega arith) (omega arith) v.is c.if-not-is_of.ensures in
    (l.invariant.0, l.invariant.1 ∙ e)
