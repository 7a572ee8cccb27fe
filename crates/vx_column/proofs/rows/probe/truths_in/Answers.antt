use Rattle.std.proofs.Common.{ap, length, replicate, ◌∙◌}
use Rattle.std.proofs.lemmas.List.{length-replicate}
use Rattle.vx_column.proofs.CellsLemmas.{constant_truths}
use Rattle.vx_column.proofs.rows.probe.truths_in.Goals as goal

pub returns-in-Constant-clause-ok : goal.returns-in-Constant-clause-ok
returns-in-Constant-clause-ok c =
    let bit = c.is_true.result in
    constant_truths c.args.array.now c.in-Constant.scalar.now bit c.in_ok-repeat.field-0 c.in-Constant.ensures.0 c.is_true.ensures
    (c.in_ok-repeat.ensures ∙ ap (λ n. replicate n bit) c.len.ensures)

pub returns-in-Constant-clause-sized : goal.returns-in-Constant-clause-sized
returns-in-Constant-clause-sized c =
    ap length c.in_ok-repeat.ensures ∙ length-replicate c.len.result c.is_true.result ∙ c.len.ensures
