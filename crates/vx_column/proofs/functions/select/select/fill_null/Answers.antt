use Rattle.std.proofs.lemmas.Result.{IfOk-weaker}
use Rattle.vx_tree.specs.Canonicals.{canonical_tree}
use Rattle.vx_column.proofs.SelectLemmas.{fill_same, fill_computed}
use Rattle.vx_column.proofs.functions.select.select.fill_null.Goals as goal

pub select-requires-clause-same : goal.select-requires-clause-same
select-requires-clause-same c = fill_same c.args.len c.args.input.now c.args.fill_value.now c.requires

pub returns-clause-ok : goal.returns-clause-ok
returns-clause-ok c =
    IfOk-weaker c.select.result _ _
    (λ u h. fill_computed c.args.len c.args.input.now c.args.fill_value.now c.requires c.as_operand.result
    (canonical_tree u) c.as_operand.ensures.bits h)
    c.select.ensures.ok
