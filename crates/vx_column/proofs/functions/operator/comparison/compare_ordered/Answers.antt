use Rattle.std.proofs.lemmas.Result.{IfOk-weaker}
use Rattle.vx_tree.specs.Canonicals.{canonical_tree}
use Rattle.vx_column.proofs.ComparisonLemmas.{compared_made}
use Rattle.vx_column.proofs.functions.operator.comparison.compare_ordered.Goals as goal

pub returns-clause-ok : goal.returns-clause-ok
returns-clause-ok g c =
    let value = g.R.OrderedRows.row_value in
    IfOk-weaker c.valid_bools.result _ _
    (λ t made. (
      made.0,
      compared_made c.args.operator c.args.valid.now (value c.args.left) (value c.args.right) c.args.len c.in_ok-bits.bits (canonical_tree t)
          c.in_ok-bits.ensures made.1,
    ))
    c.valid_bools.ensures.ok
