use Rattle.std.proofs.lemmas.Result.{IfOk-weaker}
use Rattle.vx_tree.specs.Canonicals.{canonical_tree}
use Rattle.vx_column.proofs.LogicLemmas.{nullable_joined}
use Rattle.vx_column.proofs.functions.operator.logic.join_nullable.Goals as goal

pub returns-clause-ok : goal.returns-clause-ok
returns-clause-ok c =
    IfOk-weaker c.valid_bools.result _ _
    (λ u made. nullable_joined c.args.operator c.requires.logical c.args.lhs c.args.rhs c.args.len c.in_ok-sure.sure c.in_ok-possible.possible
    c.in_ok-known.known
    (canonical_tree u) c.requires.nullable c.in_ok-sure.ensures c.in_ok-possible.ensures c.in_ok-known.ensures made.0 made.1)
    c.valid_bools.ensures.ok
