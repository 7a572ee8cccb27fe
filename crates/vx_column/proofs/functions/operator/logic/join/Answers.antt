use Rattle.std.proofs.lemmas.Result.{IfOk-weaker}
use Rattle.vx_tree.specs.Canonicals.{canonical_tree}
use Rattle.vx_column.proofs.LogicLemmas.{logic_taken, plain_joined}
use Rattle.vx_column.proofs.functions.operator.logic.join.Goals as goal

pub operate_bits-requires-clause-taken : goal.operate_bits-requires-clause-taken
operate_bits-requires-clause-taken c = logic_taken c.args.operator c.requires.logical

pub returns-in_ok-bits-in-All-All-clause-ok : goal.returns-in_ok-bits-in-All-All-clause-ok
returns-in_ok-bits-in-All-All-clause-ok c =
    let union_is = c.union.ensures in
    IfOk-weaker c.valid_bools.result _ _
    (λ u made. plain_joined c.args.operator c.requires.logical c.args.lhs c.args.rhs c.args.len c.in-All-All.first c.in-All-All.second
    c.union.result c.in_ok-bits-in-All-All.bits
    (canonical_tree u) c.in-All-All.is-0 c.in-All-All.is-1 c.in_ok-bits-in-All-All.ensures union_is made)
    c.valid_bools.ensures.ok
