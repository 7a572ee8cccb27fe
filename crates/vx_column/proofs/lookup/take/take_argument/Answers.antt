use Rattle.std.proofs.lemmas.Result.{IfOk-weaker}
use Rattle.vx_tree.specs.Canonicals.{canonical_tree}
use Rattle.vx_column.proofs.LookedUpLemmas.{argument_gathered}
use Rattle.vx_column.proofs.lookup.take.take_argument.Goals as goal

pub returns-clause-ok : goal.returns-clause-ok
returns-clause-ok c =
    let valid = c.in_ok-valid in
    IfOk-weaker c.gather.result _ _
    (λ u. argument_gathered c.args.valid.now valid.valid c.args.values.now c.args.places.now c.args.len (canonical_tree u) valid.ensures.rows
    valid.ensures.nullability)
    c.gather.ensures.ok
