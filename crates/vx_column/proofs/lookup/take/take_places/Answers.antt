use Rattle.std.proofs.lemmas.Result.{IfOk-weaker}
use Rattle.vx_tree.specs.Canonicals.{canonical_tree}
use Rattle.vx_column.proofs.LookedUpLemmas.{rows_named}
use Rattle.vx_column.proofs.lookup.take.take_places.Goals as goal

pub returns-in-Ok-clause-ok : goal.returns-in-Ok-clause-ok
returns-in-Ok-clause-ok c =
    let values = c.args.values.now in
    let shown = rw c.in-Ok.is at c.argument_of.ensures.ok in
    IfOk-weaker c.take_argument.result _ _
    (λ u. rows_named values c.in-Ok.argument c.args.valid.now c.args.places.now c.args.len (canonical_tree u) shown c.requires.within)
    c.take_argument.ensures.ok
