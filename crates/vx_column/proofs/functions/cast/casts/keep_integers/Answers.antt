use Rattle.std.proofs.lemmas.Result.{IfOk-weaker}
use Rattle.vx_tree.specs.Canonicals.{canonical_tree}
use Rattle.vx_column.specs.Arguments.{integer_in, ptype_in}
use Rattle.vx_column.proofs.CastsLemmas.{integers_kept}
use Rattle.vx_column.proofs.functions.cast.casts.keep_integers.Goals as goal

pub returns-clause-ok : goal.returns-clause-ok
returns-clause-ok c =
    let zs = c.args.integers in
    IfOk-weaker c.stored_column.result _ _
    (λ u h. (h.0, integers_kept (ptype_in zs) (integer_in zs) c.args.valid.now c.args.len (canonical_tree u) c.know_integers.ensures h.1))
    c.stored_column.ensures.ok
