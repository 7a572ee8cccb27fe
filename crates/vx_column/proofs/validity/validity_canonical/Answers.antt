use Rattle.std.proofs.Common.{sym, subst}
use Rattle.std.proofs.lemmas.Result.{IfOk-weaker}
use Rattle.vx_tree.specs.Tree.{validity_in}
use Rattle.vx_tree.specs.Keeps.{KeepsExactly}
use Rattle.vx_tree.specs.Canonicals.{columnar_tree}
use Rattle.vx_column.proofs.ShownLemmas.{shown_exactly}
use Rattle.vx_column.proofs.validity.validity_canonical.Goals as goal

pub returns-in-Ok-clause-ok : goal.returns-in-Ok-clause-ok
returns-in-Ok-clause-ok c =
    let t = columnar_tree c.args.column.now in
    let shown = shown_exactly t c.in-Ok.bits c.in-Ok.ensures.ok in
    IfOk-weaker c.bool_column.result _ _ (λ u new. subst (KeepsExactly (validity_in t)) (sym new) shown) c.bool_column.ensures.ok
