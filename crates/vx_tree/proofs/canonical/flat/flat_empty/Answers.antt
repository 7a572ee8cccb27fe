use Rattle.std.proofs.Common.{[], ◌∷◌, None, sym, subst, ◌∙◌}
use Rattle.std.proofs.lemmas.Result.{IfOk-weaker}
use Rattle.vx_value.specs.View.{type_of}
use Rattle.vx_tree.specs.Tree.{column}
use Rattle.vx_tree.specs.Well.{IsNode}
use Rattle.vx_tree.proofs.FlatLemmas.{no_rows_node, no_rows_column}
use Rattle.vx_tree.proofs.canonical.flat.flat_empty.Goals as goal

pub over-requires-clause-node : goal.over-requires-clause-node
over-requires-clause-node g c =
    subst (λ x. x) (λ i. IsNode (type_of (sym c.in_ok-clone.ensures.cases i)) 0 (sym c.in_ok-payload.ensures.ok i) (None ∷ []))
    (no_rows_node (type_of c.args.dtype.now) c.requires.stored c.requires.unnested)

pub returns-clause-ok : goal.returns-clause-ok
returns-clause-ok g c =
    IfOk-weaker c.over.result _ _ (λ u made. made ∙ (λ i. column (type_of (c.in_ok-clone.ensures.cases i)) 0 (c.in_ok-payload.ensures.ok i) None)
    ∙ no_rows_column (type_of c.args.dtype.now) c.requires.stored c.requires.unnested) c.over.ensures.ok
