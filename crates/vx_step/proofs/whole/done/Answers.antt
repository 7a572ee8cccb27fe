use Rattle.std.proofs.Common.{subst}
use Rattle.vx_tree.specs.Tree.{datum}
use Rattle.vx_tree.specs.Well.{IsWell}
use Rattle.vx_tree.specs.Canonicals.{canonical_tree}
use Rattle.vx_tree.proofs.ColumnsLemmas.{column_known, canonical_columnar}
use Rattle.vx_step.proofs.whole.done.Goals as goal

pub returns-clause-known : goal.returns-clause-known
returns-clause-known c =
    let t = canonical_tree c.args.column in
    column_known t (subst IsWell c.as_array.ensures.of c.well_formed_tree.ensures.formed) (canonical_columnar (datum t) c.as_array.ensures.canonical)
