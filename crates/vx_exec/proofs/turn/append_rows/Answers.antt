use Rattle.std.proofs.Common.{◌≡◌, true, subst}
use Rattle.vx_value.specs.Supported.{has_columns}
use Rattle.vx_tree.specs.Canonicals.{columnar_tree}
use Rattle.vx_tree.specs.Tree.{dtype}
use Rattle.vx_tree.specs.Well.{IsWell}
use Rattle.vx_exec.proofs.ReadLemmas.{unread}
use Rattle.vx_exec.proofs.turn.append_rows.Goals as goal

pub returns-in-Err-clause-err : goal.returns-in-Err-clause-err
returns-in-Err-clause-err c =
    let u = columnar_tree c.args.column.now in
    let well = subst IsWell c.as_array.ensures.of c.well_formed_tree.ensures.formed in
    let columns = subst (λ t. has_columns (dtype t) ≡ true) c.as_array.ensures.of c.well_formed_tree.ensures.supported in
    unread c.args.builder u c.requires well columns c.in-Err.e c.in-Err.ensures.refused
