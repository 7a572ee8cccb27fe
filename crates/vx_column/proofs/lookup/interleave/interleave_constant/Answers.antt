use Rattle.std.proofs.Common.{map}
use Rattle.std.proofs.lemmas.Result.{IfOk-weaker}
use Rattle.vx_tree.specs.Canonicals.{columnar_tree}
use Rattle.vx_tree.specs.Cells.{rows}
use Rattle.vx_column.specs.Interleaved.{first_type}
use Rattle.vx_column.proofs.InterleavedLemmas.{pair_found}
use Rattle.vx_column.proofs.lookup.interleave.interleave_constant.Goals as goal

pub returns-clause-ok : goal.returns-clause-ok
returns-clause-ok c =
    let ts = map columnar_tree c.args.values.now in
    let made = c.in_ok-scalar in
    IfOk-weaker c.constant.result _ _
    (λ u. pair_found (first_type ts) c.args.len (map rows ts) c.args.array.now.value c.args.row.now.value made.scalar (columnar_tree u) c.requires.some
    made.ensures.ok.0 made.ensures.ok.1)
    c.constant.ensures.ok

pub constant-requires : goal.constant-requires
constant-requires c = c.in_ok-scalar.ensures.columns
