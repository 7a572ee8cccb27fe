use Rattle.std.proofs.Common.{map, sym, subst}
use Rattle.std.proofs.lemmas.Result.{err_from_is_err_and}
use Rattle.vx_tree.specs.Canonicals.{columnar_tree, canonical_tree}
use Rattle.vx_tree.specs.Well.{IsWell}
use Rattle.vx_column.specs.Interleaved.{IsNotInterleaving}
use Rattle.vx_column.proofs.InterleavedLemmas.{pairs_found, pairs_missed}
use Rattle.vx_column.proofs.lookup.interleave.interleave_columns.Goals as goal

pub returns-in_err-column-clause-err : goal.returns-in_err-column-clause-err
returns-in_err-column-clause-err c =
    let arrays = columnar_tree c.args.array_indices.now in
    let places = columnar_tree c.args.row_indices.now in
    let values = map columnar_tree c.args.values.now in
    let well = subst IsWell c.as_array.ensures.of c.well_formed_tree.ensures.formed in
    let wells = subst IsWell c.as_array-2.ensures.of c.well_formed_tree-2.ensures.formed in
    let p = err_from_is_err_and c.from_residual.result c.from_residual.ensures.1 in
    rw p.1 (subst (IsNotInterleaving arrays places values) (sym p.2)
    (pairs_missed arrays places values c.in_err-column.field-0.0 well wells c.requires.pairs.long c.in_err-column.ensures.err))

pub returns-clause-ok : goal.returns-clause-ok
returns-clause-ok c =
    let arrays = columnar_tree c.args.array_indices.now in
    let places = columnar_tree c.args.row_indices.now in
    let values = map columnar_tree c.args.values.now in
    let well = subst IsWell c.as_array.ensures.of c.well_formed_tree.ensures.formed in
    let wells = subst IsWell c.as_array-2.ensures.of c.well_formed_tree-2.ensures.formed in
    let whole = subst IsWell c.as_array-3.ensures.of c.well_formed_tree-3.ensures.formed in
    pairs_found arrays places values (canonical_tree c.in_ok-column.column) well wells whole c.requires.pairs.long c.requires.stored c.in_ok-column.ensures.ok
