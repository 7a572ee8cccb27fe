use Rattle.std.proofs.Common.{◌∙◌, map, sym, subst}
use Rattle.std.proofs.lemmas.Result.{err_from_is_err_and}
use Rattle.vx_tree.specs.Canonicals.{columnar_tree}
use Rattle.vx_tree.specs.Tree.{len}
use Rattle.vx_column.specs.Interleaved.{pair_cells}
use Rattle.vx_column.specs.LookedUp.{IsNotLookedUp}
use Rattle.vx_column.proofs.InterleavedLemmas.{first_unread, second_unread, pair_read, pair_unread}
use Rattle.vx_column.proofs.lookup.interleave.row_at.Goals as goal

pub returns-in_err-array-clause-err : goal.returns-in_err-array-clause-err
returns-in_err-array-clause-err c =
    let arrays = columnar_tree c.args.array_indices.now in
    let places = columnar_tree c.args.row_indices.now in
    let values = map columnar_tree c.args.values.now in
    let i = c.args.index in
    let p = err_from_is_err_and c.from_residual.result c.from_residual.ensures.1 in
    rw p.1 (subst (IsNotLookedUp (pair_cells arrays places values (len arrays))) (sym p.2)
    (first_unread arrays places values c.as_array.result.now i c.in_err-array.field-0.0 c.requires.index c.as_array.ensures.of c.in_err-array.ensures.err))

pub returns-in_err-row-clause-err : goal.returns-in_err-row-clause-err
returns-in_err-row-clause-err c =
    let arrays = columnar_tree c.args.array_indices.now in
    let places = columnar_tree c.args.row_indices.now in
    let values = map columnar_tree c.args.values.now in
    let i = c.args.index in
    let p = err_from_is_err_and c.from_residual-in_err-row.result c.from_residual-in_err-row.ensures.1 in
    rw p.1 (subst (IsNotLookedUp (pair_cells arrays places values (len arrays))) (sym p.2)
    (second_unread arrays places values c.as_array-2.result.now i c.in_err-row.field-0.0 c.requires.index c.as_array-2.ensures.of c.requires.pairs.long c.in_err-row.ensures.err))

pub returns-in_err-scalar-clause-err : goal.returns-in_err-scalar-clause-err
returns-in_err-scalar-clause-err c =
    let arrays = columnar_tree c.args.array_indices.now in
    let places = columnar_tree c.args.row_indices.now in
    let values = map columnar_tree c.args.values.now in
    let i = c.args.index in
    let array = c.in_ok-array in
    let row = c.in_ok-row in
    let p = err_from_is_err_and c.from_residual-in_err-scalar.result c.from_residual-in_err-scalar.ensures.1 in
    rw p.1 (subst (IsNotLookedUp (pair_cells arrays places values (len arrays))) (sym p.2)
    (pair_unread arrays places values c.as_array.result.now c.as_array-2.result.now i array.array row.row c.in_err-scalar.field-0.0 c.requires.index c.as_array.ensures.of
    c.as_array-2.ensures.of array.ensures.ok.0 row.ensures.ok.0 c.in_err-scalar.ensures.err))

pub returns-clause-ok : goal.returns-clause-ok
returns-clause-ok c =
    let arrays = columnar_tree c.args.array_indices.now in
    let places = columnar_tree c.args.row_indices.now in
    let values = map columnar_tree c.args.values.now in
    let array = c.in_ok-array in
    let row = c.in_ok-row in
    pair_read arrays places values c.as_array.result.now c.as_array-2.result.now c.args.index array.array.value row.row.value c.as_array.ensures.of
    c.as_array-2.ensures.of array.ensures.ok.0 row.ensures.ok.0 ∙ c.in_ok-scalar.ensures.ok.0

pub returns-clause-typed : goal.returns-clause-typed
returns-clause-typed c = c.in_ok-scalar.ensures.ok.1
