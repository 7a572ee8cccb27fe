use Rattle.std.proofs.Common.{sym, subst}
use Rattle.std.proofs.lemmas.Result.{err_from_is_err_and}
use Rattle.vx_tree.specs.Canonicals.{columnar_tree, canonical_tree}
use Rattle.vx_tree.specs.Cells.{rows}
use Rattle.vx_tree.specs.Well.{IsWell}
use Rattle.vx_column.specs.LookedUp.{AreNotTaken, AreNamedRows, named_cells, IsNotLookedUp}
use Rattle.vx_column.proofs.LookedUpLemmas.{code_unread, code_missed, named_missed, named_found}
use Rattle.vx_column.proofs.lookup.take.take_column.Goals as goal

pub returns-in_err-codes-clause-err : goal.returns-in_err-codes-clause-err
returns-in_err-codes-clause-err c =
    let codes = columnar_tree c.args.codes.now in
    let values = columnar_tree c.args.values.now in
    let p = err_from_is_err_and c.from_residual.result c.from_residual.ensures.1 in
    rw p.1 (subst (AreNotTaken codes values) (sym p.2) (code_unread codes (rows values) c.in_err-codes.field-0.0 c.in_err-codes.ensures.err))

pub returns-in_err-places-clause-err : goal.returns-in_err-places-clause-err
returns-in_err-places-clause-err c =
    let codes = c.args.codes.now in
    let values = c.args.values.now in
    let p = err_from_is_err_and c.from_residual-in_err-places.result c.from_residual-in_err-places.ensures.1 in
    let well = subst IsWell c.as_array.ensures.of c.well_formed_tree.ensures.formed in
    let whole = subst IsWell c.as_array-2.ensures.of c.well_formed_tree-2.ensures.formed in
    rw p.1 (subst (AreNotTaken (columnar_tree codes) (columnar_tree values)) (sym p.2)
    (code_missed codes values c.in_ok-codes.codes c.len.result c.len-len.result well c.in_ok-codes.ensures.ok c.len-len.ensures c.in_err-places.field-0.0 whole
    c.requires.integers c.len.ensures c.in_err-places.ensures.err))

pub returns-in_err-column-clause-err : goal.returns-in_err-column-clause-err
returns-in_err-column-clause-err c =
    let codes = c.args.codes.now in
    let values = c.args.values.now in
    let p = err_from_is_err_and c.from_residual-in_err-column.result c.from_residual-in_err-column.ensures.1 in
    let well = subst IsWell c.as_array.ensures.of c.well_formed_tree.ensures.formed in
    let named = c.in_ok-places.ensures.ok in
    rw p.1 (subst (AreNotTaken (columnar_tree codes) (columnar_tree values)) (sym p.2)
    (named_missed codes values c.in_ok-codes.codes c.len.result c.len-len.result well c.in_ok-codes.ensures.ok c.len-len.ensures c.in_ok-places.places.items
    c.in_err-column.field-0.0 named
    (subst (λ x. IsNotLookedUp (named_cells c.in_ok-codes.codes.valid x (rows (columnar_tree values)) c.len-len.result) c.in_err-column.field-0.0)
    c.as_slice.ensures.value c.in_err-column.ensures.err)))

pub returns-clause-ok : goal.returns-clause-ok
returns-clause-ok c =
    let codes = c.args.codes.now in
    let values = c.args.values.now in
    let well = subst IsWell c.as_array.ensures.of c.well_formed_tree.ensures.formed in
    let whole = subst IsWell c.as_array-3.ensures.of c.well_formed_tree-3.ensures.formed in
    named_found codes values c.in_ok-codes.codes c.len.result c.len-len.result well c.in_ok-codes.ensures.ok c.len-len.ensures c.in_ok-places.places.items
    (canonical_tree c.in_ok-column.column) whole c.in_ok-places.ensures.ok c.requires.stored
    (subst (λ x. AreNamedRows c.in_ok-codes.codes.valid x (columnar_tree values) c.len-len.result (canonical_tree c.in_ok-column.column)) c.as_slice.ensures.value
    c.in_ok-column.ensures.ok)
