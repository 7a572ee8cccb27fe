use Rattle.std.proofs.Common.{◌∙◌, ap, sym, subst, map}
use Rattle.std.proofs.lemmas.Result.{IfErr-weaker}
use Rattle.vx_fn.specs.ReturnTypes.{return_type}
use Rattle.vx_tree.specs.Tree.{dtype, datum}
use Rattle.vx_tree.specs.Cells.{rows, HasNoFault}
use Rattle.vx_tree.specs.Well.{IsWell}
use Rattle.vx_column.specs.Arguments.{types_of_scalars, cells_of_scalars}
use Rattle.vx_column.specs.Computed.{IsResult}
use Rattle.vx_tree.specs.Canonicals.{canonical_tree, columnar_tree}
use Rattle.vx_tree.proofs.ColumnsLemmas.{canonical_open}
use Rattle.vx_column.proofs.CellsLemmas.{IfOk-both}
use Rattle.vx_column.proofs.AppliedLemmas.{taken, applied, unapplied, all_repeat}
use Rattle.vx_column.proofs.FormedLemmas.{constant_formed}
use Rattle.vx_column.proofs.WholeLemmas.{canonical_told}
use Rattle.vx_column.proofs.CallsLemmas.{scalar_rows}
use Rattle.vx_column.proofs.RowByRowLemmas.{own_rows}
use Rattle.vx_column.proofs.functions.apply.apply.apply_fn.Goals as goal

pub apply_constants-requires-clause-taken : goal.apply_constants-requires-clause-taken
apply_constants-requires-clause-taken c =
    let all = rw c.in-Some.is at c.in_ok-scalars.ensures.all in
    let rows = scalar_rows c.args.function.now c.args.len c.args.arguments.now c.in-Some.scalars.items c.requires.call all in
    rw c.as_slice.ensures.value (taken c.args.function.now rows c.requires.call)

pub apply_constants-requires-clause-columns : goal.apply_constants-requires-clause-columns
apply_constants-requires-clause-columns c =
    let f = c.args.function.now in
    let all = rw c.in-Some.is at c.in_ok-scalars.ensures.all in
    let rows = scalar_rows f c.args.len c.args.arguments.now c.in-Some.scalars.items c.requires.call all in
    rw c.as_slice.ensures.value (λ ty typed. c.requires.columns ty (ap (return_type f) rows.types ∙ typed))

pub returns-in-Some-clause-ok : goal.returns-in-Some-clause-ok
returns-in-Some-clause-ok c =
    let n = c.args.len in
    let xs = c.args.arguments.now in
    let ss = c.in-Some.scalars.items in
    let all = rw c.in-Some.is at c.in_ok-scalars.ensures.all in
    let some = rw c.in-Some.is at c.in_ok-scalars.ensures.some in
    IfOk-both c.apply_constants.result
    (λ u (both : IsResult c.args.function.now (types_of_scalars ss) (λ _. cells_of_scalars ss) n (columnar_tree u) × HasNoFault (rows (columnar_tree u)))
    constant.
    applied (scalar_rows c.args.function.now n xs ss c.requires.call all) both.0 both.1 (constant ∙ sym (all_repeat n xs ss some all))
    (constant_formed (columnar_tree u) constant))
    (IfOk-both c.apply_constants.result (λ u made none. (made, none)) (rw c.as_slice.ensures.value at c.apply_constants.ensures.ok)
    c.apply_constants.ensures.whole) c.apply_constants.ensures.constant

pub returns-in-Some-clause-err : goal.returns-in-Some-clause-err
returns-in-Some-clause-err c =
    let all = rw c.in-Some.is at c.in_ok-scalars.ensures.all in
    let rows = scalar_rows c.args.function.now c.args.len c.args.arguments.now c.in-Some.scalars.items c.requires.call all in
    IfErr-weaker c.apply_constants.result _ _ (unapplied c.args.function.now rows) (rw c.as_slice.ensures.value at c.apply_constants.ensures.err)

pub returns-in_ok-column-in-None-clause-ok : goal.returns-in_ok-column-in-None-clause-ok
returns-in_ok-column-in-None-clause-ok c =
    let ts = map columnar_tree c.args.arguments.now in
    let made = c.in_ok-column-in-None.ensures.ok in
    let other = rw c.in-None.is at c.in_ok-scalars.ensures.not_all in
    let column = canonical_tree c.in_ok-column-in-None.column in
    let well = subst IsWell c.as_array.ensures.of c.well_formed_tree.ensures.formed in
    applied (own_rows ts c.args.len) made.result (canonical_told column well made.canonical made.result.clean made.told)
    (canonical_open (datum column) made.canonical ∙ sym other) made.formed
