use Rattle.std.proofs.Common.{List, map, sym, subst}
use Rattle.vx_tree.specs.Tree.{slots_of}
use Rattle.vx_tree.specs.Canonicals.{columnar_tree}
use Rattle.vx_tree.specs.Well.{IsWell}
use Rattle.vx_tree.specs.declared.canonical.columnar.Columnar.{Columnar}
use Rattle.vx_step.specs.Steps.{IsDone}
use Rattle.vx_step.specs.Waiting.{ArePairs, IsPaired, IsNotPaired}
use Rattle.vx_step.proofs.InterleaveLemmas.{pairs_wait, may_pair, pairs_done, pairs_failed}
use Rattle.vx_step.proofs.interleave.interleave_or_wait.Goals as goal

pub returns-in-Some-clause-ok : goal.returns-in-Some-clause-ok
returns-in-Some-clause-ok c = pairs_wait c.args.array.now (slots_of c.args.slots.now) c.requires.shape c.requires.well c.in-Some.slot c.in-Some.ensures

pub interleave_columns-requires : goal.interleave_columns-requires
interleave_columns-requires c =
    let ts = map columnar_tree c.in_ok-columns-in-None.columns.items in
    subst (λ (xs : List Columnar). ArePairs (map columnar_tree xs)) (sym c.as_slice.ensures.value)
    (may_pair c.args.array.now (slots_of c.args.slots.now) c.requires.shape c.requires.well ts c.in_ok-columns-in-None.ensures)

pub returns-in-Ok-clause-ok : goal.returns-in-Ok-clause-ok
returns-in-Ok-clause-ok c =
    let ts = map columnar_tree c.in_ok-columns-in-None.columns.items in
    let u = columnar_tree c.in-Ok.column in
    let well : IsWell u = subst IsWell c.as_array.ensures.of c.well_formed_tree-in-Ok.ensures.formed in
    let paired = subst (λ (xs : List Columnar). IsPaired (map columnar_tree xs) u) c.as_slice.ensures.value c.in-Ok.ensures.ok in
    subst (λ x. IsDone c.args.array.now x) (sym c.into_array.ensures)
    (pairs_done c.args.array.now (slots_of c.args.slots.now) c.requires.shape c.requires.well ts c.in_ok-columns-in-None.ensures c.in-None.ensures u paired well
    c.as_array.ensures.columnar)

pub returns-clause-err : goal.returns-clause-err
returns-clause-err c =
    let ts = map columnar_tree c.in_ok-columns-in-None.columns.items in
    let failed = subst (λ (xs : List Columnar). IsNotPaired (map columnar_tree xs) c.in-Err.e) c.as_slice.ensures.value c.in-Err.ensures.err in
    pairs_failed c.args.array.now (slots_of c.args.slots.now) c.requires.shape c.requires.well ts c.in_ok-columns-in-None.ensures c.in-None.ensures c.in-Err.e failed
