use Rattle.std.proofs.Common.{map, sym, ap, subst, ◌∙◌}
use Rattle.vx_value.specs.Supported.{has_columns}
use Rattle.vx_tree.specs.Canonicals.{columnar_tree}
use Rattle.vx_tree.specs.Columns.{empty_of}
use Rattle.vx_tree.specs.Well.{IsWell}
use Rattle.vx_column.proofs.InterleavedLemmas.{first_typed, no_pairs}
use Rattle.vx_column.proofs.lookup.interleave.interleave_none.Goals as goal

pub returns-clause-ok : goal.returns-clause-ok
returns-clause-ok c =
    let arrays = columnar_tree c.args.array_indices.now in
    let places = columnar_tree c.args.row_indices.now in
    let values = map columnar_tree c.args.values.now in
    let typed = first_typed c.args.values.now c.index-values-0.result c.requires.pairs.some c.index-values-0.is in
    let columns = ap has_columns (sym typed) ∙ c.dtype.ensures.columns in
    let well = subst IsWell c.as_array.ensures.of c.well_formed_tree.ensures.formed in
    no_pairs arrays places values _ columns well c.requires.none (c.in_ok-column.ensures.ok ∙ ap empty_of (c.dtype.ensures.dtype ∙ typed))
