use Rattle.std.proofs.Common.{◌≡◌, rules, ap, subst, ◌∙◌}
use Rattle.vx_value.specs.Types.{nullability_of}
use Rattle.vx_value.specs.Nullabilities.{union}
use Rattle.vx_value.specs.Supported.{has_columns}
use Rattle.vx_value.proofs.SupportedLemmas.{columns_kept}
use Rattle.vx_value.specs.View.{type_of}
use Rattle.vx_tree.specs.Canonicals.{columnar_tree}
use Rattle.vx_tree.specs.Cells.{rows}
use Rattle.vx_tree.specs.Tree.{dtype}
use Rattle.vx_tree.specs.Columns.{empty_of}
use Rattle.vx_tree.specs.Well.{IsWell}
use Rattle.vx_column.specs.LookedUp.{taken_type}
use Rattle.vx_column.proofs.LookedUpLemmas.{none_found}
use Rattle.vx_column.proofs.lookup.take.take_none.Goals as goal

pub returns-clause-ok : goal.returns-clause-ok
returns-clause-ok c =
    let codes = columnar_tree c.args.codes.now in
    let values = columnar_tree c.args.values.now in
    let well = subst IsWell c.as_array.ensures.of c.well_formed_tree.ensures.formed in
    let typed : type_of c.in_ok-dtype.dtype ≡ taken_type codes values = search rules in
    let columns = columns_kept (union (nullability_of (dtype codes)) (nullability_of (dtype values))) (dtype values) ∙ c.dtype-dtype.ensures.columns in
    none_found (taken_type codes values) codes (rows values) _ columns well c.requires.none (c.in_ok-column.ensures.ok ∙ ap empty_of typed)

pub empty-requires : goal.empty-requires
empty-requires c =
    let codes = columnar_tree c.args.codes.now in
    let values = columnar_tree c.args.values.now in
    let typed : type_of c.in_ok-dtype.dtype ≡ taken_type codes values = search rules in
    ap has_columns typed ∙ columns_kept (union (nullability_of (dtype codes)) (nullability_of (dtype values))) (dtype values) ∙ c.dtype-dtype.ensures.columns
