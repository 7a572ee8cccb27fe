use Rattle.std.proofs.Common.{◌∙◌, ap, subst, string_bytes}
use Rattle.vx_tree.specs.Tree.{dtype, datum, id_of}
use Rattle.vx_tree.specs.Cells.{rows}
use Rattle.vx_tree.specs.Well.{IsWell}
use Rattle.vx_tree.specs.Canonicals.{columnar_tree}
use Rattle.vx_tree.proofs.ColumnsLemmas.{column_known}
use Rattle.vx_json.specs.Output.{AddsRows, head_lines}
use Rattle.vx_json.proofs.OutputLemmas.{shows}
use Rattle.vx_json.proofs.text.column.column_text.Goals as goal

pub returns-clause-ok : goal.returns-clause-ok
returns-clause-ok c =
    let t = columnar_tree c.args.column.now in
    let text = string_bytes c.push_column.new.text in
    let head =
    c.in_ok-reserve.ensures.bytes ∙ c.in_ok-text.ensures.ok ∙ ap (λ u. head_lines (dtype u) (id_of (datum u))) c.as_array-array.ensures.of in
    shows (dtype t) (id_of (datum t)) (rows t) text (subst (λ old. AddsRows (dtype t) (rows t) old text) head c.in_ok-push_column.ensures.ok)

pub returns-clause-lawful : goal.returns-clause-lawful
returns-clause-lawful c =
    let well = subst IsWell c.as_array-array.ensures.of c.well_formed_tree.ensures.formed in
    (column_known (columnar_tree c.args.column.now) well c.as_array-array.ensures.columnar).lawful
