use Rattle.std.proofs.Common.{◌≡◌, ◌∙◌, length, ap, sym, subst, string_bytes}
use Rattle.std.proofs.lemmas.Result.{err_from_is_err_and, on_ok_weaker}
use Rattle.vx_tree.specs.Tree.{len}
use Rattle.vx_tree.specs.Cells.{rows}
use Rattle.vx_tree.specs.Canonicals.{columnar_tree}
use Rattle.vx_json.specs.Output.{IsUnread}
use Rattle.vx_json.proofs.OutputLemmas.{column_unread, adds_column}
use Rattle.vx_json.proofs.text.column.push_column.Goals as goal

pub returns-in_err-argument-clause-err : goal.returns-in_err-argument-clause-err
returns-in_err-argument-clause-err c =
    let t = columnar_tree c.args.column.now in
    let p = err_from_is_err_and c.from_residual.result c.from_residual.ensures.1 in
    rw p.1 (subst (IsUnread t) (sym p.2) (column_unread t c.in_err-argument.field-0.0 c.in_err-argument.ensures.err))

pub returns-clause-ok : goal.returns-clause-ok
returns-clause-ok c =
    let column = c.args.column.now in
    let of = c.as_array-array.ensures.of in
    let counted : length (rows (columnar_tree column)) ≡ len (columnar_tree column) =
    subst (λ x. length (rows x) ≡ len x) of c.well_formed_tree.ensures.counted in
    on_ok_weaker c.push_rows.result
    (adds_column column c.in_ok-argument.argument c.len.result (string_bytes c.args.text.now) (string_bytes c.push_rows.new.text)
    c.in_ok-argument.ensures.ok counted (c.len.ensures ∙ ap len of))
    c.push_rows.ensures.ok
