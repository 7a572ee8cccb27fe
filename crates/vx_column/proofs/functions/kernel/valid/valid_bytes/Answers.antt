use Rattle.std.proofs.Common.{[], get_or, sym, subst, ◌∙◌}
use Rattle.std.proofs.lemmas.List.{length-map}
use Rattle.std.proofs.lemmas.Result.{IfOk-weaker}
use Rattle.vx_tree.specs.Canonicals.{canonical_tree}
use Rattle.vx_tree.specs.Validities.{HasRows}
use Rattle.vx_column.proofs.MadeLemmas.{bytes_made}
use Rattle.vx_column.proofs.ValidRowsLemmas.{by_rows}
use Rattle.vx_tree.specs.Views.{rows_of, bytes_at}
use Rattle.vx_column.proofs.functions.kernel.valid.valid_bytes.Goals as goal

pub varbinview_column-requires-clause-sized : goal.varbinview_column-requires-clause-sized
varbinview_column-requires-clause-sized c = subst (HasRows c.in_ok-validity.validity) (sym c.requires.rows) c.in_ok-validity.ensures.ok.2

pub returns-clause-ok : goal.returns-clause-ok
returns-clause-ok c =
    let rs = rows_of c.args.rows in
    let long = length-map c.args.rows.views (bytes_at c.args.rows.buffers) ∙ c.requires.rows in
    IfOk-weaker c.varbinview_column.result _ _
    (λ u new. bytes_made c.args.valid.now c.args.len c.requires.valid c.in_ok-validity.validity c.in_ok-validity.ensures.ok c.args.storage c.args.rows
    (λ i. get_or rs i []) (canonical_tree u) (by_rows rs [] c.args.len long) new)
    c.varbinview_column.ensures.ok
