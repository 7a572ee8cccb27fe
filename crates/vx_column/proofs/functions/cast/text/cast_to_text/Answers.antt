use Rattle.std.proofs.lemmas.Result.{IfOk-weaker}
use Rattle.vx_tree.specs.Canonicals.{canonical_tree}
use Rattle.vx_column.specs.Arguments.{bytes_in}
use Rattle.vx_column.proofs.TextLemmas.{text_kept, text_made}
use Rattle.vx_tree.specs.Views.{rows_of}
use Rattle.vx_column.proofs.ViewsLemmas.{views_counted}
use Rattle.vx_column.proofs.functions.cast.text.cast_to_text.Goals as goal

pub returns-then-are_text-clause-ok : goal.returns-then-are_text-clause-ok
returns-then-are_text-clause-ok c =
    let are = (c.are_text.ensures c.args.len c.requires.bytes).0 c.if-are_text.true in
    IfOk-weaker c.stored_column.result _ _ (λ u h. (h.0, text_kept c.args.bytes.rows c.args.valid.now c.args.len (canonical_tree u) are h.1))
    c.stored_column.ensures.ok

pub returns-clause-ok : goal.returns-clause-ok
returns-clause-ok c =
    let made = c.in_ok-rows.ensures in
    IfOk-weaker c.valid_bytes.result _ _
    (λ u h. (h.0, text_made (bytes_in c.args.bytes) c.args.valid.now c.args.len (rows_of c.in_ok-rows.rows) (canonical_tree u) made.rows made.text h.1))
    c.valid_bytes.ensures.ok

pub valid_bytes-requires-clause-rows : goal.valid_bytes-requires-clause-rows
valid_bytes-requires-clause-rows c = views_counted c.in_ok-rows.rows _ c.args.len c.in_ok-rows.ensures.rows
