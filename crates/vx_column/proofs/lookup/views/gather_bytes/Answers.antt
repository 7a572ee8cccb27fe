use Rattle.std.proofs.Common.{◌≡◌, length, map, replicate, rules, ap, sym, subst, ◌∙◌}
use Rattle.std.specs.List.{range_with_len}
use Rattle.std.proofs.lemmas.Result.{IfOk-weaker}
use Rattle.vx_tree.specs.Views.{rows_of}
use Rattle.vx_tree.proofs.ViewsLemmas.{rows_repeated}
use Rattle.vx_column.specs.Arguments.{bytes_at}
use Rattle.vx_column.specs.LookedUp.{AreGatheredBytes}
use Rattle.vx_column.proofs.GatheredLemmas.{bytes_repeated, bytes_empty, views_gathered}
use Rattle.vx_column.proofs.lookup.views.gather_bytes.Goals as goal

pub returns-in-Value-clause-ok : goal.returns-in-Value-clause-ok
returns-in-Value-clause-ok c =
    let n = c.args.len in
    let is = c.in-Value.is in
    IfOk-weaker c.byte_rows.result _ _
    (λ r made. bytes_repeated c.args.bytes c.args.places.now c.args.valid.now n c.requires.bytes.0 r c.in-Value.field-0.now
    (made ∙ ap (λ x. map (λ i. bytes_at x i) (range_with_len 0 n)) is) (λ k. ap (λ x. bytes_at x k) is) c.requires.bytes.1)
    c.byte_rows.ensures.ok

pub returns-in-Rows-clause-ok : goal.returns-in-Rows-clause-ok
returns-in-Rows-clause-ok c =
    let n = c.args.len in
    let rs = c.in-Rows.rows.now in
    let none : length rs.views ≡ 0 = search rules in
    IfOk-weaker c.repeat.result _ _
    (λ r made. bytes_empty c.args.bytes rs r c.args.places.now c.args.valid.now n c.requires.bytes.0 none (λ k. ap (λ x. bytes_at x k) c.in-Rows.is)
    (ap rows_of made ∙ rows_repeated n c.empty.result ∙ ap (replicate n) c.empty.ensures) c.requires.bytes.1)
    c.repeat.ensures.ok

pub returns-in-Rows-2-clause-ok : goal.returns-in-Rows-2-clause-ok
returns-in-Rows-2-clause-ok c =
    let n = c.args.len in
    let rs = c.in-Rows-2.rows.now in
    let bytes = c.args.bytes in
    IfOk-weaker c.gather_views.result _ _
    (λ r new. subst (AreGatheredBytes bytes c.args.places.now c.args.valid.now n) (sym new)
    (views_gathered bytes rs c.args.places.now c.args.valid.now n c.requires.bytes.0 (λ k. ap (λ x. bytes_at x k) c.in-Rows-2.is) c.requires.bytes.1))
    c.gather_views.ensures.ok
