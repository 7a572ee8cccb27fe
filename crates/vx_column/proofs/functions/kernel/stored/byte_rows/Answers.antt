use Rattle.std.proofs.Common.{◌≡◌, [], refl, subst, rules, ap, ◌∙◌}
use Rattle.std.proofs.lemmas.List.{length-map}
use Rattle.std.proofs.lemmas.Result.{IfOk-weaker}
use Rattle.vx_tree.specs.Views.{rows_of}
use Rattle.vx_tree.specs.Views.{bytes_at as viewed_at}
use Rattle.vx_tree.proofs.ViewsLemmas.{rows_repeated}
use Rattle.vx_column.specs.Arguments.{bytes_at, HasBytes}
use Rattle.vx_column.proofs.RowsLemmas.{rows_shared, value_repeated}
use Rattle.vx_column.proofs.functions.kernel.stored.byte_rows.Goals as goal

pub returns-in_ok-clone-in-Rows-clause-ok : goal.returns-in_ok-clone-in-Rows-clause-ok
returns-in_ok-clone-in-Rows-clause-ok c =
    let b = c.args.bytes in
    let n = c.args.len in
    let same : c.in_ok-clone-in-Rows.field-0 ≡ c.in-Rows.rows.now = search rules in
    let all = c.in-Rows.rows.now in
    let long = length-map all.views (viewed_at all.buffers) ∙ (subst (λ r. HasBytes b.storage r n) c.in-Rows.is c.requires).0 in
    rows_shared bytes_at b.rows n [] _ (rows_of all) _ c.in-Rows.is (ap rows_of same) long (λ i. refl)

pub returns-in_ok-value-in-Value-clause-ok : goal.returns-in_ok-value-in-Value-clause-ok
returns-in_ok-value-in-Value-clause-ok c =
    let value = c.in_ok-value-in-Value in
    IfOk-weaker c.repeat.result _ _
    (λ r made. value_repeated bytes_at c.args.bytes.rows c.args.len _ c.in-Value.value.now _ (rows_of r) c.in-Value.is
    (ap rows_of made ∙ rows_repeated c.args.len value.value) value.ensures.ok (λ i. refl))
    c.repeat.ensures.ok
