use Rattle.std.proofs.Common.{◌≡◌, if◌then◌else◌, false, sym, ap, arith, ◌∙◌}
use Rattle.std.proofs.lemmas.Option.{get_or_from_slice_get}
use Rattle.vx_column.specs.Arguments.{bytes_in}
use Rattle.vx_column.proofs.ComputedLemmas.{items_more}
use Rattle.vx_column.specs.Selected.{selected_by, selected_rows}
use Rattle.std.proofs.lemmas.Result.{IfOk-weaker}
use Rattle.vx_tree.specs.Views.{rows_of}
use Rattle.vx_tree.proofs.ViewsLemmas.{rows_packed}
use Rattle.vx_column.proofs.functions.select.select.select_views.Goals as goal

pub loop-index-preserved : goal.loop-index-preserved
loop-index-preserved c =
    let bits = c.args.choice.now in
    let i = c.loop-index.index in
    let l = bytes_in c.args.left in
    let r = bytes_in c.args.right in
    c.in_ok-push.ensures.ok
    ∙ items_more (selected_by bits l r) c.loop-index.rows i c.select_value.result.now c.loop-index.invariant
    (c.select_value.ensures ∙ ap (λ b. if b then l i else r i) (sym (get_or_from_slice_get bits i c.value-is_true.result false c.value-is_true.ensures)))

pub returns-clause-ok : goal.returns-clause-ok
returns-clause-ok c =
    let all : c.loop-index.index ≡ c.args.len = omega arith in
    let chosen = selected_rows c.args.choice.now (bytes_in c.args.left) (bytes_in c.args.right) in
    IfOk-weaker c.finish.result _ _ (λ r made. ap rows_of made ∙ rows_packed c.loop-index.rows ∙ c.loop-index.invariant ∙ ap chosen all) c.finish.ensures.ok
