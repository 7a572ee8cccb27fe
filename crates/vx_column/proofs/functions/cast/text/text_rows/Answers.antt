use Rattle.std.proofs.Common.{◌≡◌, ℕ, map, ap, arith, ◌∙◌}
use Rattle.std.specs.List.{range_with_len}
use Rattle.vx_value.specs.declared.dtype.Storage.TheVariants.{Text}
use Rattle.vx_tree.specs.ColumnTypes.{are_bytes_of}
use Rattle.vx_column.specs.Arguments.{bytes_in}
use Rattle.vx_column.specs.ValidRows.{is_valid}
use Rattle.vx_column.specs.Casts.{none_unless}
use Rattle.vx_column.proofs.ComputedLemmas.{items_more}
use Rattle.vx_column.proofs.TextLemmas.{text_more}
use Rattle.vx_tree.specs.Views.{rows_of}
use Rattle.vx_tree.proofs.ViewsLemmas.{rows_packed}
use Rattle.vx_column.proofs.functions.cast.text.text_rows.Goals as goal

pub loop-index-preserved : goal.loop-index-preserved
loop-index-preserved c =
    let f = λ (j : ℕ). none_unless (is_valid c.args.valid.now j) (bytes_in c.args.bytes j) in
    let before = c.loop-index.invariant in
    let more = c.in_ok-push.ensures.ok in
    let text = c.in-Some.text.now in (
      more ∙ items_more f c.loop-index.rows c.loop-index.index text before.0 c.in-Some.ensures.0,
      ap (are_bytes_of Text) more ∙ text_more c.loop-index.rows text before.1 c.in-Some.ensures.1,
    )

pub returns-clause-rows : goal.returns-clause-rows
returns-clause-rows c =
    let f = λ (j : ℕ). none_unless (is_valid c.args.valid.now j) (bytes_in c.args.bytes j) in
    let all : c.loop-index.index ≡ c.args.len = omega arith in
    ap rows_of c.in_ok-finish.ensures.ok ∙ rows_packed c.loop-index.rows ∙ c.loop-index.invariant.0 ∙ ap (λ n. map f (range_with_len 0 n)) all

pub returns-clause-text : goal.returns-clause-text
returns-clause-text c =
    ap (are_bytes_of Text) (ap rows_of c.in_ok-finish.ensures.ok ∙ rows_packed c.loop-index.rows) ∙ c.loop-index.invariant.1
