use Rattle.std.proofs.Common.{rules, if◌then◌else◌, false, ap, sym, ◌∙◌}
use Rattle.std.proofs.lemmas.Option.{get_or_from_slice_get}
use Rattle.vx_column.specs.Operands.{number_in}
use Rattle.vx_column.proofs.ComputedLemmas.{rows_more}
use Rattle.vx_column.specs.Selected.{selected_by}
use Rattle.vx_column.proofs.functions.select.select.select_numbers.Goals as goal

pub loop-index-preserved : goal.loop-index-preserved
loop-index-preserved g c =
    let read = g.T.Number.value in
    let bits = c.args.choice.now in
    let i = c.loop-index.index in
    let l = number_in read c.args.left in
    let r = number_in read c.args.right in
    rw c.push_reserved.ensures.items (
      search rules,
      search rules,
      rows_more read (selected_by bits l r) c.loop-index.numbers.items i c.select_row.result c.loop-index.invariant.2
          (ap (λ b. if b then l i else r i) (get_or_from_slice_get bits i c.value-is_true.result false c.value-is_true.ensures) ∙ sym c.select_row.ensures),
    )
