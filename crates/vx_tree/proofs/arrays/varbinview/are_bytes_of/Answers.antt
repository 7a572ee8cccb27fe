use Rattle.std.proofs.Common.{◌≡◌, true, sym, ap, rules, ◌∙◌}
use Rattle.vx_tree.specs.ColumnTypes.{are_bytes_of}
use Rattle.vx_tree.specs.Views.{rows_of}
use Rattle.vx_tree.proofs.BytesLemmas.{all_text, views_told}
use Rattle.vx_tree.proofs.arrays.varbinview.are_bytes_of.Goals as goal

pub returns-in-Text : goal.returns-in-Text
returns-in-Text c =
    let rows = rows_of c.args.rows.now in
    let told = all_text c.is_utf8.result rows c.is_utf8.ensures ∙ ap (λ s. are_bytes_of s rows) (sym c.in-Text.is) in
    record { bytes = told; views = told ∙ views_told c.args.storage c.args.rows.now c.lie_in_buffers.ensures }

pub returns-in_default : goal.returns-in_default
returns-in_default c =
    let told : true ≡ are_bytes_of c.args.storage (rows_of c.args.rows.now) = search rules in
    record { bytes = told; views = told ∙ views_told c.args.storage c.args.rows.now c.lie_in_buffers.ensures }
