use Rattle.std.proofs.Common.{Some, ◌∙◌}
use Rattle.vx_tree.specs.Tree.{slice_of}
use Rattle.vx_rule.proofs.FitsLemmas.{fit_S3, raw_row}
use Rattle.vx_rule.proofs.encodings.column.slice_of_column.Goals as goal

pub returns : goal.returns
returns c =
    let a = c.args.range.start in
    let b = c.args.range.end in
    let x = c.args.array.now in
    raw_row (Some 0) (slice_of a b x) c.in_ok-column_slice.field-0 c.raw.result c.raw.ensures
    (λ u os e g. fit_S3 a b x u os c.requires.canonical c.requires.part.0 (e ∙ c.in_ok-column_slice.ensures.ok.range) g)
