use Rattle.std.proofs.Common.{FitsSigned, Some, sym, ap, ◌∙◌, rules}
use Rattle.std.proofs.Math.Facts.{to_z-of_z}
use Rattle.std.specs.Int.{w128}
use Rattle.std.specs.Prelude.{option_map}
use Rattle.std.proofs.lemmas.Option.{slice_get-map}
use Rattle.vx_value.specs.Values.{integer}
use Rattle.vx_value.specs.Cell.{value}
use Rattle.vx_tree.specs.Natives.{values_of}
use Rattle.vx_column.proofs.rows.probe.integer_at.Goals as goal

pub returns-clause-row : goal.returns-clause-row
returns-clause-row c =
    let fits : FitsSigned w128 c.wide_at.result = search rules in
    rw c.primitive.ensures
    (slice_get-map (λ z. value (integer z)) (values_of c.args.values.now) c.args.index ∙ ap (option_map (λ z. value (integer z))) c.wide_at.ensures.value
    ∙ ap (λ z. Some (value (integer z))) (sym (to_z-of_z fits)))
