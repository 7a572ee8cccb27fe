use Rattle.std.proofs.Common.{◌∙◌, ap, rules}
use Rattle.std.proofs.Math.Facts.{to_z-of_z}
use Rattle.std.specs.Int.{w128}
use Rattle.std.specs.Prelude.{option_and_then, FitsSigned}
use Rattle.vx_json.specs.SpelledValues.{within}
use Rattle.vx_json.proofs.values.InRangeNumberReader.number.Goals as goal

pub returns : goal.returns
returns g c =
    let kind = g.T.NativeInteger.kind in
    let fits : FitsSigned w128 c.in_ok-integer.field-0 = search rules in
    c.from_wide.ensures ∙ ap (within kind) (to_z-of_z fits) ∙ ap (option_and_then (within kind)) c.in_ok-integer.ensures
