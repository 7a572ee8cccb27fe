use Rattle.std.proofs.Common.{◌∙◌, ap}
use Rattle.std.proofs.lemmas.List.Elements.{All-push}
use Rattle.vx_value.specs.View.{values_of}
use Rattle.vx_value.specs.ScalarParts.{IsSound}
use Rattle.vx_value.proofs.ScalarPartsLemmas.{values_push}
use Rattle.vx_value.proofs.parts.into_values.Goals as goal

pub loop-part-preserved : goal.loop-part-preserved
loop-part-preserved c =
    let l = c.loop-part in let s = c.in-Some.part in let v = c.into_value in (
      ap values_of c.in_ok-push.ensures.items ∙ values_push l.yielded s l.values.items v.result l.invariant.0 v.ensures.value,
      All-push IsSound l.yielded s l.invariant.1 (v.ensures.typed, v.ensures.fits),
    )
