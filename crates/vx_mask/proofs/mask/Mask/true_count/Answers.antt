use Rattle.std.proofs.Common.{ap, sym, ◌∙◌}
use Rattle.vx_mask.specs.Masks.{bits_in}
use Rattle.vx_mask.specs.Places.{true_count}
use Rattle.vx_mask.proofs.PlacesLemmas.{true_count-trues, true_count-falses}
use Rattle.vx_mask.proofs.mask.Mask.true_count.Goals as goal

pub returns-in-AllTrue : goal.returns-in-AllTrue
returns-in-AllTrue c = sym (ap (λ m. true_count (bits_in m)) c.in-AllTrue.is ∙ true_count-trues c.in-AllTrue.len)

pub returns-in-AllFalse : goal.returns-in-AllFalse
returns-in-AllFalse c = sym (ap (λ m. true_count (bits_in m)) c.in-AllFalse.is ∙ true_count-falses c.in-AllFalse.field-0)
