use Rattle.std.proofs.Common.{ap, sym, ◌∙◌}
use Rattle.vx_mask.specs.Masks.{bits_in}
use Rattle.vx_mask.specs.Places.{true_place}
use Rattle.vx_mask.proofs.MasksLemmas.{place_in_trues, place_in_falses}
use Rattle.vx_mask.proofs.mask.Mask.rank.Goals as goal

pub returns-in-AllTrue : goal.returns-in-AllTrue
returns-in-AllTrue c =
    c.then_some.ensures ∙ place_in_trues c.in-AllTrue.len c.args.k ∙ ap (λ m. true_place (bits_in m) c.args.k) (sym c.in-AllTrue.is)

pub returns-in-AllFalse : goal.returns-in-AllFalse
returns-in-AllFalse c =
    sym (ap (λ m. true_place (bits_in m) c.args.k) c.in-AllFalse.is ∙ place_in_falses c.in-AllFalse.field-0 c.args.k)
