use Rattle.std.proofs.Common.{◌≡◌, ◌-◌, sym, subst}
use Rattle.vx_rule.specs.Counts.{capped}
use Rattle.vx_rule.specs.Weighings.{weighs, least}
use Rattle.vx_rule.proofs.WeighingsLemmas.{weighs_enlarged}
use Rattle.vx_rule.proofs.weight.SlotWeights.excess_by.Goals as goal

pub returns-in-Enlarged : goal.returns-in-Enlarged
returns-in-Enlarged c =
    λ ws h l. subst (λ g. c.saturating_add-in-Enlarged.result ≡ capped (weighs g c.args.len ws - least)) (sym c.in-Enlarged.is)
    (weighs_enlarged c.args.self ws h l c.total-in-Enlarged.result (c.total-in-Enlarged.ensures ws h l) c.args.len _ (cc))
