use Rattle.std.proofs.Common.{sym, ◌∙◌}
use Rattle.vx_tree.specs.Canonicals.{canonical_tree}
use Rattle.vx_step.proofs.KernelsLemmas.{numbered_len}
use Rattle.vx_step.proofs.kernels.dict_over_filter.places_of.Goals as goal

pub filter_canonical-requires : goal.filter_canonical-requires
filter_canonical-requires c =
    c.requires ∙ sym (numbered_len c.args.count (canonical_tree c.in_ok-numbers.numbers) c.in_ok-numbers.ensures.ok)
