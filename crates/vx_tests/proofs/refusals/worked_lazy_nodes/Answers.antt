use Rattle.std.proofs.Common.{refl}
use Rattle.vx_mask.specs.Places.{true_count}
use Rattle.vx_tests.proofs.refusals.worked_lazy_nodes.Goals as goal

pub returns-clause-filter_len : goal.returns-clause-filter_len
unfolding true_count
returns-clause-filter_len c = refl

pub returns-clause-filter_fits : goal.returns-clause-filter_fits
unfolding true_count
returns-clause-filter_fits c = refl
