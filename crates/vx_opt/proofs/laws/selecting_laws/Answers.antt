use Rattle.vx_opt.proofs.SelectLemmas.{slice_again, filter_again}
use Rattle.vx_opt.proofs.laws.selecting_laws.Goals as goal

pub returns-clause-slices : goal.returns-clause-slices
returns-clause-slices c = slice_again

pub returns-clause-filters : goal.returns-clause-filters
returns-clause-filters c = filter_again
