use Rattle.vx_tree.proofs.ChoicesLemmas.{slice_twice, filter_twice}
use Rattle.vx_tree.proofs.laws.choice_laws.Goals as goal

pub returns-clause-slices : goal.returns-clause-slices
returns-clause-slices c = slice_twice

pub returns-clause-filters : goal.returns-clause-filters
returns-clause-filters c = filter_twice
