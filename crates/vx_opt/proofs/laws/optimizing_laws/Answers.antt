use Rattle.vx_opt.proofs.PassLemmas.{comes_at}
use Rattle.vx_opt.proofs.DescendsLemmas.{descends_at}
use Rattle.vx_opt.proofs.AnswersLemmas.{optimizing, descending}
use Rattle.vx_opt.proofs.laws.optimizing_laws.Goals as goal

pub returns-clause-optimizes : goal.returns-clause-optimizes
returns-clause-optimizes c = optimizing

pub returns-clause-descends : goal.returns-clause-descends
returns-clause-descends c = descending

pub returns-clause-comes : goal.returns-clause-comes
returns-clause-comes c = comes_at

pub returns-clause-descends_to : goal.returns-clause-descends_to
returns-clause-descends_to c = descends_at
